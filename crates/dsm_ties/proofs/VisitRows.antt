-- Rows of a visit, in a fault or in the closing work: the node's word, its processors' mappings, its twin, its end.
use Rattle.std.proofs.Common.{◌≡◌, ◌≢◌, ◌⊎◌, inl, inr, ℕ, suc, ◌+◌, ◌*◌, ◌/◌, ◌<◌, ◌≤◌, ◌==◌, Bool, true, false, List, [], ◌∷◌, length, refl, sym, ap, ◌∙◌, arith, if◌then◌else◌}
use Rattle.std.specs.Prelude.{not, IfSome}
use Rattle.std.proofs.lemmas.Bool.{cases_eq, eq-eqb, ne_eqb, eqb-true, eqb-false}
use Rattle.std.proofs.Math.Nat.{div-eq_of_lt-le}
use Rattle.dsm_words.specs.declared.item.Item.{Item}
use Rattle.dsm_words.specs.declared.item.Item.TheVariants.{Nle}
use Rattle.dsm_words.specs.Place.{IsWithin, processors, total}
use Rattle.dsm_words.specs.Pages.{group_of, bit_of, has_page}
use Rattle.dsm_words.specs.Script.{Act, Or}
use Rattle.dsm_words.specs.Words.{word, done}
use Rattle.dsm_words.proofs.WordLaws.{word_other}
use Rattle.dsm_clock.specs.declared.turns.TurnId.{TurnId}
use Rattle.dsm_directory.specs.Directory.{is_busy}
use Rattle.dsm_protocol.specs.Own.{Own, Who, node_of}
use Rattle.dsm_protocol.specs.Stages.{Cause, Fault, Closing, Round, Told, Whole, Stage, Looking, Breaking, Marking, Saving, Ending, Parted, Ready, Setting, Work, On, held_alone}
use Rattle.dsm_protocol.specs.Rows.{Step, Wins, Slip, looks, reads_map, marks, saves, saves_twin, saves_home, twins_broken, breaks, departs, sees_again, visits, returns, closes, marked, broken, broadcast}
use Rattle.dsm_protocol.proofs.Placed.{IsPlaced, group_in}
use Rattle.dsm_owners.specs.Stages as O
use Rattle.dsm_owners.specs.Acts as A
use Rattle.dsm_owners.specs.Directory.{Node, Processor as Reader, State, Event, Do}
use Rattle.dsm_ties.specs.Views.{why, stage_view, told_in, home_in, time_in, is_soiling, IsHomeOf, IsMet}
use Rattle.dsm_ties.specs.Tied.{has_bit, Knows, Match}
use Rattle.dsm_ties.proofs.Frame as F

-- the processors of node j have these numbers
node_is : (procs j q : ℕ) → j * procs ≤ q → q < j * procs + procs → q / procs ≡ j
node_is procs j q lo hi = div-eq_of_lt-le procs lo (omega (arith, hi, one_more j procs))
  where
    one_more : (a b : ℕ) → (a + 1) * b ≡ a * b + b
    one_more a b = grind arith

module _ (u : Who) (at : IsPlaced u) (g : ℕ) (g_in : g < u.lay.pages) (ws : List ℕ) (long : length ws ≡ total u.lay) (b : State) (m : Match u g ws b) (o : Own) where
  abbrev pub Row_acts : {w v : Work} {a : Act} {z : ℕ} → Step u o.maps o.dirty w a z v → Type 0
  Row_acts step = F.RowActs u at g g_in ws long b m o step

  abbrev pub Decision : {w v : Work} → Slip u o.maps o.dirty w v → Type 0
  Decision slip = F.SlipActs u at g g_in ws long b m o slip

  abbrev pub Turn_won : {w v : Work} {t : TurnId} → Wins u o.maps o.dirty w t v → Type 0
  Turn_won win = F.WinActs u at g g_in ws long b m o win

  abbrev pub Acted : Work → List ℕ → List Event → Type 0
  Acted = F.Acted u at g g_in ws long b m o

  abbrev pub Now : Work → Type 0
  Now w = F.Now u at g g_in ws long b m w o

  abbrev pub x : Node
  x = b.nodes (node_of u)

  abbrev pub y : Reader
  y = b.processors u.p

  -- the home that a fault has found, at the last store of a break
  ends_home : (j : ℕ) (c : Cause) (h : ℕ) → b.home ≡ suc h → IsHomeOf c h → IfSome (home_in (Ending c j)) (λ h. b.home ≡ suc h)
  ends_home j (Fault write h' busy) h e d = e ∙ ap suc d
  ends_home j Closing h e d = tt

  module _ {r : Round} where
    pub row_looks : {j x : ℕ} {c : Cause} → Row_acts (looks {r = r} {g = g} {j = j} {x = x} {c = c})
    row_looks {j = j} {x = v} {c = c} f k = F.load u at g g_in ws long b m _ (go c k (v == 2) refl)
      where
        is : (b.nodes j).dir ≡ v
        is = sym (f.told ∙ m.dir j f.within.0)

        go : (c : Cause) → Now (On r g (Looking c j)) → (e : Bool) → (v == 2) ≡ e → Acted (On r g (if e then held_alone u c j else Parted c j)) ws (if e then Do u.p (A.Look_sole (why c) j) ∷ [] else Do u.p (A.Look_on (why c) j) ∷ [])
        go (Fault write h busy) k true e = F.reads u at g g_in ws long b m (A.Look_sole (why (Fault write h busy)) j) k refl (is ∙ eqb-true v 2 e) refl refl refl refl (k.homes refl) tt refl
        go (Fault write h busy) k false e = F.reads u at g g_in ws long b m (A.Look_on (why (Fault write h busy)) j) k refl (λ d. eqb-false v 2 e (sym is ∙ d)) refl refl refl refl (k.homes refl) tt tt
        go Closing k true e = F.reads u at g g_in ws long b m (A.Look_sole O.closing j) k refl (is ∙ eqb-true v 2 e) refl refl refl refl tt tt tt
        go Closing k false e = F.reads u at g g_in ws long b m (A.Look_on O.closing j) k refl (λ d. eqb-false v 2 e (sym is ∙ d)) refl refl refl refl tt tt tt

    pub row_reads_map : {h j q x : ℕ} {c : Cause} → Row_acts (reads_map {r = r} {g = g} {h = h} {j = j} {q = q} {x = x} {c = c})
    row_reads_map {h = h} {j = j} {q = q} {x = v} {c = c} f k = F.load u at g g_in ws long b m _ (go (v == 2))
      where
        go : (e : Bool) → Acted (On r g (if e then Marking c h j q else Breaking c h j (q + 1))) ws []
        go true = F.no_event u at g g_in ws long b m k refl refl (k.homes refl) tt (k.met refl) m
        go false = F.no_event u at g g_in ws long b m k refl refl (k.homes refl) tt (k.met refl) m

    pub row_marks : {h j q x : ℕ} {c : Cause} (lo : j * u.lay.procs ≤ q) (hi : q < j * u.lay.procs + u.lay.procs) → Row_acts (marks {r = r} {g = g} {h = h} {j = j} {q = q} {x = x} {c = c} lo hi)
    row_marks {h = h} {j = j} {q = q} {c = c} lo hi f k = record { runs = ((F.stage_is u at g g_in ws long b m k, at.node_in, of_node), tt); match = matched; knows = known }
      where
        act : Act
        act = Or (Nle q (group_of g)) (bit_of g)

        z : Reader
        z = record (b.processors q) { nle = true }

        of_node : q / u.lay.procs ≡ j
        of_node = node_is u.lay.procs j q lo hi

        other : (it : Item) → IsWithin u.lay it → it ≢ Nle q (group_of g) → word u.lay (done u.lay ws act) it ≡ word u.lay ws it
        other it i ne = word_other u.lay ws act it f.within i ne

        own : {B : Type 0} (P : Reader → B) → P z ≡ P (b.processors q) → (p : ℕ) → P (b.processors p) ≡ P (A.put b.processors q z p)
        own P e p = go (cases_eq p q)
          where
            go : (p ≡ q) ⊎ (p ≢ q) → P (b.processors p) ≡ P (A.put b.processors q z p)
            go (inl d) = rw (eq-eqb p q d) (ap (λ i. P (b.processors i)) d ∙ sym e)
            go (inr ne) = rw (ne_eqb p q ne) refl

        told_all : (p : ℕ) → p < processors u.lay → (p ≡ q) ⊎ (p ≢ q) → has_bit g (word u.lay (done u.lay ws act) (Nle p (group_of g))) ≡ true → (A.put b.processors q z p).nle ≡ true
        told_all p i (inl d) e = rw (eq-eqb p q d) refl
        told_all p i (inr ne) e = rw (ne_eqb p q ne) (m.nle p i (ap (has_bit g) (sym (other (Nle p (group_of g)) (i, group_in u.lay g g_in) (λ d. ne (cc d)))) ∙ e))

        matched : Match u g (done u.lay ws act) (record b { processors = A.put b.processors q z })
        matched =
            record {
              home = other _ g_in (λ d. absurd (cc d)) ∙ m.home;
              low = m.low;
              dir = λ n i. other _ (i, g_in) (λ d. absurd (cc d)) ∙ m.dir n i;
              twined = λ n i. other _ (i, g_in) (λ d. absurd (cc d)) ∙ m.twined n i;
              update = λ n i. ap (λ z. not (z == 0)) (other _ (i, g_in) (λ d. absurd (cc d))) ∙ m.update n i;
              turn = λ n i. other _ (i, g_in) (λ d. absurd (cc d)) ∙ m.turn n i;
              map = λ p i. other _ (i, g_in) (λ d. absurd (cc d)) ∙ m.map p i ∙ own (λ z. z.map) refl p;
              nle = λ p i e. told_all p i (cases_eq p q) e;
              posted = λ n l i c e. m.posted n l i c (ap (has_bit g) (sym (other _ (i, c, group_in u.lay g g_in) (λ d. absurd (cc d)))) ∙ e);
              listed = λ p i e. m.listed p i (ap (has_bit g) (sym (other _ (i, group_in u.lay g g_in) (λ d. absurd (cc d)))) ∙ e);
            }

        -- the processor itself may be of that node
        known : Knows u g b.home x (A.put b.processors q z u.p) (On r g (Breaking c h j (q + 1))) o
        known = record { at = sym (own (λ z. z.stage) refl u.p) ∙ k.at; round = k.round; met = k.met; dirty = λ e d. sym (own (λ z. z.dirty) refl u.p) ∙ k.dirty refl d; soils = λ _ e. absurd (cc e); joins = tt; told = told r k.told; heard = tt; homes = k.homes; times = λ _. tt }
          where
            told : (r : Round) → IfSome (told_in (On r g (Marking c h j q))) (λ set. has_page set g ≡ true → x.noted ≡ true) → IfSome (told_in (On r g (Breaking c h j (q + 1)))) (λ set. has_page set g ≡ true → x.noted ≡ true)
            told (Told set q) f = f
            told r f = tt

    pub row_saves : {h j i x : ℕ} {c : Cause} → Row_acts (saves {r = r} {g = g} {h = h} {j = j} {i = i} {x = x} {c = c})
    row_saves f k = F.load u at g g_in ws long b m _ (F.no_event u at g g_in ws long b m k refl refl (k.homes refl) tt (k.met refl) m)

    pub row_saves_twin : {h j i v x : ℕ} {c : Cause} → Row_acts (saves_twin {r = r} {g = g} {h = h} {j = j} {i = i} {v = v} {x = x} {c = c})
    row_saves_twin f k = F.no_event u at g g_in ws long b m k refl refl (k.homes refl) tt (k.met refl) (F.untouched u at g g_in ws long b m _ f.within (λ e. e))

    pub row_saves_home : {h j i v x : ℕ} {c : Cause} → Row_acts (saves_home {r = r} {g = g} {h = h} {j = j} {i = i} {v = v} {x = x} {c = c})
    row_saves_home f k = F.no_event u at g g_in ws long b m k refl refl (k.homes refl) tt (k.met refl) (F.untouched u at g g_in ws long b m _ f.within (λ e. e))

    pub row_twins_broken : {h j x : ℕ} {c : Cause} (e : (j == h) ≡ false) → Row_acts (twins_broken {r = r} {g = g} {h = h} {j = j} {x = x} {c = c} e)
    row_twins_broken {h = h} {j = j} {c = c} e f k =
        F.acts u at g g_in ws long b m (A.Twin_up (why c) j) k refl (λ d. eqb-false j h e (let i = k.homes refl in omega (arith, d, i))) (F.twined_put u at g g_in ws long b m (A.Twin_up (why c) j) 1 f.within.0 refl refl refl refl refl refl refl) refl refl refl refl (ends_home j c h (k.homes refl) (k.met refl)) tt tt

    pub row_breaks : {j x : ℕ} {c : Cause} → Row_acts (breaks {r = r} {g = g} {j = j} {x = x} {c = c})
    row_breaks {j = j} {c = Fault write h busy} f k = F.acts u at g g_in ws long b m (A.Break (O.faulting write (is_busy busy)) j) k refl tt (F.dir_put u at g g_in ws long b m (A.Break (O.faulting write (is_busy busy)) j) 1 f.within.0 refl refl refl refl refl refl refl) refl refl refl refl (k.homes refl) tt tt
    row_breaks {j = j} {c = Closing} f k = F.acts u at g g_in ws long b m (A.Break O.closing j) k refl tt (F.dir_put u at g g_in ws long b m (A.Break O.closing j) 1 f.within.0 refl refl refl refl refl refl refl) refl refl refl refl tt tt tt

    pub row_departs : {j x : ℕ} {c : Cause} → Row_acts (departs {r = r} {g = g} {j = j} {x = x} {c = c})
    row_departs {j = j} {c = Fault write h busy} f k =
        F.acts u at g g_in ws long b m (A.Go_back write (is_busy busy) j) k refl tt (F.turn_put u at g g_in ws long b m (A.Go_back write (is_busy busy) j) 0 f.within.0 refl refl refl refl refl refl refl) refl refl (ap (λ z. O.Visiting write z (is_busy busy)) (F.suc_is u at g g_in ws long b m j)) refl (k.homes refl) tt tt
    row_departs {j = j} {c = Closing} f k =
        record {
          runs = ((F.stage_is u at g g_in ws long b m k, at.node_in, tt), tt);
          match = F.turn_put u at g g_in ws long b m (A.Close_end j) 0 f.within.0 refl refl refl refl refl refl refl;
          knows = rw (eq-eqb u.p u.p refl) (record { at = refl; round = tt; met = tt; dirty = λ e d. k.dirty refl d; soils = tt; joins = tt; told = tt; heard = tt; homes = tt; times = tt });
        }

    pub row_sees_again : {h x : ℕ} {write : Bool} → Row_acts (sees_again {r = r} {g = g} {h = h} {x = x} {write = write})
    row_sees_again {h = h} {x = v} {write = write} f k = F.load u at g g_in ws long b m _ (go (v == 2) refl)
      where
        is : x.dir ≡ v
        is = sym (f.told ∙ m.dir (node_of u) at.node_in)

        go : (c : Bool) → (v == 2) ≡ c → Acted (On r g (if c then Setting write true else Ready write h)) ws (if c then Do u.p (A.Back_sole write) ∷ [] else Do u.p (A.Back_on write) ∷ [])
        go true e = F.reads u at g g_in ws long b m (A.Back_sole write) k refl (is ∙ eqb-true v 2 e) refl refl refl refl tt tt tt
        go false e = F.reads u at g g_in ws long b m (A.Back_on write) k refl (λ d. eqb-false v 2 e (sym is ∙ d)) refl refl refl refl (k.homes refl) tt tt

    pub slip_marked : {h j : ℕ} {c : Cause} → Decision (marked {r = r} {g = g} {h = h} {j = j} {c = c})
    slip_marked {h = h} {j = j} {c = c} own all k = go (j == h) refl
      where
        go : (d : Bool) → (j == h) ≡ d → Acted (On r g (if d then Ending c j else Saving c h j 0 Whole)) ws (if d then Do u.p (A.Twin_home (why c) j) ∷ [] else [])
        go true e = F.reads u at g g_in ws long b m (A.Twin_home (why c) j) k refl (k.homes refl ∙ ap suc (sym (eqb-true j h e))) refl refl refl refl (ends_home j c h (k.homes refl) (k.met refl)) tt tt
        go false e = F.no_event u at g g_in ws long b m k refl refl (k.homes refl) tt (k.met refl) m

    pub win_visits : {h busy i : ℕ} {write : Bool} (j : ℕ) (lo : i ≤ j) (is : is_busy busy j ≡ true) (none : (k : ℕ) → i ≤ k → k < j → is_busy busy k ≡ false) → Turn_won (visits {r = r} {g = g} {h = h} {busy = busy} {i = i} {write = write} j lo is none)
    win_visits {busy = busy} {i = i} {write = write} j lo is none f k =
        F.acts u at g g_in ws long b m (A.Visit write i (is_busy busy) j) k refl (sym (m.turn j f.within.0) ∙ sym f.told, lo, is, none) (F.turn_won u at g g_in ws long b m (A.Visit write i (is_busy busy) j) f.within.0 (sym f.told) refl refl refl refl refl refl refl) refl refl refl refl (k.homes refl) tt tt

    pub win_returns : {h busy i : ℕ} {write : Bool} (none : (k : ℕ) → i ≤ k → k < u.lay.nodes → is_busy busy k ≡ false) → Turn_won (returns {r = r} {g = g} {h = h} {busy = busy} {i = i} {write = write} none)
    win_returns {busy = busy} {i = i} {write = write} none f k =
        F.acts u at g g_in ws long b m (A.Return write i (is_busy busy)) k refl (sym (m.turn (node_of u) at.node_in) ∙ sym f.told, none) (F.turn_won u at g g_in ws long b m (A.Return write i (is_busy busy)) at.node_in (sym f.told) refl refl refl refl refl refl refl) refl refl refl refl (k.homes refl) tt tt

  pub win_closes : {j : ℕ} → Turn_won (closes {g = g} {j = j})
  win_closes {j} f k =
      record {
        runs = ((k.at, at.node_in, sym (m.turn j f.within.0) ∙ sym f.told), tt);
        match = F.turn_won u at g g_in ws long b m (A.Close j) f.within.0 (sym f.told) refl refl refl refl refl refl refl;
        knows = rw (eq-eqb u.p u.p refl) (record { at = rw (eq-eqb g g refl) refl; round = tt; met = λ _. tt; dirty = λ e d. k.dirty refl d; soils = λ _ d. absurd (cc d); joins = tt; told = tt; heard = tt; homes = λ _. tt; times = λ _. tt });
      }

  -- what is known stays at a stage that is seen at the same place
  same : {s t : Stage} (r : Round) → Now (On r g s) → stage_view u t ≡ stage_view u s → is_soiling t ≡ false → IfSome (home_in t) (λ h. b.home ≡ suc h) → IfSome (time_in t) (λ z. z ≢ 0) → IsMet t → Now (On r g t)
  same {s} {t} r k e so ho ti me =
      record { at = F.stage_is u at g g_in ws long b m k ∙ sym e ∙ sym (rw (eq-eqb g g refl) refl); round = k.round; met = λ _. me; dirty = λ c d. k.dirty refl d; soils = λ _ d. absurd (cc (sym so ∙ d)); joins = tt; told = go r k.told; heard = tt; homes = λ _. ho; times = λ _. ti }
    where
      go : (r : Round) → IfSome (told_in (On r g s)) (λ set. has_page set g ≡ true → x.noted ≡ true) → IfSome (told_in (On r g t)) (λ set. has_page set g ≡ true → x.noted ≡ true)
      go (Told set q) f = f
      go r f = tt

  pub note_broken : {r : Round} {j : ℕ} {c : Cause} → F.NoteActs u at g g_in ws long b m o (broken {r = r} {g = g} {j = j} {c = c})
  note_broken {r = r} {c = Fault write h busy} k = same r k refl refl (k.homes refl) tt tt
  note_broken {r = r} {c = Closing} k = same r k refl refl tt tt tt

  pub note_broadcast : {r : Round} {j : ℕ} {c : Cause} → F.NoteActs u at g g_in ws long b m o (broadcast {r = r} {g = g} {j = j} {c = c})
  note_broadcast {r = r} {c = Fault write h busy} k = same r k refl refl (k.homes refl) tt tt
  note_broadcast {r = r} {c = Closing} k = same r k refl refl tt tt tt
