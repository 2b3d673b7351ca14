-- Rows of a page of a release, until all is told.
use Rattle.std.proofs.Common.{◌≡◌, ◌≢◌, ◌⊎◌, inl, inr, ℕ, suc, ◌+◌, ◌/◌, ◌<◌, ◌==◌, Bool, true, false, List, [], ◌∷◌, length, refl, sym, ap, ◌∙◌, arith, if◌then◌else◌}
use Rattle.std.specs.Prelude.{not, nat_lt, ◌||◌, None, slice_index_or}
use Rattle.std.proofs.lemmas.Bool.{cases_eq, ne_eqb, eq-eqb, eqb-true, eqb-false}
use Rattle.dsm_words.specs.declared.item.Item.{Item}
use Rattle.dsm_words.specs.declared.item.Item.TheVariants.{Clock, Flush, Twined, Map, Dir, Update, Turn, Nle, Home, Own as OwnWord, Global}
use Rattle.dsm_words.specs.Place.{IsWithin, groups, total}
use Rattle.dsm_words.specs.Pages.{group_of, bit_of}
use Rattle.dsm_words.specs.Script.{Act, Put, Add, Or}
use Rattle.dsm_words.specs.Words.{word, done}
use Rattle.dsm_words.proofs.WordLaws.{word_other}
use Rattle.dsm_clock.specs.declared.turns.TurnId.{TurnId}
use Rattle.dsm_protocol.specs.Own.{Own, Who, node_of}
use Rattle.dsm_protocol.specs.Jobs.{Note}
use Rattle.dsm_protocol.specs.Stages.{Round, Releasing, Whole, Differs, Seeking, For_release, Drawing, Timed, Flushing, Stamping, Stamped, Posting, Telling, Lowering, Done, Work, On}
use Rattle.dsm_protocol.specs.Rows.{Step, Wins, Slip, Noted, sees_release, lasts, draws_send, tests_flush, flushes, flushes_same, flushes_twin, flushes_home, stamps_flush, reads_dir, posts, releases, flushed_all, unsent, posted, untold, sent, told}
use Rattle.dsm_protocol.proofs.Placed.{IsPlaced, group_in}
use Rattle.dsm_owners.specs.Stages as O
use Rattle.dsm_owners.specs.Acts as A
use Rattle.dsm_owners.specs.Directory.{Node, Processor as Reader, State, Event, Do, after_event}
use Rattle.dsm_ties.specs.Events.{send_events}
use Rattle.dsm_ties.specs.Tied.{bit, has_bit, Match}
use Rattle.dsm_ties.proofs.Acting.{knows_at}
use Rattle.dsm_ties.proofs.Frame as F

-- a node that is told is neither the own one nor the home
told_to : (c d e : Bool) → (c || d || e) ≡ false → (d ≡ false) × (e ≡ false)
told_to false false false i = (refl, refl)
told_to false false true i = absurd (cc i)
told_to false true e i = absurd (cc i)
told_to true d e i = absurd (cc i)

module _ (u : Who) (at : IsPlaced u) (g : ℕ) (g_in : g < u.lay.pages) (ws : List ℕ) (long : length ws ≡ total u.lay) (b : State) (m : Match u g ws b) (o : Own) where
  abbrev Row : {w v : Work} {a : Act} {z : ℕ} → Step u o.maps o.dirty w a z v → Type 0
  Row step = F.RowActs u at g g_in ws long b m o step

  abbrev Turned : {w v : Work} {t : TurnId} → Wins u o.maps o.dirty w t v → Type 0
  Turned win = F.WinActs u at g g_in ws long b m o win

  abbrev Decision : {w v : Work} → Slip u o.maps o.dirty w v → Type 0
  Decision slip = F.SlipActs u at g g_in ws long b m o slip

  abbrev Noting : {w v : Work} {i : Note} → Noted u None w i v → Type 0
  Noting noted = F.NoteActs u at g g_in ws long b m o noted

  abbrev Acted : Work → List ℕ → List Event → Type 0
  Acted = F.Acted u at g g_in ws long b m o

  pub win_releases : {t0 : ℕ} (e : slice_index_or o.dirty g false ≡ true) → Turned (releases {t0 = t0} {g = g} e)
  win_releases e f k =
      record {
        runs = ((k.at, at.node_in, (sym (m.turn (node_of u) at.node_in) ∙ sym f.told, k.dirty refl e)), tt);
        match = F.turn_won u at g g_in ws long b m A.Release at.node_in (sym f.told) refl refl refl refl refl refl refl;
        knows = rw (eq-eqb u.p u.p refl) (record { at = rw (eq-eqb g g refl) refl; round = tt; met = λ _. tt; dirty = λ c d. k.dirty refl d; soils = λ _ d. absurd (cc d); joins = tt; told = tt; heard = tt; homes = λ _. tt; times = λ _. tt });
      }

  pub row_lasts : {t0 q h x : ℕ} → Row (lasts {t0 = t0} {k = q} {g = g} {h = h} {x = x})
  row_lasts {t0} {q} {h} {x} f k = F.load u at g g_in ws long b m _ (go (nat_lt t0 x))
    where
      go : (c : Bool) → Acted (On (Releasing t0 q) g (if c then Lowering false else Drawing h)) ws (if c then Do u.p A.Coalesce ∷ [] else [])
      go true = F.reads u at g g_in ws long b m A.Coalesce k refl tt refl refl refl refl tt tt tt
      go false = F.no_event u at g g_in ws long b m k refl refl (k.homes refl) tt tt m

  -- where a time of the page is stored, its words are as they were
  stamped : (t : ℕ) (e : A.Act) → IsWithin u.lay (Flush (node_of u) g) → Match u g ws (after_event (F.node u at g g_in ws long b m) b (Do u.p e)) → Match u g (done u.lay ws (Put (Flush (node_of u) g) t)) (after_event (F.node u at g g_in ws long b m) b (Do u.p e))
  stamped t e within same = F.untouched u at g g_in ws long _ same (Put (Flush (node_of u) g) t) within (λ e. e)

  -- node j is told
  module _ (j : ℕ) (flushed : Bool) (within : IsWithin u.lay (Global j (node_of u) (group_of g))) where
    abbrev posting : Act
    posting = Or (Global j (node_of u) (group_of g)) (bit_of g)

    abbrev now_noted : Node
    now_noted = record (b.nodes j) { noted = true }

    abbrev nodes : ℕ → Node
    nodes = A.put b.nodes j now_noted

    abbrev processors : ℕ → Reader
    processors = A.put b.processors u.p (record (b.processors u.p) { stage = O.Posting flushed })

    kept : {A : Type 0} (P : Node → A) → P now_noted ≡ P (b.nodes j) → (i : ℕ) → P (b.nodes i) ≡ P (nodes i)
    kept P same i = go (cases_eq i j)
      where
        go : (i ≡ j) ⊎ (i ≢ j) → P (b.nodes i) ≡ P (nodes i)
        go (inl d) = rw (eq-eqb i j d) (ap (λ z. P (b.nodes z)) d ∙ sym same)
        go (inr ne) = rw (ne_eqb i j ne) refl

    kept_own : {A : Type 0} (P : Reader → A) → P (record (b.processors u.p) { stage = O.Posting flushed }) ≡ P (b.processors u.p) → (q : ℕ) → P (b.processors q) ≡ P (processors q)
    kept_own P same q = go (cases_eq q u.p)
      where
        go : (q ≡ u.p) ⊎ (q ≢ u.p) → P (b.processors q) ≡ P (processors q)
        go (inl d) = rw (eq-eqb q u.p d) (ap (λ z. P (b.processors z)) d ∙ sym same)
        go (inr ne) = rw (ne_eqb q u.p ne) refl

    up : (i : ℕ) → (b.nodes i).noted ≡ true → (nodes i).noted ≡ true
    up i d = go (cases_eq i j)
      where
        go : (i ≡ j) ⊎ (i ≢ j) → (nodes i).noted ≡ true
        go (inl c) = rw (eq-eqb i j c) refl
        go (inr ne) = rw (ne_eqb i j ne) d

    other : (it : Item) → IsWithin u.lay it → it ≢ Global j (node_of u) (group_of g) → word u.lay (done u.lay ws posting) it ≡ word u.lay ws it
    other it i ne = word_other u.lay ws posting it within i ne

    k_in : group_of g < groups u.lay
    k_in = group_in u.lay g g_in

    has : (i l : ℕ) → i < u.lay.nodes → l < u.lay.nodes → has_bit g (word u.lay (done u.lay ws posting) (Global i l (group_of g))) ≡ true → (nodes i).noted ≡ true
    has i l c d z = go (cases_eq i j)
      where
        go : (i ≡ j) ⊎ (i ≢ j) → (nodes i).noted ≡ true
        go (inl same) = rw (eq-eqb i j same) refl
        go (inr ne) = up i (m.posted i l c d (ap (has_bit g) (sym (other (Global i l (group_of g)) (c, d, k_in) (λ q. ne (cc q)))) ∙ z))

    noted_match : Match u g (done u.lay ws posting) (record { home = b.home; nodes = nodes; processors = processors })
    noted_match =
        record {
          home = other (Home g) g_in (λ d. absurd (cc d)) ∙ m.home;
          low = m.low;
          dir = λ i l. other (Dir i g) (l, g_in) (λ d. absurd (cc d)) ∙ m.dir i l ∙ kept (λ z. z.dir) refl i;
          twined = λ i l. other (Twined i g) (l, g_in) (λ d. absurd (cc d)) ∙ m.twined i l ∙ ap bit (kept (λ z. z.twined) refl i);
          update = λ i l. ap (λ z. not (z == 0)) (other (Update i g) (l, g_in) (λ d. absurd (cc d))) ∙ m.update i l ∙ kept (λ z. z.update) refl i;
          turn = λ i l. other (Turn i g) (l, g_in) (λ d. absurd (cc d)) ∙ m.turn i l ∙ kept (λ z. z.turn) refl i;
          map = λ q l. other (Map q g) (l, g_in) (λ d. absurd (cc d)) ∙ m.map q l ∙ kept_own (λ z. z.map) refl q;
          nle = λ q l d. sym (kept_own (λ z. z.nle) refl q) ∙ m.nle q l (ap (has_bit g) (sym (other (Nle q (group_of g)) (l, k_in) (λ c. absurd (cc c)))) ∙ d);
          posted = has;
          listed = λ q l d. up (q / u.lay.procs) (m.listed q l (ap (has_bit g) (sym (other (OwnWord q (group_of g)) (l, k_in) (λ c. absurd (cc c)))) ∙ d));
        }

  module _ {r : Round} where
    pub row_sees_release : {x : ℕ} → Row (sees_release {r = r} {g = g} {x = x})
    row_sees_release {x} f k = F.load u at g g_in ws long b m _ (go (x == 2) refl)
      where
        is : (b.nodes (node_of u)).dir ≡ x
        is = sym (f.told ∙ m.dir (node_of u) at.node_in)

        go : (c : Bool) → (x == 2) ≡ c → Acted (On r g (if c then Done else Seeking For_release)) ws (if c then Do u.p A.Release_sole ∷ [] else Do u.p A.Release_on ∷ [])
        go true e = F.reads u at g g_in ws long b m A.Release_sole k refl (is ∙ eqb-true x 2 e) refl refl refl refl tt tt tt
        go false e = F.reads u at g g_in ws long b m A.Release_on k refl (λ d. eqb-false x 2 e (sym is ∙ d)) refl refl refl refl tt tt tt

    pub row_draws_send : {h x : ℕ} → Row (draws_send {r = r} {g = g} {h = h} {x = x})
    row_draws_send {h} {x} f k = go (node_of u == h) refl
      where
        same : Match u g (done u.lay ws (Add (Clock (node_of u)) 1)) b
        same = F.untouched u at g g_in ws long b m (Add (Clock (node_of u)) 1) f.within (λ e. e)

        go : (c : Bool) → (node_of u == h) ≡ c → Acted (On r g (if c then Stamping h x false else Timed h x)) (done u.lay ws (Add (Clock (node_of u)) 1)) []
        go true e = F.no_event u at g g_in ws long b m k (rw e refl) refl (k.homes refl) tt tt same
        go false e = F.no_event u at g g_in ws long b m k refl refl (k.homes refl) tt tt same

    pub row_tests_flush : {h t x : ℕ} (e : (node_of u == h) ≡ false) → Row (tests_flush {r = r} {g = g} {h = h} {t = t} {x = x} e)
    row_tests_flush {h} {t} {x} away f k = F.load u at g g_in ws long b m _ (go (x == 1) refl (b.nodes (node_of u)).twined (f.told ∙ m.twined (node_of u) at.node_in) refl)
      where
        not_home : b.home ≢ suc (node_of u)
        not_home d = eqb-false (node_of u) h away (let z = k.homes refl in omega (arith, d, z))

        go : (c : Bool) → (x == 1) ≡ c → (d : Bool) → x ≡ bit d → (b.nodes (node_of u)).twined ≡ d → Acted (On r g (if c then Flushing h t 0 Whole else Stamping h t false)) ws (if c then Do u.p A.Flush ∷ [] else Do u.p A.Send_none ∷ [])
        go true e true i d = F.reads u at g g_in ws long b m A.Flush k refl (not_home, d) refl refl refl refl (k.homes refl) tt tt
        go false e false i d = F.reads u at g g_in ws long b m A.Send_none k refl (not_home, d) refl refl (rw away refl) refl (k.homes refl) tt tt
        go true e false i d = absurd (let z = eqb-true x 1 e in omega (arith, z, i))
        go false e true i d = absurd (eqb-false x 1 e i)

    pub row_flushes : {h t i x : ℕ} → Row (flushes {r = r} {g = g} {h = h} {t = t} {i = i} {x = x})
    row_flushes f k = F.no_event u at g g_in ws long b m k refl refl (k.homes refl) tt tt (F.untouched u at g g_in ws long b m _ f.within (λ e. e))

    pub row_flushes_same : {h t i v x : ℕ} → Row (flushes_same {r = r} {g = g} {h = h} {t = t} {i = i} {v = v} {x = x})
    row_flushes_same {h} {t} {i} {v} {x} f k = F.load u at g g_in ws long b m _ (go (v == x))
      where
        go : (c : Bool) → Acted (On r g (if c then Flushing h t (i + 1) Whole else Flushing h t i (Differs v))) ws []
        go true = F.no_event u at g g_in ws long b m k refl refl (k.homes refl) tt tt m
        go false = F.no_event u at g g_in ws long b m k refl refl (k.homes refl) tt tt m

    pub row_flushes_twin : {h t i v x : ℕ} → Row (flushes_twin {r = r} {g = g} {h = h} {t = t} {i = i} {v = v} {x = x})
    row_flushes_twin f k = F.no_event u at g g_in ws long b m k refl refl (k.homes refl) tt tt (F.untouched u at g g_in ws long b m _ f.within (λ e. e))

    pub row_flushes_home : {h t i v x : ℕ} → Row (flushes_home {r = r} {g = g} {h = h} {t = t} {i = i} {v = v} {x = x})
    row_flushes_home f k = F.no_event u at g g_in ws long b m k refl refl (k.homes refl) tt tt (F.untouched u at g g_in ws long b m _ f.within (λ e. e))

    pub row_stamps_flush : {h t x : ℕ} {flushed : Bool} → Row (stamps_flush {r = r} {g = g} {h = h} {t = t} {x = x} {flushed = flushed})
    row_stamps_flush {h} {t} {x} {flushed} f k = go flushed k (node_of u == h) refl
      where
        go : (flushed : Bool) → F.Now u at g g_in ws long b m (On r g (Stamping h t flushed)) o → (c : Bool) → (node_of u == h) ≡ c → Acted (On r g (Stamped h flushed)) (done u.lay ws (Put (Flush (node_of u) g) t)) (send_events u flushed c)
        go true k c e = F.acts u at g g_in ws long b m A.Send k refl tt (stamped t A.Send f.within (F.read_match u at g g_in ws long b m A.Send refl refl)) refl refl refl refl (k.homes refl) tt tt
        go false k true e = F.acts u at g g_in ws long b m A.Send_home k (rw e refl) (k.homes refl ∙ ap suc (sym (eqb-true (node_of u) h e))) (stamped t A.Send_home f.within (F.read_match u at g g_in ws long b m A.Send_home refl refl)) refl refl refl refl (k.homes refl) tt tt
        go false k false e = F.no_event u at g g_in ws long b m k (rw e refl) refl (k.homes refl) tt tt (F.untouched u at g g_in ws long b m (Put (Flush (node_of u) g) t) f.within (λ e. e))

    pub row_reads_dir : {h j x : ℕ} {flushed : Bool} → Row (reads_dir {r = r} {g = g} {h = h} {j = j} {x = x} {flushed = flushed})
    row_reads_dir {h} {j} {x} {flushed} f k = F.load u at g g_in ws long b m _ (go (x == 0 || j == node_of u || j == h))
      where
        go : (c : Bool) → Acted (On r g (if c then Posting h flushed (j + 1) else Telling h flushed j)) ws []
        go true = F.no_event u at g g_in ws long b m k refl refl (k.homes refl) tt tt m
        go false = F.no_event u at g g_in ws long b m k refl refl (k.homes refl) tt tt m

    pub row_posts : {h j x : ℕ} {flushed : Bool} (v : ℕ) (e : (v == 0 || j == node_of u || j == h) ≡ false) → Row (posts {r = r} {g = g} {h = h} {j = j} {x = x} {flushed = flushed} v e)
    row_posts {h} {j} {x} {flushed} v e f k =
        record {
          runs = ((F.stage_is u at g g_in ws long b m k, at.node_in, (eqb-false j (node_of u) (told_to (v == 0) (j == node_of u) (j == h) e).0, λ d. eqb-false j h (told_to (v == 0) (j == node_of u) (j == h) e).1 (let z = k.homes refl in omega (arith, d, z)))), tt);
          match = noted_match j flushed f.within;
          knows = knows_at u at g g_in ws long b m j (record (b.nodes j) { noted = true }) (record (b.processors u.p) { stage = O.Posting flushed }) {t = Posting h flushed (j + 1)} k refl (λ d. d) (λ d. absurd (cc d)) (λ d. refl) (k.homes refl) tt tt;
        }

    pub slip_flushed_all : {h t : ℕ} → Decision (flushed_all {r = r} {g = g} {h = h} {t = t})
    slip_flushed_all own all k = F.no_event u at g g_in ws long b m k refl refl (k.homes refl) tt tt m

    pub slip_unsent : {h : ℕ} {flushed : Bool} (e : (flushed || node_of u == h) ≡ false) → Decision (unsent {r = r} {g = g} {h = h} {flushed = flushed} e)
    slip_unsent e own all k = F.no_event u at g g_in ws long b m k refl refl (k.homes refl) tt tt m

    pub slip_posted : {h : ℕ} {flushed : Bool} → Decision (posted {r = r} {g = g} {h = h} {flushed = flushed})
    slip_posted {h} {flushed} own all k = F.reads u at g g_in ws long b m (A.Posted flushed) k refl tt refl refl refl refl (k.homes refl) tt tt

    pub slip_untold : {h : ℕ} {flushed : Bool} (e : (flushed || node_of u == h) ≡ false) → Decision (untold {r = r} {g = g} {h = h} {flushed = flushed} e)
    slip_untold e own all k = F.no_event u at g g_in ws long b m k refl refl tt tt tt m

    pub note_sent : {h : ℕ} {flushed : Bool} (e : (flushed || node_of u == h) ≡ true) → Noting (sent {r = r} {g = g} {h = h} {flushed = flushed} e)
    note_sent e k = (F.no_event u at g g_in ws long b m k refl refl (k.homes refl) tt tt m).knows

    pub note_told : {h : ℕ} {flushed : Bool} (e : (flushed || node_of u == h) ≡ true) → Noting (told {r = r} {g = g} {h = h} {flushed = flushed} e)
    note_told e k = (F.no_event u at g g_in ws long b m k refl refl tt tt tt m).knows
