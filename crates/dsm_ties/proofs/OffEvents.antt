-- What is on no page and yet an event of each: a word of its own is taken, and the end.
use Rattle.std.proofs.Common.{◌≡◌, ◌≢◌, ◌⊎◌, inl, inr, ℕ, ◌+◌, ◌/◌, ◌%◌, ◌<◌, ◌==◌, Bool, true, false, List, [], ◌∷◌, length, None, refl, sym, ap, ◌∙◌, subst, if◌then◌else◌}
use Rattle.std.specs.Prelude.{◌||◌}
use Rattle.std.proofs.lemmas.Bool.{cases_eq, eq-eqb, ne_eqb}
use Rattle.dsm_words.specs.declared.item.Item.TheVariants.{Stop, Nle}
use Rattle.dsm_words.specs.Place.{processors, total}
use Rattle.dsm_words.specs.Pages.{group_of, has_page, pages_in}
use Rattle.dsm_words.specs.Script.{Act, Swap, Change}
use Rattle.dsm_words.specs.Words.{word, done}
use Rattle.dsm_words.proofs.WordLaws.{word_same}
use Rattle.dsm_protocol.specs.Own.{Own, Who, node_of}
use Rattle.dsm_protocol.specs.Stages.{Visiting, Round, Waiting, Signalling, Arrived, Work, Off, On, Gone, turn_at}
use Rattle.dsm_protocol.specs.Rows.{Step, Slip, collects, stops, ends, forsaken}
use Rattle.dsm_protocol.specs.Standing.{IsOpen}
use Rattle.dsm_protocol.proofs.Placed.{IsPlaced}
use Rattle.dsm_owners.specs.Stages as O
use Rattle.dsm_owners.specs.Acts as A
use Rattle.dsm_owners.specs.Directory as D
use Rattle.dsm_owners.specs.Directory.{Processor as Reader, State, Event, Do, after_event}
use Rattle.dsm_owners.specs.Premises.{Asks, heard}
use Rattle.dsm_directory.specs.Directory.{is_busy}
use Rattle.dsm_ties.specs.Views.{is_cleaned}
use Rattle.dsm_ties.specs.Events.{starved_events}
use Rattle.dsm_ties.specs.Tied.{bit, has_bit, Match}
use Rattle.dsm_ties.proofs.Frame as F
use Rattle.dsm_ties.proofs.OffRows.{in_set, no_bit, regrouped}

-- work aside is at no page that is still to be noted as clean
pub open_clean : (g : ℕ) (r : Round) → IsOpen r → is_cleaned (Off r) g ≡ false
open_clean g Waiting may = refl
open_clean g Arrived may = refl
open_clean g (Signalling t0) may = refl
open_clean g r may = absurd may

both : (c d e : Bool) → (c ≡ true → d ≡ true) → c ≡ true → (d || e) ≡ true
both c true e f i = refl
both c false e f i = absurd (cc (f i))

later : (d e : Bool) → e ≡ true → (d || e) ≡ true
later true e i = refl
later false e i = i

module _ (u : Who) (at : IsPlaced u) (g : ℕ) (g_in : g < u.lay.pages) (ws : List ℕ) (long : length ws ≡ total u.lay) (b : State) (m : Match u g ws b) (o : Own) where
  abbrev Row : {w v : Work} {a : Act} {z : ℕ} → Step u o.maps o.dirty w a z v → Type 0
  Row step = F.RowActs u at g g_in ws long b m o step

  abbrev Decision : {w v : Work} → Slip u o.maps o.dirty w v → Type 0
  Decision slip = F.SlipActs u at g g_in ws long b m o slip

  abbrev Acted : Work → List ℕ → List Event → Type 0
  Acted = F.Acted u at g g_in ws long b m o

  abbrev Meets : Act → ℕ → Type 0
  Meets = F.Meets u at g g_in ws long b m o

  abbrev Now : Work → Type 0
  Now w = F.Now u at g g_in ws long b m w o

  abbrev y : Reader
  y = b.processors u.p

  -- behind an event
  abbrev next : A.Act → State
  next e = after_event (F.node u at g g_in ws long b m) b (Do u.p e)

  -- Breaks have left it something to tell: the bits of its own word are taken, and then its word says nothing of the page.
  collected : {ws' : List ℕ} → Match u g ws' b → (has_bit g (word u.lay ws' (Nle u.p (group_of g))) ≡ true → ⊥) → Match u g ws' (next A.Collect)
  collected {ws'} w none =
      record {
        home = w.home;
        low = w.low;
        dir = λ j i. w.dir j i ∙ ap (λ z. z.dir) (node_kept j);
        twined = λ j i. w.twined j i ∙ ap (λ z. bit z.twined) (node_kept j);
        update = λ j i. w.update j i ∙ ap (λ z. z.update) (node_kept j);
        turn = λ j i. w.turn j i ∙ ap (λ z. z.turn) (node_kept j);
        map = λ q i. w.map q i ∙ map_kept q (cases_eq q u.p);
        nle = λ q i d. bits q i d (cases_eq q u.p);
        posted = λ j l i c d. ap (λ z. z.noted) (sym (node_kept j)) ∙ w.posted j l i c d;
        listed = λ q i d. ap (λ z. z.noted) (sym (node_kept (q / u.lay.procs))) ∙ w.listed q i d;
      }
    where
      node_kept : (j : ℕ) → b.nodes j ≡ A.put b.nodes (node_of u) (b.nodes (node_of u)) j
      node_kept j = go (cases_eq j (node_of u))
        where
          go : (j ≡ node_of u) ⊎ (j ≢ node_of u) → b.nodes j ≡ A.put b.nodes (node_of u) (b.nodes (node_of u)) j
          go (inl d) = rw (eq-eqb j (node_of u) d) (ap b.nodes d)
          go (inr ne) = rw (ne_eqb j (node_of u) ne) refl

      map_kept : (q : ℕ) → (q ≡ u.p) ⊎ (q ≢ u.p) → (b.processors q).map ≡ (A.put b.processors u.p (D.processor_after A.Collect y) q).map
      map_kept q (inl d) = rw (eq-eqb q u.p d) (ap (λ z. (b.processors z).map) d)
      map_kept q (inr ne) = rw (ne_eqb q u.p ne) refl

      bits : (q : ℕ) → q < processors u.lay → has_bit g (word u.lay ws' (Nle q (group_of g))) ≡ true → (q ≡ u.p) ⊎ (q ≢ u.p) → (A.put b.processors u.p (D.processor_after A.Collect y) q).nle ≡ true
      bits q i d (inl e) = absurd (none (subst (λ z. has_bit g (word u.lay ws' (Nle z (group_of g))) ≡ true) e d))
      bits q i d (inr ne) = rw (ne_eqb q u.p ne) (w.nle q i d)

  pub row_collects : {t0 k x : ℕ} {set : List ℕ} → k ≡ group_of g → Row (collects {t0 = t0} {k = k} {x = x} {set = set})
  row_collects {t0} {k} {x} {set} e f know =
      record {
        runs = ((know.at, at.node_in, tt), tt);
        match = collected (regrouped u at g g_in ws long b m (Swap (Nle u.p k) 0) f.within (λ e. e) (λ of d. absurd (no_bit (g % 64) d))) empty;
        knows = rw (eq-eqb u.p u.p refl) (record { at = refl; round = tt; met = tt; dirty = λ c d. both true y.dirty y.nle (λ _. know.dirty refl d) refl; soils = tt; joins = λ d. go (in_set g k x (pages_in u.lay k) set d); told = tt; heard = tt; homes = tt; times = tt });
      }
    where
      empty : has_bit g (word u.lay (done u.lay ws (Swap (Nle u.p k) 0)) (Nle u.p (group_of g))) ≡ true → ⊥
      empty d = no_bit (g % 64) (ap (has_bit g) (sym (word_same u.lay ws (Swap (Nle u.p k) 0) long f.within)) ∙ subst (λ z. has_bit g (word u.lay (done u.lay ws (Swap (Nle u.p k) 0)) (Nle u.p z)) ≡ true) (sym e) d)

      go : ((k ≡ group_of g) × (has_bit g x ≡ true)) ⊎ (has_page set g ≡ true) → (y.dirty || y.nle) ≡ true
      go (inl z) = later y.dirty y.nle (m.nle u.p at.p_in (subst (λ i. has_bit g (word u.lay ws (Nle u.p i)) ≡ true) e (ap (has_bit g) (sym f.told) ∙ z.1)))
      go (inr old) = both true y.dirty y.nle (λ _. know.joins old) refl

  -- it ends
  gone : {w : Work} {ws' : List ℕ} (e : A.Act) → Now w → is_cleaned w g ≡ false → y.stage ≡ (A.moves e).0 → Asks u.lay.nodes (F.node u at g g_in ws long b m) b.home (node_of u) (b.nodes (A.place (node_of u) e)) y (heard b e) e
      → Match u g ws' (next e) → (D.own_after e y).dirty ≡ y.dirty → (A.moves e).1 ≡ O.Ended → Acted Gone ws' (Do u.p e ∷ [])
  gone e k clean from asks w di to =
      record {
        runs = ((from, at.node_in, asks), tt);
        match = w;
        knows = rw (eq-eqb u.p u.p refl) (record { at = to; round = tt; met = tt; dirty = λ c d. di ∙ k.dirty clean d; soils = tt; joins = tt; told = tt; heard = tt; homes = tt; times = tt });
      }

  -- the stop word is exchanged
  abbrev stopping : Act
  stopping = Change Stop 0 (u.p + 1)

  stopped : (e : A.Act) → Match u g ws (next e) → Match u g (done u.lay ws stopping) (next e)
  stopped e w = F.untouched u at g g_in ws long (next e) w stopping tt (λ e. e)

  pub row_stops : {x : ℕ} → Row (stops {x = x})
  row_stops f k = gone A.Stop k refl k.at tt (stopped A.Stop (F.read_match u at g g_in ws long b m A.Stop refl refl)) refl refl

  pub slip_ends : Decision ends
  slip_ends own all k = gone A.Stop k refl k.at tt (F.read_match u at g g_in ws long b m A.Stop refl refl) refl refl

  pub slip_forsaken : Decision forsaken
  slip_forsaken own all k = gone A.Stop k refl k.at tt (F.read_match u at g g_in ws long b m A.Stop refl refl) refl refl

  -- a starved processor, which holds no turn, exchanges the stop word from where it stands, and ends
  pub starved : (w : Work) → turn_at u w ≡ None → w ≢ Gone → is_cleaned w g ≡ false → Now w → Acted Gone (done u.lay ws stopping) (starved_events u g w)
  starved (Off r) e ne clean k = gone A.Stop k clean k.at tt (stopped A.Stop (F.read_match u at g g_in ws long b m A.Stop refl refl)) refl refl
  starved (On r h (Visiting write home busy i)) e ne clean k = go (h == g) k.at
    where
      go : (c : Bool) → y.stage ≡ (if c then O.Visiting write i (is_busy busy) else O.Rest) → Acted Gone (done u.lay ws stopping) (if c then Do u.p (A.Stop_visit write i (is_busy busy)) ∷ [] else Do u.p A.Stop ∷ [])
      go true s = gone (A.Stop_visit write i (is_busy busy)) k clean s tt (stopped (A.Stop_visit write i (is_busy busy)) (F.read_match u at g g_in ws long b m (A.Stop_visit write i (is_busy busy)) refl refl)) refl refl
      go false s = gone A.Stop k clean s tt (stopped A.Stop (F.read_match u at g g_in ws long b m A.Stop refl refl)) refl refl
  starved (On r h s) e ne clean k = absurd (cc e)
  starved Gone e ne clean k = absurd (ne refl)
