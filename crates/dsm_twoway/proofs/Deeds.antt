-- What a step adds to the deeds of the processors, and to their traces.
use Rattle.std.proofs.Common.{◌≡◌, ◌≢◌, ◌⊎◌, inl, inr, ℕ, ◌+◌, ◌*◌, ◌/◌, ◌%◌, ◌<◌, ◌==◌, Bool, true, false, List, [], ◌∷◌, ◌++◌, map, Option, None, Some, refl, sym, ap, ◌∙◌, arith, if◌then◌else◌}
use Rattle.std.specs.Prelude.{◌&&◌}
use Rattle.std.proofs.lemmas.Bool.{cases_eq, eq-eqb, eqb-true, ne_eqb}
use Rattle.std.proofs.Math.Nat.{div-add-mod, div-eq_of_lt-le}
use Rattle.dsm_words.specs.Script.{Act}
use Rattle.dsm_protocol.specs.Own.{Who, node_of}
use Rattle.dsm_protocol.specs.Stages.{Work}
use Rattle.dsm_protocol.specs.Rows.{Step, loads, fills, fills_own, copies, copies_over, merges, merges_own, merges_twin, makes, makes_twin, made}
use Rattle.dsm_copies.specs.Copies as W
use Rattle.dsm_copies.specs.Joining.{onto, is_deed, deeds_in}
use Rattle.dsm_debts.specs.Page as D
use Rattle.dsm_debts.specs.Page.{State, Event, Store, Signal}
use Rattle.dsm_debts.specs.Joining.{Move, At, Other, event_at, events_of, has_flushed}
use Rattle.dsm_releases.specs.Events as R
use Rattle.dsm_twoway.specs.Events.{only, place_of, is_away, step_others}
use Rattle.dsm_twoway.proofs.Appending.{deeds_append}
use Rattle.dsm_twoway.proofs.Shapes.{is_act, Shape}

-- an event of the copies that is no deed
none_done : (e : W.Event) → is_deed e ≡ false → deeds_in (e ∷ []) ≡ []
none_done e z = rw z refl

pub only_done : (c : Bool) (e : W.Event) → is_deed e ≡ false → deeds_in (only c e) ≡ []
only_done true e z = none_done e z
only_done false e z = refl

begins_done : (a b : Bool) (e e' : W.Event) → is_deed e ≡ false → is_deed e' ≡ false → deeds_in (only a e ++ only b e') ≡ []
begins_done a b e e' z z' = deeds_append (only a e) (only b e') ∙ (ap (λ x. x ++ deeds_in (only b e')) (only_done a e z) ∙ only_done b e' z')

-- an event at a place that is no store and no signal
if_done : (b : Bool) (n : ℕ) → deeds_in (onto (if b then Some (W.Op n) else None) []) ≡ []
if_done true n = refl
if_done false n = refl

home_done : (w : D.Work) (v : ℕ) (e : Event) → is_act e ≡ false → deeds_in (onto (event_at None w v e) []) ≡ []
home_done w v (Store q) z = absurd (cc z)
home_done w v (Signal q) z = absurd (cc z)
home_done w v e z = refl

away_done : (n : ℕ) (w : D.Work) (v : ℕ) (e : Event) → is_act e ≡ false → deeds_in (onto (event_at (Some n) w v e) []) ≡ []
away_done n w v (Store q) z = absurd (cc z)
away_done n w v (Signal q) z = absurd (cc z)
away_done n w v D.Tell z = if_done (has_flushed w) n
away_done n w v D.Finish z = if_done (has_flushed w) n
away_done n w v e z = refl

at_done : (k : Option ℕ) (w : D.Work) (v : ℕ) (e : Event) → is_act e ≡ false → deeds_in (onto (event_at k w v e) []) ≡ []
at_done None w v e z = home_done w v e z
at_done (Some n) w v e z = away_done n w v e z

-- a store and a signal are what they are, wherever
pub store_at_place : (k : Option ℕ) (w : D.Work) (v q : ℕ) → event_at k w v (Store q) ≡ Some (W.Store q v)
store_at_place None w v q = refl
store_at_place (Some n) w v q = refl

pub signal_at_place : (k : Option ℕ) (w : D.Work) (v q : ℕ) → event_at k w v (Signal q) ≡ Some (W.Signal q)
signal_at_place None w v q = refl
signal_at_place (Some n) w v q = refl

cons_deed : (b : Bool) (e : W.Event) (all es older : List W.Event) → all ≡ es ++ older → (if b then e ∷ all else all) ≡ (if b then e ∷ es else es) ++ older
cons_deed true e all es older same = ap (λ x. e ∷ x) same
cons_deed false e all es older same = same

module _ (place : ℕ → Option ℕ) (first top : Option ℕ → ℕ) (f : Option ℕ → State) where
  -- moves of the copies alone are those events
  pub others_done : (os : List W.Event) (ms : List Move) → deeds_in (events_of place first top f (map Other os ++ ms)) ≡ deeds_in os ++ deeds_in (events_of place first top f ms)
  others_done [] ms = refl
  others_done (e ∷ os) ms = cons_deed (is_deed e) e (deeds_in (events_of place first top f (map Other os ++ ms))) (deeds_in os) (deeds_in (events_of place first top f ms)) (others_done os ms)

  -- one that may be at a place, and is no deed
  pub only_at_done : (k : Option ℕ) (v : ℕ) (c : Bool) (e : Event) → is_act e ≡ false → deeds_in (events_of place first top f (map (At k v) (R.only c e))) ≡ []
  only_at_done k v true e z = at_done k (f k).page.work v e z
  only_at_done k v false e z = refl

  -- so a row of no deed adds none
  pub none_added : (os : List W.Event) (n k v : ℕ) (h : ℕ) (es : List Event) → deeds_in os ≡ [] → Shape n k false es → deeds_in (events_of place first top f (map Other os ++ map (At (place_of h k) v) es)) ≡ []
  none_added os n k v h es z shape =
      others_done os (map (At (place_of h k) v) es) ∙ (ap (λ x. x ++ deeds_in (events_of place first top f (map (At (place_of h k) v) es))) z
      ∙ (ap (λ x. deeds_in (events_of place first top f (map (At (place_of h k) v) x))) shape.is ∙ only_at_done (place_of h k) v shape.so shape.event shape.acts))

-- the rows but accesses, and notes but passes, are no deeds
module _ (h g i : ℕ) (u : Who) where
  module _ {maps : List ℕ} {dirty : List Bool} where
    abbrev pub is_load : {w : Work} {a : Act} {x : ℕ} {v : Work} → Step u maps dirty w a x v → Bool
    is_load (loads e) = true
    is_load step = false

    pub step_done : {w : Work} {a : Act} {x : ℕ} {v : Work} (step : Step u maps dirty w a x v) → is_load step ≡ false → deeds_in (step_others h g i u step) ≡ []
    step_done (loads e) z = absurd (cc z)
    step_done (fills {g = k} {i = e}) z = begins_done (is_away h g i u k && e == i) (is_away h g i u k && e == 0) (W.Op (node_of u)) (W.Enter (node_of u)) refl refl
    step_done (fills_own {g = k} {i = e}) z = only_done (is_away h g i u k && e == i) (W.Op (node_of u)) refl
    step_done (copies {g = k} {i = e} {twin = twin}) z = begins_done (is_away h g i u k && e == i) (is_away h g i u k && e == 0) (W.Op (node_of u)) (W.Begin (node_of u) (if twin then W.Merge else W.Overwrite)) refl refl
    step_done (copies_over {g = k} {i = e}) z = only_done (is_away h g i u k && e == i) (W.Op (node_of u)) refl
    step_done (merges {g = k} {i = e}) z = only_done (is_away h g i u k && e == i) (W.Op (node_of u)) refl
    step_done (merges_own {g = k} {i = e}) z = only_done (is_away h g i u k && e == i) (W.Op (node_of u)) refl
    step_done (merges_twin {g = k} {i = e}) z = only_done (is_away h g i u k && e == i) (W.Op (node_of u)) refl
    step_done (makes {g = k} {i = e}) z = begins_done (is_away h g i u k && e == i) (is_away h g i u k && e == 0) (W.Op (node_of u)) (W.Begin (node_of u) W.Make) refl refl
    step_done (makes_twin {g = k} {i = e}) z = only_done (is_away h g i u k && e == i) (W.Op (node_of u)) refl
    step_done (made {g = k}) z = only_done (is_away h g i u k) (W.Op (node_of u)) refl
    step_done step z = refl

-- the address of the word is that of the page and the word in it
next_page : (g words : ℕ) → (g + 1) * words ≡ g * words + words
next_page g words = grind arith

word_in : (b g i words : ℕ) → b / words ≡ g → b % words ≡ i → b ≡ g * words + i
word_in b g i words e d = let z = div-add-mod b words in grind (arith, z, e, d)

page_at : (b g i words : ℕ) → i < words → b ≡ g * words + i → b / words ≡ g
page_at b g i words i_in e = let y = next_page g words in div-eq_of_lt-le words (omega (arith, e)) (omega (arith, e, y, i_in))

word_at : (b g i words : ℕ) → i < words → b ≡ g * words + i → b % words ≡ i
word_at b g i words i_in e =
    let y = word_in b g (b % words) words (page_at b g i words i_in e) refl in
    omega (arith, y, e)

pub word_is : (b g i words : ℕ) → i < words → (b / words == g && b % words == i) ≡ (b == g * words + i)
word_is b g i words i_in = go (cases_eq b (g * words + i))
  where
    both : (x y : Bool) → (b / words == g) ≡ x → (b % words == i) ≡ y → b ≢ g * words + i → (x && y) ≡ false
    both true true d e ne = absurd (ne (word_in b g i words (eqb-true (b / words) g d) (eqb-true (b % words) i e)))
    both true false d e ne = refl
    both false y d e ne = refl

    go : (b ≡ g * words + i) ⊎ (b ≢ g * words + i) → (b / words == g && b % words == i) ≡ (b == g * words + i)
    go (inl e) = rw (eq-eqb (b / words) g (page_at b g i words i_in e)) (eq-eqb (b % words) i (word_at b g i words i_in e) ∙ sym (eq-eqb b (g * words + i) e))
    go (inr ne) = both (b / words == g) (b % words == i) refl refl ne ∙ sym (ne_eqb b (g * words + i) ne)
