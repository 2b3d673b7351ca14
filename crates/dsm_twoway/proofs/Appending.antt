-- Moves and events that are made behind others, each list newest first.
use Rattle.std.proofs.Common.{◌≡◌, ℕ, Bool, true, false, Option, None, Some, List, [], ◌∷◌, ◌++◌, refl, sym, ap, ◌∙◌, subst, if◌then◌else◌}
use Rattle.dsm_copies.specs.Copies as W
use Rattle.dsm_copies.specs.Premises.{Premise}
use Rattle.dsm_copies.specs.Counts.{Count, count, count_after}
use Rattle.dsm_copies.specs.Debts.{Debts, owes, debts_after, AsksOf, RunsOf}
use Rattle.dsm_copies.specs.Joining.{onto, is_deed, deeds_in}
use Rattle.dsm_debts.specs.Page as D
use Rattle.dsm_debts.specs.Page.{State}
use Rattle.dsm_debts.specs.Joining.{Move, At, Other, RunsMoves, MayMove, event_of_move, events_of, pages_after, put_page, is_home}

-- an event that there may be, before events that are before others
pub onto_append : (o : Option W.Event) (es older : List W.Event) → onto o (es ++ older) ≡ onto o es ++ older
onto_append None es older = refl
onto_append (Some e) es older = refl

-- what the processors did, of a list before another
keep_append : (b : Bool) (e : W.Event) (all es older : List W.Event) → all ≡ es ++ older → (if b then e ∷ all else all) ≡ (if b then e ∷ es else es) ++ older
keep_append true e all es older same = ap (λ x. e ∷ x) same
keep_append false e all es older same = same

pub deeds_append : (es older : List W.Event) → deeds_in (es ++ older) ≡ deeds_in es ++ deeds_in older
deeds_append [] older = refl
deeds_append (e ∷ es) older = keep_append (is_deed e) e (deeds_in (es ++ older)) (deeds_in es) (deeds_in older) (deeds_append es older)

module _ (place : ℕ → Option ℕ) where
  pub after_append : (x : W.State) (es older : List W.Event) → W.after place x (es ++ older) ≡ W.after place (W.after place x older) es
  after_append x [] older = refl
  after_append x (e ∷ es) older = ap (λ z. W.after_event place z e) (after_append x es older)

  pub count_append : (x : W.State) (c : Count) (es older : List W.Event) → count_after place x c (es ++ older) ≡ count_after place (W.after place x older) (count_after place x c older) es
  count_append x c [] older = refl
  count_append x c (e ∷ es) older =
      ap (λ z. count z e (count_after place x c (es ++ older))) (after_append x es older)
      ∙ ap (count (W.after place (W.after place x older) es) e) (count_append x c es older)

  pub debts_append : (x : W.State) (d : Debts) (es older : List W.Event) → debts_after place x d (es ++ older) ≡ debts_after place (W.after place x older) (debts_after place x d older) es
  debts_append x d [] older = refl
  debts_append x d (e ∷ es) older =
      ap (λ z. owes place z e (debts_after place x d (es ++ older))) (after_append x es older)
      ∙ ap (λ z. owes place (W.after place (W.after place x older) es) e z) (debts_append x d es older)

  pub runs_append : (asked : Premise → Type 0) (x : W.State) (c : Count) (d : Debts) (es older : List W.Event)
      → RunsOf place asked x c d older → RunsOf place asked (W.after place x older) (count_after place x c older) (debts_after place x d older) es → RunsOf place asked x c d (es ++ older)
  runs_append asked x c d [] older r q = r
  runs_append asked x c d (e ∷ es) older r q = (
    λ k i. subst (λ y. AsksOf place k y (count_after place x c (es ++ older)) (debts_after place x d (es ++ older)) e) (sym (after_append x es older))
        (subst (λ y. AsksOf place k (W.after place (W.after place x older) es) y (debts_after place x d (es ++ older)) e) (sym (count_append x c es older))
        (subst (λ y. AsksOf place k (W.after place (W.after place x older) es) (count_after place (W.after place x older) (count_after place x c older) es) y e) (sym (debts_append x d es older)) (q.0 k i))),
    runs_append asked x c d es older r q.1,
  )

  -- premises asked in one order or the other
  pub runs_asked : (asked asks : Premise → Type 0) → ((r : Premise) → asks r → asked r) → (x : W.State) (c : Count) (d : Debts) (es : List W.Event) → RunsOf place asked x c d es → RunsOf place asks x c d es
  runs_asked asked asks f x c d [] r = tt
  runs_asked asked asks f x c d (e ∷ es) r = (λ k i. r.0 k (f k i), runs_asked asked asks f x c d es r.1)

  module _ (first top : Option ℕ → ℕ) where
    pub pages_append : (f : Option ℕ → State) (ms older : List Move) → pages_after place first top f (ms ++ older) ≡ pages_after place first top (pages_after place first top f older) ms
    pages_append f [] older = refl
    pages_append f (At h v e ∷ ms) older = ap (λ z. put_page z h (D.after_event (is_home h) (first h) (z h) e)) (pages_append f ms older)
    pages_append f (Other e ∷ ms) older = pages_append f ms older

    pub events_append : (f : Option ℕ → State) (ms older : List Move) → events_of place first top f (ms ++ older) ≡ events_of place first top (pages_after place first top f older) ms ++ events_of place first top f older
    events_append f [] older = refl
    events_append f (m ∷ ms) older =
        ap (λ z. onto (event_of_move place first top z m) (events_of place first top f (ms ++ older))) (pages_append f ms older)
        ∙ ap (onto (event_of_move place first top (pages_after place first top (pages_after place first top f older) ms) m)) (events_append f ms older)
        ∙ onto_append (event_of_move place first top (pages_after place first top (pages_after place first top f older) ms) m) (events_of place first top (pages_after place first top f older) ms) (events_of place first top f older)

    pub moves_append : (f : Option ℕ → State) (x : W.State) (ms older : List Move)
        → RunsMoves place first top f x older → RunsMoves place first top (pages_after place first top f older) (W.after place x (events_of place first top f older)) ms → RunsMoves place first top f x (ms ++ older)
    moves_append f x [] older r q = r
    moves_append f x (m ∷ ms) older r q = (
      subst (λ z. MayMove place first top z (W.after place x (events_of place first top f (ms ++ older))) m) (sym (pages_append f ms older))
          (subst (λ z. MayMove place first top (pages_after place first top (pages_after place first top f older) ms) z m)
          (sym (ap (W.after place x) (events_append f ms older) ∙ after_append x (events_of place first top (pages_after place first top f older) ms) (events_of place first top f older))) q.0),
      moves_append f x ms older r q.1,
    )
