-- A last store of the home is owed by its processor as far as it has come: so one whose send has ended and is not told is of a release that posts.
use Rattle.std.proofs.Common.{◌≡◌, ℕ, Bool, true, false, Option, None, Some, List, [], ◌∷◌, refl, sym, ap, ◌∙◌, arith, if◌then◌else◌}
use Rattle.std.proofs.lemmas.Bool.{eq-eqb}
use Rattle.dsm_copies.specs.Modes.{Mode, Bare, op_progress, covered, ended, told}
use Rattle.dsm_copies.specs.Copies as W
use Rattle.dsm_copies.specs.Copies.{State, Event, Load, Store, Signal, Pass, Begin, Op, Drop, Enter, Home_sent, Home_told, Home_enter, Home_break, home_next, home_broken, put, is_at, store_at, after_event, after, start}
use Rattle.dsm_copies.specs.Debts.{Debts, no_debts, owes, debts_after, store_debt}
use Rattle.dsm_copies.specs.Joining.{onto}
use Rattle.dsm_debts.specs.Page as D
use Rattle.dsm_debts.specs.Joining.{Move, At, Other, Agrees, IsOther, event_at, word_event, has_flushed, events_of, pages_after, RunsMoves}
use Rattle.dsm_debts.proofs.Keeps.{Holds, keeps}
use Rattle.dsm_debts.proofs.Home.{Matches, joins, others, IsHomeElse}
use Rattle.dsm_debts.proofs.Facts.{is_posting}

progress_other : (prog t : ℕ) (x : Mode) → op_progress false prog t x ≡ prog
progress_other prog t Bare = refl
progress_other prog t x = grind arith

-- Of a last store: it is at its processor's place; where there is none, all is told; and at the home it has come as far as its processor's debt.
pub record HomeOwes (place : ℕ → Option ℕ) (s : State) (d : Debts) : Type 0 where
  pub maker : (p : ℕ) → s.by ≡ Some p → s.at ≡ place p
  pub first : s.by ≡ None → (s.at ≡ None) × (s.progress ≡ told)
  pub progress : (p : ℕ) → s.by ≡ Some p → place p ≡ None → s.progress ≡ d.debt p

module _ (place : ℕ → Option ℕ) (s : State) (d : Debts) (o : HomeOwes place s d) where
  op_owes : (n : ℕ) → HomeOwes place (after_event place s (Op n)) (owes place s (Op n) d)
  op_owes n =
      record {
        maker = o.maker;
        first = λ e. ((o.first e).0, rw (o.first e).0 (progress_other s.progress (s.nodes n).twin (s.nodes n).mode ∙ (o.first e).1));
        progress = λ p e home. rw (o.maker p e) (rw home (progress_other s.progress (s.nodes n).twin (s.nodes n).mode ∙ o.progress p e home));
      }

  store_owes : (p v : ℕ) (k : Option ℕ) → k ≡ place p → HomeOwes place (store_at s p k v) (record { debt = put d.debt p (store_debt s k); seen = put d.seen p false })
  store_owes p v None here =
      record {
        maker = λ q e. let z : p ≡ q = cc e in here ∙ ap place z;
        first = λ e. absurd (cc e);
        progress = λ q e home. let z : p ≡ q = cc e in rw (eq-eqb q p (sym z)) refl;
      }
  store_owes p v (Some m) here =
      record {
        maker = λ q e. let z : p ≡ q = cc e in here ∙ ap place z;
        first = λ e. absurd (cc e);
        progress = λ q e home. let z : p ≡ q = cc e in let y : Some m ≡ None = here ∙ (ap place z ∙ home) in absurd (cc y);
      }

  -- the home's own events
  home_owes : (prog prog' : ℕ) (f : Option ℕ → ℕ → ℕ) (broken sole : Bool) → prog' ≡ f s.at s.progress → (f None told ≡ told) → HomeOwes place (record s { progress = prog'; broken = broken; home_exclusive = sole }) (record d { debt = λ q. f (place q) (d.debt q) })
  home_owes prog prog' f broken sole same start =
      record {
        maker = o.maker;
        first = λ e. ((o.first e).0, same ∙ ap (λ k. f k s.progress) (o.first e).0 ∙ ap (f None) (o.first e).1 ∙ start);
        progress = λ p e home. same ∙ ap (λ k. f k s.progress) (o.maker p e) ∙ ap (f (place p)) (o.progress p e home);
      }

  pub owes_keeps : (e : Event) → HomeOwes place (after_event place s e) (owes place s e d)
  owes_keeps (Load p v) = o
  owes_keeps (Store p v) = store_owes p v (place p) refl
  owes_keeps (Signal p) = record { maker = o.maker; first = o.first; progress = o.progress }
  owes_keeps (Pass q) = record { maker = o.maker; first = o.first; progress = o.progress }
  owes_keeps (Begin n kind) = record { maker = o.maker; first = o.first; progress = o.progress }
  owes_keeps (Op n) = op_owes n
  owes_keeps (Drop n) = record { maker = o.maker; first = o.first; progress = o.progress }
  owes_keeps Home_sent = home_owes 0 (home_next s.at covered s.progress) (λ k x. home_next k covered x) s.broken s.home_exclusive refl refl
  owes_keeps Home_told = home_owes 0 (home_next s.at ended s.progress) (λ k x. home_next k ended x) s.broken s.home_exclusive refl refl
  owes_keeps (Enter n) = record { maker = o.maker; first = o.first; progress = o.progress }
  owes_keeps Home_enter = record { maker = o.maker; first = o.first; progress = o.progress }
  owes_keeps Home_break = home_owes 0 (home_broken s.at s.progress) (λ k x. home_broken k x) (after_event place s Home_break).broken false refl refl

pub home_owes_all : (place : ℕ → Option ℕ) (init : ℕ) (frames twins : ℕ → ℕ) (es : List Event) → HomeOwes place (after place (start init frames twins) es) (debts_after place (start init frames twins) no_debts es)
home_owes_all place init frames twins [] = record { maker = λ p e. absurd (cc e); first = λ e. (refl, refl); progress = λ p e home. absurd (cc e) }
home_owes_all place init frames twins (e ∷ es) = owes_keeps place (after place (start init frames twins) es) (debts_after place (start init frames twins) no_debts es) (home_owes_all place init frames twins es) e

-- what the home's debts say along moves
module _ (place : ℕ → Option ℕ) (first top : Option ℕ → ℕ) where
  abbrev Behind : State → Debts → Option Event → D.State → Type 0
  Behind s d o x = Matches place (after place s (onto o [])) (debts_after place s d (onto o [])) x

  if_else : (b : Bool) (n : ℕ) (s : State) (d : Debts) (x : D.State) → Matches place s d x → Behind s d (if b then Some (Op n) else None) x
  if_else true n s d x m = others place (first None) (top None) s d x (Op n) tt m
  if_else false n s d x m = m

  elsewhere : (n v : ℕ) (s : State) (d : Debts) (w : D.Work) (x : D.State) (e : D.Event) → Agrees place n s e → Matches place s d x → Behind s d (word_event n w v e) x
  elsewhere n v s d w x (D.Store q) a m = others place (first None) (top None) s d x (Store q v) (λ z. let y : Some n ≡ None = sym a ∙ z in absurd (cc y)) m
  elsewhere n v s d w x (D.Signal q) a m = others place (first None) (top None) s d x (Signal q) (λ z. let y : Some n ≡ None = sym a ∙ z in absurd (cc y)) m
  elsewhere n v s d w x D.Begin a m = others place (first None) (top None) s d x (Begin n W.Flush) tt m
  elsewhere n v s d w x D.Load a m = if_else true n s d x m
  elsewhere n v s d w x D.Same a m = if_else true n s d x m
  elsewhere n v s d w x D.Differ a m = if_else true n s d x m
  elsewhere n v s d w x D.Refresh a m = if_else true n s d x m
  elsewhere n v s d w x D.Send a m = if_else true n s d x m
  elsewhere n v s d w x D.Stamp a m = if_else true n s d x m
  elsewhere n v s d w x D.Tell a m = if_else (has_flushed w) n s d x m
  elsewhere n v s d w x D.Drop a m = others place (first None) (top None) s d x (Drop n) tt m
  elsewhere n v s d w x D.Finish a m = if_else (has_flushed w) n s d x m
  elsewhere n v s d w x D.Break a m = others place (first None) (top None) s d x (Begin n W.Break) tt m
  elsewhere n v s d w x D.End a m = if_else true n s d x m
  elsewhere n v s d w x D.Enter a m = if_else true n s d x m
  elsewhere n v s d w x e a m = m

  of_copies : (s : State) (e : Event) → IsOther place s e → IsHomeElse place e
  of_copies s (Store p v) a = absurd a
  of_copies s (Signal p) a = absurd a
  of_copies s Home_sent a = absurd a
  of_copies s Home_told a = absurd a
  of_copies s Home_enter a = absurd a
  of_copies s Home_break a = absurd a
  of_copies s e a = tt

  onto_matches : (s : State) (o : Option Event) (es : List Event) (x : D.State) → Behind (after place s es) (debts_after place s no_debts es) o x → Matches place (after place s (onto o es)) (debts_after place s no_debts (onto o es)) x
  onto_matches s None es x m = m
  onto_matches s (Some e) es x m = m

  -- the home's page and the copies say the same of the debts there
  pub home_matches : (f : Option ℕ → D.State) (s : State) (ms : List Move) → RunsMoves place first top f s ms → Holds true (first None) (top None) (f None) → Matches place s no_debts (f None)
      → Holds true (first None) (top None) (pages_after place first top f ms None) × Matches place (after place s (events_of place first top f ms)) (debts_after place s no_debts (events_of place first top f ms)) (pages_after place first top f ms None)
  home_matches f s [] r h m = (h, m)
  home_matches f s (At None v e ∷ older) r h m =
      let old = home_matches f s older r.1 h m in
      let es = events_of place first top f older in
      let x = pages_after place first top f older None in (
        keeps true (first None) (top None) x e old.0 r.0.0,
        onto_matches s (event_at None x.page.work v e) es (D.after_event true (first None) x e) (joins place (first None) (top None) (after place s es) (debts_after place s no_debts es) v x e r.0.0 r.0.1 old.0 old.1),
      )
  home_matches f s (At (Some n) v e ∷ older) r h m =
      let old = home_matches f s older r.1 h m in
      let es = events_of place first top f older in
      let x = pages_after place first top f older None in
      let w = (pages_after place first top f older (Some n)).page.work in
      (old.0, onto_matches s (event_at (Some n) w v e) es x (elsewhere n v (after place s es) (debts_after place s no_debts es) w x e r.0.1 old.1))
  home_matches f s (Other e ∷ older) r h m =
      let old = home_matches f s older r.1 h m in
      let es = events_of place first top f older in
      let x = pages_after place first top f older None in
      (old.0, others place (first None) (top None) (after place s es) (debts_after place s no_debts es) x e (of_copies (after place s es) e r.0) old.1)

-- a last store of the home whose send has ended, and is not told
pub ended_posts : (place : ℕ → Option ℕ) (first top : ℕ) (s : State) (d : Debts) (x : D.State) → HomeOwes place s d → Holds true first top x → Matches place s d x → s.at ≡ None → s.progress ≡ ended → is_posting x.page.work ≡ true
ended_posts place first top s d x o h m home e = go s.by refl
  where
    go : (b : Option ℕ) → s.by ≡ b → is_posting x.page.work ≡ true
    go None z = let y = (o.first z).1 in absurd (omega (arith, y, e))
    go (Some p) z =
        let at_home : place p ≡ None = sym (o.maker p z) ∙ home in
        ((h.each p).owes.ended_is (m.debt p at_home ∙ (sym (o.progress p z at_home) ∙ e))).0
