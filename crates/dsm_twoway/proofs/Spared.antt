-- A step of a processor spares the copy at a node whose turn it does not hold.
use Rattle.std.proofs.Common.{◌≡◌, ◌≢◌, ◌⊎◌, inl, inr, ℕ, ◌==◌, Bool, true, false, List, [], ◌∷◌, ◌++◌, map, Option, None, Some, refl, sym, ap, ◌∙◌, subst, if◌then◌else◌}
use Rattle.std.specs.Prelude.{◌&&◌, IfSome}
use Rattle.std.proofs.lemmas.Bool.{cases_eq, eq-eqb, eqb-true, ne_eqb}
use Rattle.dsm_words.specs.Script.{Act}
use Rattle.dsm_clock.specs.declared.turns.TurnId.{TurnId}
use Rattle.dsm_clock.specs.declared.turns.TurnId.TheVariants.{Page}
use Rattle.dsm_protocol.specs.Own.{Who, node_of}
use Rattle.dsm_protocol.specs.Jobs.{Note}
use Rattle.dsm_protocol.specs.Stages.{Work, turn_at}
use Rattle.dsm_protocol.specs.Rows.{Step, Noted, loads, fills, fills_own, copies, copies_over, merges, merges_own, merges_twin, makes, makes_twin, made, fetched, passes, quits}
use Rattle.dsm_copies.specs.Copies as W
use Rattle.dsm_copies.specs.Joining.{onto}
use Rattle.dsm_debts.specs.Page as D
use Rattle.dsm_debts.specs.Page.{Tick, Store, Open, Take, Signal, Enter, Begin, Load, Same, Differ, Refresh, Send, Stamp, Tell, Drop, Finish, Break, End}
use Rattle.dsm_debts.specs.Joining.{Move, At, Other, word_event, home_event, event_at, has_flushed, events_of, pages_after}
use Rattle.dsm_freshness.proofs.Frame.{both}
use Rattle.dsm_releases.specs.Events as R
use Rattle.dsm_releases.proofs.Making.{need, AllMade}
use Rattle.dsm_twoway.specs.Views.{plain}
use Rattle.dsm_twoway.specs.Events.{place_of, only, is_away, begins, op, step_others, note_others}
use Rattle.dsm_twoway.proofs.Modes.{outdated_plain, touched_plain}

-- an event changes no copy at node n but by a store,
abbrev pub Spares : ℕ → W.Event → Type 0
Spares n (W.Begin k kind) = n ≢ k
Spares n (W.Op k) = n ≢ k
Spares n (W.Drop k) = n ≢ k
Spares n (W.Enter k) = n ≢ k
Spares n e = Unit {0}

-- and none of a list does
abbrev pub AllSpare : ℕ → List W.Event → Type 0
AllSpare n [] = Unit {0}
AllSpare n (e ∷ es) = Spares n e × AllSpare n es

-- what is open at a node, and whether it has fetched, are the same
pub record Kept (y y' : W.Node) : Type 0 where
  pub mode : plain y'.mode ≡ plain y.mode
  pub fetched : y'.fetched ≡ y.fetched

kept : (y : W.Node) → Kept y y
kept y = record { mode = refl; fetched = refl }

module _ (place : ℕ → Option ℕ) (n : ℕ) where
  store_keeps : (x : W.State) (p v : ℕ) (k : Option ℕ) → Kept (x.nodes n) ((W.store_at x p k v).nodes n)
  store_keeps x p v None = record { mode = outdated_plain (x.nodes n).mode; fetched = refl }
  store_keeps x p v (Some k) = go (cases_eq n k)
    where
      go : (n ≡ k) ⊎ (n ≢ k) → Kept (x.nodes n) (W.put (λ j. W.out_node (x.nodes j)) k (W.touch_node v (x.nodes k)) n)
      go (inl e) = rw (eq-eqb n k e) (subst (λ j. Kept (x.nodes j) (W.touch_node v (x.nodes k))) (sym e) (record { mode = touched_plain (x.nodes k).mode; fetched = refl }))
      go (inr ne) = rw (ne_eqb n k ne) (record { mode = outdated_plain (x.nodes n).mode; fetched = refl })

  event_keeps : (x : W.State) (e : W.Event) → Spares n e → Kept (x.nodes n) ((W.after_event place x e).nodes n)
  event_keeps x (W.Store p v) sp = store_keeps x p v (place p)
  event_keeps x (W.Begin k kind) sp = rw (ne_eqb n k sp) (kept (x.nodes n))
  event_keeps x (W.Op k) sp = rw (ne_eqb n k sp) (kept (x.nodes n))
  event_keeps x (W.Drop k) sp = rw (ne_eqb n k sp) (kept (x.nodes n))
  event_keeps x (W.Enter k) sp = rw (ne_eqb n k sp) (kept (x.nodes n))
  event_keeps x e sp = kept (x.nodes n)

  -- so events that spare the node leave it, each list newest first
  pub events_keep : (x : W.State) (es : List W.Event) → AllSpare n es → Kept (x.nodes n) ((W.after place x es).nodes n)
  events_keep x [] sp = kept (x.nodes n)
  events_keep x (e ∷ older) sp =
      let one = events_keep x older sp.1 in
      let rest = event_keeps (W.after place x older) e sp.0 in
      record { mode = rest.mode ∙ one.mode; fetched = rest.fetched ∙ one.fetched }

-- none of the events is made under the turn of the page at node n
abbrev pub AllFree : (n g : ℕ) → List D.Event → Type 0
AllFree n g [] = Unit {0}
AllFree n g (e ∷ es) = (need n g e ≢ Some (Page n g)) × AllFree n g es

none_turn : (n g : ℕ) → None ≡ Some (Page n g) → ⊥
none_turn n g e = absurd (cc e)

-- what is made by who does not hold it
pub all_free : (n g : ℕ) (home : Bool) (first p : ℕ) (t : Option TurnId) (f : D.State) (es : List D.Event) → t ≢ Some (Page n g) → AllMade n g home first p t f es → AllFree n g es
all_free n g home first p t f [] ne by = tt
all_free n g home first p t f (e ∷ es) ne by = (go by.0.1, all_free n g home first p t f es ne by.1)
  where
    go : (need n g e ≡ None) ⊎ (need n g e ≡ t) → need n g e ≢ Some (Page n g)
    go (inl z) d = none_turn n g (sym z ∙ d)
    go (inr z) d = ne (sym z ∙ d)

-- it leaves the work on the page
work_left : (n g : ℕ) (home : Bool) (first : ℕ) (f : D.State) (e : D.Event) → need n g e ≢ Some (Page n g) → (D.after_event home first f e).page.work ≡ f.page.work
work_left n g home first f Tick ne = refl
work_left n g home first f (Store k) ne = refl
work_left n g home first f (Open k) ne = refl
work_left n g home first f (Take k) ne = refl
work_left n g home first f (Signal k) ne = refl
work_left n g home first f e ne = absurd (ne refl)

pub works_left : (n g : ℕ) (home : Bool) (first : ℕ) (f : D.State) (es : List D.Event) → AllFree n g es → (D.after home first f es).page.work ≡ f.page.work
works_left n g home first f [] free = refl
works_left n g home first f (e ∷ es) free = work_left n g home first (D.after home first f es) e free.0 ∙ works_left n g home first f es free.1

module _ (n g : ℕ) where
  abbrev MaySpare : Option W.Event → Type 0
  MaySpare o = IfSome o (Spares n)

  onto_spares : (o : Option W.Event) (es : List W.Event) → MaySpare o → AllSpare n es → AllSpare n (onto o es)
  onto_spares None es a b = b
  onto_spares (Some e) es a b = (a, b)

  pub spares_append : (es fs : List W.Event) → AllSpare n es → AllSpare n fs → AllSpare n (es ++ fs)
  spares_append [] fs a b = b
  spares_append (e ∷ es) fs a b = (a.0, spares_append es fs a.1 b)

  may_op : (k : ℕ) (b : Bool) → n ≢ k → MaySpare (if b then Some (W.Op k) else None)
  may_op k true ne = ne
  may_op k false ne = tt

  -- an event at another node, one that is not made under the node's turn, one of the home
  other_spares : (k : ℕ) (w : D.Work) (v : ℕ) (e : D.Event) → n ≢ k → MaySpare (word_event k w v e)
  other_spares k w v Begin ne = ne
  other_spares k w v Load ne = ne
  other_spares k w v Same ne = ne
  other_spares k w v Differ ne = ne
  other_spares k w v Refresh ne = ne
  other_spares k w v Send ne = ne
  other_spares k w v Stamp ne = ne
  other_spares k w v Tell ne = may_op k (has_flushed w) ne
  other_spares k w v Drop ne = ne
  other_spares k w v Finish ne = may_op k (has_flushed w) ne
  other_spares k w v Break ne = ne
  other_spares k w v End ne = ne
  other_spares k w v Enter ne = ne
  other_spares k w v e ne = tt

  free_spares : (k : ℕ) (w : D.Work) (v : ℕ) (e : D.Event) → need n g e ≢ Some (Page n g) → MaySpare (word_event k w v e)
  free_spares k w v Tick ne = tt
  free_spares k w v (Store q) ne = tt
  free_spares k w v (Open q) ne = tt
  free_spares k w v (Take q) ne = tt
  free_spares k w v (Signal q) ne = tt
  free_spares k w v e ne = absurd (ne refl)

  home_spares : (v : ℕ) (e : D.Event) → MaySpare (home_event v e)
  home_spares v (Store q) = tt
  home_spares v e = tt

  at_spares : (k : ℕ) (b : Bool) (w : D.Work) (v : ℕ) (e : D.Event) → (n ≢ k) ⊎ (need n g e ≢ Some (Page n g)) → MaySpare (event_at (if b then None else Some k) w v e)
  at_spares k true w v e why = home_spares v e
  at_spares k false w v e (inl ne) = other_spares k w v e ne
  at_spares k false w v e (inr ne) = free_spares k w v e ne

  module _ (place : ℕ → Option ℕ) (first top : Option ℕ → ℕ) (f : Option ℕ → D.State) where
    -- moves of another node, and moves at the node that are not made under its turn
    moves_there : (h k v : ℕ) (es : List D.Event) → n ≢ k → AllSpare n (events_of place first top f (map (At (place_of h k) v) es))
    moves_there h k v [] ne = tt
    moves_there h k v (e ∷ es) ne =
        onto_spares _ (events_of place first top f (map (At (place_of h k) v) es)) (at_spares k (k == h) (pages_after place first top f (map (At (place_of h k) v) es) (place_of h k)).page.work v e (inl ne)) (moves_there h k v es ne)

    moves_here : (h k v : ℕ) (es : List D.Event) → AllFree n g es → AllSpare n (events_of place first top f (map (At (place_of h k) v) es))
    moves_here h k v [] free = tt
    moves_here h k v (e ∷ es) free =
        onto_spares _ (events_of place first top f (map (At (place_of h k) v) es)) (at_spares k (k == h) (pages_after place first top f (map (At (place_of h k) v) es) (place_of h k)).page.work v e (inr free.0)) (moves_here h k v es free.1)

    others_before : (os : List W.Event) (ms : List Move) → AllSpare n os → AllSpare n (events_of place first top f ms) → AllSpare n (events_of place first top f (map Other os ++ ms))
    others_before [] ms a b = b
    others_before (e ∷ os) ms a b = (a.0, others_before os ms a.1 b)

    -- the moves of a step that is about node k
    pub step_spares : (h k v : ℕ) (os : List W.Event) (es : ℕ → List D.Event) → AllSpare n os → AllFree n g (es n) → AllSpare n (events_of place first top f (map Other os ++ map (At (place_of h k) v) (es k)))
    step_spares h k v os es a free = others_before os (map (At (place_of h k) v) (es k)) a (go (cases_eq n k))
      where
        go : (n ≡ k) ⊎ (n ≢ k) → AllSpare n (events_of place first top f (map (At (place_of h k) v) (es k)))
        go (inl e) = moves_here h k v (es k) (subst (λ j. AllFree n g (es j)) e free)
        go (inr ne) = moves_there h k v (es k) ne

-- What is of the copies alone: it is at the own node, under its turn.
module _ (h n g i : ℕ) (u : Who) where
  only_spares : (k : ℕ) (c : Bool) (e : W.Event) → (c ≡ true → (k == g) ≡ true) → (n ≢ node_of u → Spares n e) → Some (Page (node_of u) k) ≢ Some (Page n g) → AllSpare n (only c e)
  only_spares k true e at sp ne = (sp (λ d. ne (ap Some (λ x. Page (sym d x) (eqb-true k g (at refl) x)))), tt)
  only_spares k false e at sp ne = tt

  load_spares : (c : Bool) (p v : ℕ) → AllSpare n (only c (W.Load p v))
  load_spares true p v = (tt, tt)
  load_spares false p v = tt

  op_spares : (k e : ℕ) → Some (Page (node_of u) k) ≢ Some (Page n g) → AllSpare n (op h g i u k e)
  op_spares k e ne = only_spares k (is_away h g i u k && e == i) (W.Op (node_of u)) (λ d. (both (both d).0).0) (λ x. x) ne

  begins_spares : (k e : ℕ) (event : W.Event) → (n ≢ node_of u → Spares n event) → Some (Page (node_of u) k) ≢ Some (Page n g) → AllSpare n (begins h g i u k e event)
  begins_spares k e event sp ne =
      spares_append n g (only (is_away h g i u k && e == i) (W.Op (node_of u))) (only (is_away h g i u k && e == 0) event) (op_spares k e ne) (only_spares k (is_away h g i u k && e == 0) event (λ d. (both (both d).0).0) sp ne)

  module _ {ms : List ℕ} {ds : List Bool} where
    pub row_spares : {w : Work} {a : Act} {x : ℕ} {v : Work} (step : Step u ms ds w a x v) → turn_at u w ≢ Some (Page n g) → AllSpare n (step_others h g i u step)
    row_spares (loads {a = a} {x = x} e) ne = load_spares (R.is_word h (node_of u) g i u a) u.p x
    row_spares (fills {g = k} {i = e}) ne = begins_spares k e (W.Enter (node_of u)) (λ x. x) ne
    row_spares (fills_own {g = k} {i = e}) ne = op_spares k e ne
    row_spares (copies {g = k} {i = e} {twin = twin}) ne = begins_spares k e (W.Begin (node_of u) (if twin then W.Merge else W.Overwrite)) (λ x. x) ne
    row_spares (copies_over {g = k} {i = e}) ne = op_spares k e ne
    row_spares (merges {g = k} {i = e}) ne = op_spares k e ne
    row_spares (merges_own {g = k} {i = e}) ne = op_spares k e ne
    row_spares (merges_twin {g = k} {i = e}) ne = op_spares k e ne
    row_spares (makes {g = k} {i = e}) ne = begins_spares k e (W.Begin (node_of u) W.Make) (λ x. x) ne
    row_spares (makes_twin {g = k} {i = e}) ne = op_spares k e ne
    row_spares (made {g = k}) ne = only_spares k (is_away h g i u k) (W.Op (node_of u)) (λ d. (both d).0) (λ x. x) ne
    row_spares step ne = tt

  pub note_spares : {w : Work} {e : Note} {v : Work} (noted : Noted u None w e v) → turn_at u w ≢ Some (Page n g) → AllSpare n (note_others h g i u noted)
  note_spares (fetched {g = k}) ne = only_spares k (is_away h g i u k) (W.Op (node_of u)) (λ d. (both d).0) (λ x. x) ne
  note_spares (passes none) ne = (tt, tt)
  note_spares (quits none) ne = (tt, tt)
  note_spares noted ne = tt
