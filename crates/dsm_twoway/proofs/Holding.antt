-- Who holds the turn of a copy is one of the processors, and stands at the work on it.
use Rattle.std.proofs.Common.{◌≡◌, ◌≢◌, ◌⊎◌, inl, inr, ℕ, suc, ◌+◌, ◌*◌, ◌<◌, ◌==◌, List, [], ◌∷◌, Some, refl, sym, ap, ◌∙◌, subst, arith}
use Rattle.std.proofs.Math.Nat.{div-lt_iff_lt-mul}
use Rattle.std.proofs.lemmas.Bool.{eq-eqb}
use Rattle.dsm_words.specs.declared.item.Item.TheVariants.{Turn}
use Rattle.dsm_words.specs.Words.{word}
use Rattle.dsm_clock.specs.declared.turns.TurnId.TheVariants.{Page}
use Rattle.dsm_protocol.specs.Own.{Who}
use Rattle.dsm_protocol.specs.Stages.{Stage, Visiting, Work, Off, On, Gone, stage_turn, turn_at}
use Rattle.dsm_runs.specs.Setups.{Setup, IsSetup, lay_in, who_at}
use Rattle.dsm_owners.specs.Acts as A
use Rattle.dsm_owners.specs.Acts.{Take, Part, Visit, Close, Go_back, Close_end, Return, Give, Release, Finish, Acquire, Done}
use Rattle.dsm_owners.specs.Directory.{Node, State, Event, Do, Touch, Mark, node_after, after_event, after, start}
use Rattle.dsm_owners.specs.Premises.{Runs}
use Rattle.dsm_owners.proofs.Keeps.{each_put}
use Rattle.dsm_ties.specs.Tied.{node_in}
use Rattle.dsm_ties.specs.Views.{view, stage_view, AtStage}
use Rattle.dsm_ties.proofs.Trails.{Position, Fine, Trail, dir_of, dir_at, DirTied}
use Rattle.dsm_freshness.proofs.Frame.{no_page}
use Rattle.dsm_debts.specs.Joining.{has_flushed}
use Rattle.dsm_releases.specs.Views.{WorksAt}
use Rattle.dsm_releases.proofs.Trailing as RT
use Rattle.dsm_twoway.specs.Views.{plain, mode_view}
use Rattle.dsm_twoway.specs.Tied.{IsAway, rest_of}
use Rattle.dsm_twoway.proofs.Scene.{Holder}
use Rattle.dsm_twoway.proofs.Blocks.{place_away}
use Rattle.dsm_twoway.proofs.Moving.{pages_at, copies_at, WordTied}
use Rattle.dsm_twoway.proofs.PageTrails.{pages_are}

-- Each turn of a copy that is held is held by a processor of one of the nodes.
module _ (top : ℕ) (node : ℕ → ℕ) where
  abbrev IsHeld : Node → Type 0
  IsHeld x = (x.turn ≡ 0) ⊎ ((q : ℕ) × (x.turn ≡ suc q) × (node q < top))

  held_after : (p : ℕ) → node p < top → (a : A.Act) (x : Node) → IsHeld x → IsHeld (node_after p a x)
  held_after p p_in (Take write) x k = inr (p, refl, p_in)
  held_after p p_in (Part write busy) x k = inl refl
  held_after p p_in (Visit write i busy j) x k = inr (p, refl, p_in)
  held_after p p_in (Close j) x k = inr (p, refl, p_in)
  held_after p p_in (Go_back write busy j) x k = inl refl
  held_after p p_in (Close_end j) x k = inl refl
  held_after p p_in (Return write i busy) x k = inr (p, refl, p_in)
  held_after p p_in Give x k = inl refl
  held_after p p_in Release x k = inr (p, refl, p_in)
  held_after p p_in Finish x k = inl refl
  held_after p p_in Acquire x k = inr (p, refl, p_in)
  held_after p p_in Done x k = inl refl
  held_after p p_in a x k = k

  held_along : (b : State) (es : List Event) → Runs top node b es → ((m : ℕ) → IsHeld (b.nodes m)) → (m : ℕ) → IsHeld ((after node b es).nodes m)
  held_along b [] r k = k
  held_along b (Do p a ∷ es) r k =
      held_along (after_event node b (Do p a)) es r.1
      (each_put (λ m x. IsHeld x) b.nodes (A.place (node p) a) (node_after p a (b.nodes (A.place (node p) a))) (held_after p r.0.1 a (b.nodes (A.place (node p) a)) (k (A.place (node p) a))) (λ m ne. k m))
  held_along b (Touch p write ∷ es) r k = held_along (after_event node b (Touch p write)) es r.1 k
  held_along b (Mark p q why j ∷ es) r k = held_along (after_event node b (Mark p q why j)) es r.1 k

-- who stands at a stage with a turn of a page works on that page
stage_page : (u : Who) (k : ℕ) (e : Stage) (n g : ℕ) → stage_turn u k e ≡ Some (Page n g) → k ≡ g
stage_page u k (Visiting write h busy i) n g t = absurd (cc t)
stage_page u k e n g t = cc t

module _ (s : Setup) (is : IsSetup s) (h g i : ℕ) (g_in : g < s.program.shape.pages) {z : Position} (t : Trail s z) (tied : WordTied s h g i t) (dir : DirTied s g t) (fine : Fine s z) (p n : ℕ) (away : IsAway h (who_at s p) n)
    (debts : RT.DebtsTied s h n g i t) where
  -- the turn is held by processor q, which stands at the copy's turn
  module _ (q : ℕ) (q_in : q < s.nodes * s.procs) (held : ((dir_at s g t).nodes n).turn ≡ suc q) where
    abbrev IsThere : Work → Type 0
    IsThere w = turn_at (who_at s q) w ≡ Some (Page n g)

    abbrev HolderHere : Type 0
    HolderHere = Holder h g i (who_at s p) z.words (dir_at s g t) (pages_at s h g i t) (copies_at s h g i t) n

    there : IsThere (z.works q)
    there = (fine.turns q (Page n g) q_in (away.0, g_in)).0 (dir.match.turn n away.0 ∙ held ∙ omega arith)

    pages_here : pages_at s h g i t (Some n) ≡ RT.debts_at s h n g i t
    pages_here = ap (pages_at s h g i t) (sym (place_away h n away.1)) ∙ pages_are s h g i n t

    -- what the copies' state and the debts say of it
    abbrev Kept : Work → Type 0
    Kept w = (k : ℕ) → IsAway h (who_at s q) k → turn_at (who_at s q) w ≡ Some (Page k g) → AtStage (λ e. plain ((copies_at s h g i t).nodes k).mode ≡ mode_view i (rest_of h g i (who_at s q) z.words k) (has_flushed (pages_at s h g i t (Some k)).page.work) e) g w

    abbrev Worked : Work → Type 0
    Worked w = IsThere w → AtStage (λ e. WorksAt (n == h) (n * s.procs) (n * s.procs + s.procs) i q e (RT.debts_at s h n g i t)) g w

    at_stage : (w : Work) → z.works q ≡ w → IsThere w → HolderHere
    at_stage (Off r) e d = absurd (no_page (who_at s q) r n g d)
    at_stage Gone e d = absurd (cc d)
    at_stage (On r k stage) e d =
        let same : k ≡ g = stage_page (who_at s q) k stage n g d in
        let view_is : view (who_at s q) g (On r k stage) ≡ stage_view (who_at s q) stage = rw (eq-eqb k g same) refl in
        let kept : Kept (On r k stage) = subst Kept e (tied.knows q q_in).mode in
        let worked : Worked (On r k stage) = subst Worked e (debts.knows q q_in).works in
        record {
          q = q;
          stage = stage;
          turn = held;
          at = (dir.knows q q_in).at ∙ ap (view (who_at s q) g) e ∙ view_is;
          mode = kept n away d same;
          works = subst (WorksAt (n == h) (n * s.procs) (n * s.procs + s.procs) i q stage) (sym pages_here) (worked d same);
        }

    here : HolderHere
    here = at_stage (z.works q) refl there

  -- so who holds the turn of a copy stands at the work on it
  pub holder : word (lay_in s) z.words (Turn n g) ≢ 0 → Holder h g i (who_at s p) z.words (dir_at s g t) (pages_at s h g i t) (copies_at s h g i t) n
  holder ne = go (held_along s.nodes (node_in s) start (dir_of s g t) dir.runs (λ m. inl refl) n)
    where
      go : IsHeld s.nodes (node_in s) ((dir_at s g t).nodes n) → Holder h g i (who_at s p) z.words (dir_at s g t) (pages_at s h g i t) (copies_at s h g i t) n
      go (inl d) = absurd (ne (dir.match.turn n away.0 ∙ d))
      go (inr y) = here y.0 ((div-lt_iff_lt-mul {k = s.procs} {x = y.0} {y = s.nodes} is.procs.0).0 y.2) y.1
