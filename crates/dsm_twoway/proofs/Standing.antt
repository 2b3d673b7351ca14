-- What is known where a processor stands at its own node's copy, at an operation or not.
use Rattle.std.proofs.Common.{◌≡◌, ◌≢◌, ◌⊎◌, inl, inr, ℕ, suc, Bool, true, false, List, [], Option, None, Some, refl, sym, ap, ◌∙◌}
use Rattle.std.specs.Prelude.{map}
use Rattle.std.proofs.lemmas.Bool.{eq-eqb, ne_eqb}
use Rattle.dsm_words.specs.declared.item.Item.TheVariants.{Twined, Dir, Turn}
use Rattle.dsm_words.specs.Words.{word}
use Rattle.dsm_clock.specs.declared.turns.TurnId.TheVariants.{Page}
use Rattle.dsm_protocol.specs.Own.{Own, node_of}
use Rattle.dsm_protocol.specs.Stages.{Stage, Round, On, stage_turn}
use Rattle.dsm_copies.specs.Modes.{Mode, Bare, Twinned, Exclusive}
use Rattle.dsm_owners.specs.Stages as O
use Rattle.dsm_owners.proofs.Facts.{AtTurn}
use Rattle.dsm_ties.specs.Views.{stage_view, view}
use Rattle.dsm_ties.specs.Tied.{bit}
use Rattle.dsm_fresh.specs.Pages as S
use Rattle.dsm_debts.specs.Page as P
use Rattle.dsm_debts.specs.Joining.{At, has_flushed}
use Rattle.dsm_releases.specs.Events as R
use Rattle.dsm_twoway.specs.Views.{plain, mode_view, resting}
use Rattle.dsm_twoway.specs.Tied.{rest_of, is_beginning, is_copied}
use Rattle.dsm_twoway.proofs.Numbers.{AllQuiet}
use Rattle.dsm_twoway.proofs.Scene.{Scene, fresh_left, Acted, Here}
use Rattle.dsm_twoway.proofs.Frame.{AllSilent, by_none, on_knows, numbers_stay}
use Rattle.dsm_twoway.proofs.Blocks.{at_turn}

-- a tick of a clock is nothing to the copies
pub tick_silent : (k : Option ℕ) (d : Bool) → AllSilent (map (At k 0) (R.only d P.Tick))
tick_silent None true = (refl, tt)
tick_silent (Some n) true = (refl, tt)
tick_silent k false = tt

-- what would be open where there is no twin, where there is one, and where the node is exclusive
pub bare_rest : (dir twined : ℕ) → dir ≢ 2 → twined ≢ 1 → resting dir twined ≡ Bare
bare_rest dir twined ne off = rw (ne_eqb dir 2 ne) (rw (ne_eqb twined 1 off) refl)

pub twin_rest : (dir twined : ℕ) → dir ≢ 2 → twined ≡ 1 → resting dir twined ≡ Twinned
twin_rest dir twined ne e = rw (ne_eqb dir 2 ne) (rw (eq-eqb twined 1 e) refl)

pub sole_rest : (dir twined : ℕ) → dir ≡ 2 → resting dir twined ≡ Exclusive
sole_rest dir twined e = rw (eq-eqb dir 2 e) refl

module _ (s : Scene) where
  -- a node with a home elsewhere is not the home
  pub away_by : (s.b.nodes (node_of s.u)).dir ≢ 0 → s.b.home ≢ suc (node_of s.u) → node_of s.u ≢ s.h
  away_by ne off e = go s.home
    where
      go : (s.b.home ≡ 0) ⊎ (s.b.home ≡ suc s.h) → ⊥
      go (inl z) = ne ((s.holds.good (node_of s.u)).homeless z).0
      go (inr z) = off (z ∙ ap suc (sym e))

  -- the directory's word of its own node, and that of the twin
  pub dir_word : (v : ℕ) → (s.b.nodes (node_of s.u)).dir ≡ v → word s.u.lay s.ws (Dir (node_of s.u) s.g) ≡ v
  dir_word v e = s.owned.dir (node_of s.u) s.at.node_in ∙ e

  pub no_twin : (s.b.nodes (node_of s.u)).twined ≡ false → word s.u.lay s.ws (Twined (node_of s.u) s.g) ≢ 1
  no_twin e z = let w = sym z ∙ s.owned.twined (node_of s.u) s.at.node_in ∙ ap bit e in absurd (cc w)

  module _ {r : Round} {k : ℕ} {z : Stage} {o : Own} (f : Here s (On r k z) o) (d : k ≡ s.g) where
    -- the directory's stage of it
    pub stage_at : (s.b.processors s.u.p).stage ≡ stage_view s.u z
    stage_at = f.owns.at ∙ same
      where
        same : view s.u s.g (On r k z) ≡ stage_view s.u z
        same = rw (eq-eqb k s.g d) refl

    module _ (v : O.Stage) (e : stage_view s.u z ≡ v) (held : O.held (node_of s.u) v ≡ suc (node_of s.u)) where
      -- what the directory's state says of its node
      pub node_at_turn : AtTurn s.u.lay.nodes s.b.home (node_of s.u) (node_of s.u) (s.b.nodes (node_of s.u)) v
      node_at_turn = at_turn s v (node_of s.u) (stage_at ∙ e) held

      -- its turn is held
      pub held_here : word s.u.lay s.ws (Turn (node_of s.u) s.g) ≢ 0
      held_here w = let t = (s.holds.fits (node_of s.u) s.u.p).turn_is (ap (O.held (node_of s.u)) (stage_at ∙ e) ∙ held) in
          absurd (cc (sym w ∙ s.owned.turn (node_of s.u) s.at.node_in ∙ t))

    -- what is open there
    pub opened_here : node_of s.u ≢ s.h → stage_turn s.u k z ≡ Some (Page (node_of s.u) k) → plain (s.x.nodes (node_of s.u)).mode ≡ mode_view s.i (rest_of s.h s.g s.i s.u s.ws (node_of s.u)) (has_flushed (s.pages (Some (node_of s.u))).page.work) z
    opened_here away tu = f.knows.mode (node_of s.u) (s.at.node_in, away) (tu ∙ ap (λ w. Some (Page (node_of s.u) w)) d) d

  -- a decision or note that is nothing to the copies, to a stage at which the same is open
  pub quiet_slip : {r : Round} {k : ℕ} {z t : Stage} {o : Own} (es : (m n : ℕ) → List S.Event) → Here s (On r k z) o → ((m n : ℕ) → AllQuiet (es m n)) → stage_turn s.u k t ≡ stage_turn s.u k z
      → ((rest : Mode) (d d' : Bool) → mode_view s.i rest d' t ≡ mode_view s.i rest d z) → is_copied t ≡ false → is_beginning t ≡ false → Acted s (On r k t) s.ws es []
  quiet_slip {r} {k} {z} {t} es f quiet tu same copied beginning =
      by_none s {es = es} [] tt (record { words = s.match.words; counted = numbers_stay s es quiet })
      (on_knows s s.ws (fresh_left s es) s.pages s.x s.c r k t copied beginning
      (λ n away d tu'. f.knows.mode n away (sym tu ∙ tu') d ∙ sym (same (rest_of s.h s.g s.i s.u s.ws n) (has_flushed (s.pages (Some n)).page.work) (has_flushed (s.pages (Some n)).page.work))))
