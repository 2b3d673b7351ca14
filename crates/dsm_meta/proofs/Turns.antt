-- Who holds which turn, and that somebody goes on.
use Rattle.std.proofs.Common.{◌≡◌, true, Some, None, refl, sym, ap, ◌∙◌, arith}
use Rattle.dsm_protocol.specs.Jobs.{Job, Make, Again, Mark, Ask, Begin, Ended, has_ended, held_turn}
use Rattle.dsm_runs.proofs.Lists.{some_one}
use Rattle.dsm_runs.proofs.Seating.{holds_its_turn, each_turn_is_held}
use Rattle.dsm_meta.specs.Facts.{TurnHolders}
use Rattle.dsm_ties.specs.Always.{AlwaysLoosely}

-- one that has ended has nothing to give back
ended_none : (j : Job) → has_ended j ≡ true → held_turn j ≡ None
ended_none (Ended e) h = refl
ended_none (Make a k) h = absurd (cc h)
ended_none (Again a wanted j) h = absurd (cc h)
ended_none (Mark n j) h = absurd (cc h)
ended_none (Ask f) h = absurd (cc h)
ended_none (Begin g) h = absurd (cc h)

pub turn_holders : AlwaysLoosely TurnHolders
turn_holders s events setup =
    record {
      works = λ p m t at there. (
        λ h. (m, at, (holds_its_turn s events p m setup at t there).0 h),
        λ w. (holds_its_turn s events p m setup at t there).1 (ap (λ n. held_turn n.todo) (some_one m w.0 (sym at ∙ w.1)) ∙ w.2),
      );
      one_holder = λ p q t there w v.
          let x = (holds_its_turn s events p w.0 setup w.1 t there).1 w.2 in
          let y = (holds_its_turn s events q v.0 setup v.1 t there).1 v.2 in
          omega (arith, x, y);
      one_turn = λ p m t k at there here x y. some_one t k (sym ((holds_its_turn s events p m setup at t there).0 x) ∙ (holds_its_turn s events p m setup at k here).0 y);
      ended = λ p m t at over there h. let none = ended_none m.todo over in let some = (holds_its_turn s events p m setup at t there).0 h in let z : None ≡ Some t = sym none ∙ some in cc z;
      free = λ t there. each_turn_is_held s events t setup there;
    }
