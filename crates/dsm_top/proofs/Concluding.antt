-- How the top call ends, once there is a plan and its program.
use Rattle.std.proofs.Common.{◌≡◌, ◌≢◌, ◌⊎◌, ℕ, ◌≤◌, List, Option, None, Some, Result, Ok, Err, refl, sym, subst, inl, inr, arith}
use Rattle.std.specs.Prelude.{IsSome, IfSome, IsSomeAnd, IfOk, IsErr}
use Rattle.dsm_isa.specs.ProgramText.{ProgramText}
use Rattle.dsm_runs.specs.Outcomes.{Ran, AllHalted, SomeWants}
use Rattle.dsm_top.specs.declared.answering.Answer.{Answer}
use Rattle.dsm_top.specs.declared.plans.Plan.{Plan}
use Rattle.dsm_top.specs.declared.top.Done.{Done}
use Rattle.dsm_top.specs.Plans.{PlanOf, FirstFault}
use Rattle.dsm_top.specs.Refusals.{refused_word}
use Rattle.dsm_top.specs.Answer.{Accepts, Answers, HasRun, IsToGenerate, Takes, WritesLine}
use Rattle.dsm_top.specs.Streams.{Reading, Writing}
use Rattle.dsm_top.specs.Done.{Answered, Concludes, IsDone}
use Rattle.dsm_top.proofs.OnePlan.{one_plan}
use Rattle.dsm_top.proofs.Running.{asked_to, has_ran, has_run}

-- there is no run where there is none
no_run : (o : Option Ran) → o ≡ None → IsSome o → ⊥
no_run None e some = cc some
no_run (Some ran) e some = cc e

-- the status of an answer is none of a refusal's
record Aside (n : ℕ) : Type 0 where
  most : n ≤ 7
  two : n ≢ 2
  three : n ≢ 3
  four : n ≢ 4
  six : n ≢ 6

aside_at : (n k : ℕ) → n ≡ k → (k ≡ 0) ⊎ ((k ≡ 1) ⊎ ((k ≡ 7) ⊎ (k ≡ 5))) → Aside n
aside_at n k e (inl z) = record { most = omega (arith, e, z); two = λ f. omega (arith, e, z, f); three = λ f. omega (arith, e, z, f); four = λ f. omega (arith, e, z, f); six = λ f. omega (arith, e, z, f) }
aside_at n k e (inr (inl z)) = record { most = omega (arith, e, z); two = λ f. omega (arith, e, z, f); three = λ f. omega (arith, e, z, f); four = λ f. omega (arith, e, z, f); six = λ f. omega (arith, e, z, f) }
aside_at n k e (inr (inr (inl z))) = record { most = omega (arith, e, z); two = λ f. omega (arith, e, z, f); three = λ f. omega (arith, e, z, f); four = λ f. omega (arith, e, z, f); six = λ f. omega (arith, e, z, f) }
aside_at n k e (inr (inr (inr z))) = record { most = omega (arith, e, z); two = λ f. omega (arith, e, z, f); three = λ f. omega (arith, e, z, f); four = λ f. omega (arith, e, z, f); six = λ f. omega (arith, e, z, f) }

aside : (d : Done) → Answered d ⊎ (d.status ≡ 5) → Aside d.status
aside d (inl (inl e)) = aside_at d.status 0 e (inl refl)
aside d (inl (inr (inl e))) = aside_at d.status 1 e (inr (inl refl))
aside d (inl (inr (inr e))) = aside_at d.status 7 e (inr (inr (inl refl)))
aside d (inr e) = aside_at d.status 5 e (inr (inr (inr refl)))

module _ (words : List (List ℕ)) (r : Reading) (w : Writing) (Unread Unwritten : Type 0) (d : Done) (plan : Plan) (program : ProgramText) (asked : PlanOf words plan) (read : r.faults_after ≡ r.faults_before) (unread : IsToGenerate plan → Unread) where
  -- the answer was written
  pub done_answered : (a : Answer) → Takes plan r program → Answers plan program a.ran a.text.items → Concludes w d a → IsDone words r w Unread Unwritten d
  done_answered a taken answers done =
      let at = aside d done.status in
      let from : (Q : Option Ran → Type 0) → Q a.ran → Q d.ran = λ Q q. subst Q (sym done.ran) q in
      let accepts : Accepts words r d.ran a.text.items = record { plan = plan; asked = asked; program = program; taken = taken; answers = from (λ ran. Answers plan program ran a.text.items) answers } in
      record {
        status = at.most;
        words_fault = (λ e. absurd (at.two e), λ refuses. absurd (refuses plan asked));
        words_line = λ e. absurd (at.two e);
        words_unread = λ e. absurd (at.two e);
        text = λ e. absurd (at.three e);
        read_fault = λ e. absurd (at.four e);
        read_well = λ _. read;
        unwritten = λ e. absurd (neither at e);
        generated = λ (other, ask, is). (unread (subst IsToGenerate (one_plan words other plan ask asked) is), at.three, at.four);
        whole = λ e. (a.text.items, accepts, done.whole e);
        prefix = λ e. (a.text.items, accepts, done.prefix e);
        ran = (λ some. (asked_to words plan program a.ran a.text.items asked answers (subst IsSome done.ran some), done.status), λ ask. from IsSome (has_ran words plan program a.ran a.text.items asked answers ask.0));
        run = from (λ ran. IfSome ran (HasRun words r)) (has_run words r plan program a.ran a.text.items asked taken answers);
        halted = λ e. from (λ ran. IfSome ran (λ x. AllHalted x.ends)) (done.halted e);
        wanted = λ e. from (λ ran. IsSomeAnd ran (λ x. SomeWants x.ends)) (done.wanted e);
        stopped = λ e. from (λ ran. IsSomeAnd ran (λ x. (AllHalted x.ends → ⊥) × (SomeWants x.ends → ⊥))) (done.stopped e);
      }
    where
      neither : Aside d.status → (d.status ≡ 4) ⊎ (d.status ≡ 6) → ⊥
      neither at (inl e) = at.four e
      neither at (inr e) = at.six e

  -- there was no memory for it
  pub done_without_memory : d.status ≡ 6 → d.ran ≡ None → Unwritten → IsDone words r w Unread Unwritten d
  done_without_memory six lacks unwritten =
      record {
        status = omega (arith, six);
        words_fault = (λ e. absurd (omega (arith, six, e)), λ refuses. absurd (refuses plan asked));
        words_line = λ e. absurd (omega (arith, six, e));
        words_unread = λ e. absurd (omega (arith, six, e));
        text = λ e. absurd (omega (arith, six, e));
        read_fault = λ e. absurd (omega (arith, six, e));
        read_well = λ _. read;
        unwritten = λ _. unwritten;
        generated = λ (other, ask, is). (unread (subst IsToGenerate (one_plan words other plan ask asked) is), λ e. omega (arith, six, e), λ e. omega (arith, six, e));
        whole = λ e. absurd (no_answer (inl e));
        prefix = λ e. absurd (no_answer (inr e));
        ran = (λ some. absurd (no_run d.ran lacks some), λ ask. absurd (no_answer ask.1));
        run = subst (λ ran. IfSome ran (HasRun words r)) (sym lacks) tt;
        halted = λ e. absurd (omega (arith, six, e));
        wanted = λ e. absurd (omega (arith, six, e));
        stopped = λ e. absurd (omega (arith, six, e));
      }
    where
      no_answer : Answered d ⊎ (d.status ≡ 5) → ⊥
      no_answer (inl (inl e)) = omega (arith, six, e)
      no_answer (inl (inr (inl e))) = omega (arith, six, e)
      no_answer (inl (inr (inr e))) = omega (arith, six, e)
      no_answer (inr e) = omega (arith, six, e)

  -- the answer was written, where there was memory for it
  pub done_concluded : {E : Type 0} (o : Result Answer E) → Takes plan r program → IfOk o (λ a. Answers plan program a.ran a.text.items) → IfOk o (λ a. Concludes w d a) → (IsErr o → (d.status ≡ 6) × (d.ran ≡ None) × Unwritten) → IsDone words r w Unread Unwritten d
  done_concluded (Ok a) taken answers done lacks = done_answered a taken answers done
  done_concluded (Err e) taken answers done lacks = let x = lacks refl in done_without_memory x.0 x.1 x.2

-- the words ask for no plan, and the line that says so was written
pub done_without_plan : (words : List (List ℕ)) (r : Reading) (w : Writing) (Unread Unwritten : Type 0) (d : Done) (k : ℕ) → FirstFault words k → ((p : Plan) → PlanOf words p → ⊥) → r.faults_after ≡ r.faults_before → Unread → d.status ≡ 2 → d.ran ≡ None → WritesLine w (refused_word k)
    → IsDone words r w Unread Unwritten d
done_without_plan words r w Unread Unwritten d k fault asks read unread two lacks line =
    record {
      status = omega (arith, two);
      words_fault = (λ _. asks, λ _. two);
      words_line = λ _. (k, fault, line);
      words_unread = λ _. unread;
      text = λ e. absurd (omega (arith, two, e));
      read_fault = λ e. absurd (omega (arith, two, e));
      read_well = λ _. read;
      unwritten = λ e. absurd (neither e);
      generated = λ (plan, ask, is). absurd (asks plan ask);
      whole = λ e. absurd (no_answer (inl e));
      prefix = λ e. absurd (no_answer (inr e));
      ran = (λ some. absurd (no_run d.ran lacks some), λ ask. absurd (no_answer ask.1));
      run = subst (λ ran. IfSome ran (HasRun words r)) (sym lacks) tt;
      halted = λ e. absurd (omega (arith, two, e));
      wanted = λ e. absurd (omega (arith, two, e));
      stopped = λ e. absurd (omega (arith, two, e));
    }
  where
    neither : (d.status ≡ 4) ⊎ (d.status ≡ 6) → ⊥
    neither (inl e) = omega (arith, two, e)
    neither (inr e) = omega (arith, two, e)

    no_answer : Answered d ⊎ (d.status ≡ 5) → ⊥
    no_answer (inl (inl e)) = omega (arith, two, e)
    no_answer (inl (inr (inl e))) = omega (arith, two, e)
    no_answer (inl (inr (inr e))) = omega (arith, two, e)
    no_answer (inr e) = omega (arith, two, e)
