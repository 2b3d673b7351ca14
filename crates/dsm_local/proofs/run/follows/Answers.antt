use Rattle.std.proofs.Common.{◌≡◌, ◌∙◌, ◌+◌, ◌≤◌, arith, length, sym}
use Rattle.dsm_local.proofs.Deciding.{IsAt-start, IsAt-step, IsAt-within, IsAt-end}
use Rattle.dsm_local.proofs.run.follows.Goals as goal

pub loop-step-init : goal.loop-step-init
loop-step-init c = rw c.new.ensures (IsAt-start c.args.code.now c.args.setting c.args.end c.args.trace.now.list)

pub loop-step-preserved : goal.loop-step-preserved
loop-step-preserved c = IsAt-step _ _ _ _ _ _ _ c.in-Some.step c.loop-step.invariant c.get.ensures c.in-Some.ensures.step

pub overflow_add-taken : goal.overflow_add-taken
overflow_add-taken c =
    let there = IsAt-step _ _ _ _ _ _ _ c.in-Some.step c.loop-step.invariant c.get.ensures c.in-Some.ensures.step in
    let within : c.loop-step.taken + c.in-Some.step.takes ≤ length c.args.trace.now.list = IsAt-within _ _ _ _ _ _ there in
    omega (arith, within, c.len-count.ensures)

pub loop-step-smaller : goal.loop-step-smaller
loop-step-smaller c =
    let there = IsAt-step _ _ _ _ _ _ _ c.in-Some.step c.loop-step.invariant c.get.ensures c.in-Some.ensures.step in
    let within : c.loop-step.taken + c.in-Some.step.takes ≤ length c.args.trace.now.list = IsAt-within _ _ _ _ _ _ there in
    omega (arith, within, c.in-Some.ensures.fewer)

pub returns-then-taken-count : goal.returns-then-taken-count
returns-then-taken-count c =
    let ended = IsAt-end _ _ _ _ _ _ _ c.loop-step.invariant c.get.ensures (sym c.in_default.is ∙ c.next_step.ensures.step) in (
      λ yes. absurd (cc yes),
      λ local. let all = (ended.1 local).0 in absurd (omega (arith, all, c.len-count.ensures, c.if-taken-count.true)),
    )

pub returns : goal.returns
returns c =
    let ended = IsAt-end _ _ _ _ _ _ _ c.loop-step.invariant c.get.ensures (sym c.in_default.is ∙ c.next_step.ensures.step) in
    let within = IsAt-within _ _ _ _ _ _ c.loop-step.invariant in
    let all : c.loop-step.taken ≡ length c.args.trace.now.list = omega (arith, within, c.len-count.ensures, c.if-taken-count.false) in
    (λ yes. ended.0 (all, c.may_end.ensures.0 yes), λ local. c.may_end.ensures.1 (ended.1 local).1)
