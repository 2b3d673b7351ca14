use Rattle.std.proofs.Common.{◌-◌, refl, sym, ap, ◌∙◌, arith}
use Rattle.dsm_protocol.specs.Processors.{settled}
use Rattle.dsm_machine.specs.Faults.{page_at, round_job}
use Rattle.dsm_machine.specs.Machines.{who, own_of}
use Rattle.dsm_machine.proofs.Visiting.{first_visit, no_visit}
use Rattle.dsm_machine.proofs.machine.Machine.visit.Goals as goal

pub returns-in-Some-clause-seen : goal.returns-in-Some-clause-seen
returns-in-Some-clause-seen c =
    let m = c.args.self.now in
    let u = who m in
    let a = c.args.access in
    let h = c.args.h in
    let found = c.in-Some.ensures.some in
    c.visit_node.ensures.seen
    ∙ ap (settled (own_of m)) (sym (first_visit u (page_at u a) h c.args.busy m.lay.t.nodes (round_job u a h) (m.lay.t.nodes - c.args.m) c.args.m c.in-Some.next (omega (arith, c.requires.node)) found.0 found.1 found.2 found.3))

pub returns-in-None-clause-seen : goal.returns-in-None-clause-seen
returns-in-None-clause-seen c =
    let m = c.args.self.now in
    let u = who m in
    let a = c.args.access in
    let h = c.args.h in
    c.retake.ensures.seen
    ∙ ap (settled (own_of m)) (sym (no_visit u (page_at u a) h c.args.busy m.lay.t.nodes (round_job u a h) (m.lay.t.nodes - c.args.m) c.args.m (omega (arith, c.requires.node)) (c.in-None.ensures.none refl)))
