use Rattle.std.proofs.Common.{◌≡◌, refl, subst, ◌∙◌}
use Rattle.std.specs.Prelude.{IfOk}
use Rattle.dsm_isa.specs.Limits.{IsWithinLimits}
use Rattle.dsm_isa.specs.ProgramText.{ProgramText}
use Rattle.dsm_isa.specs.Rules.{ObjectsInside}
use Rattle.dsm_top.specs.Plans.{texts}
use Rattle.dsm_top.specs.Done.{Concludes}
use Rattle.dsm_top.specs.Streams.{reading, writing}
use Rattle.dsm_top.proofs.Running.{runnable}
use Rattle.dsm_top.proofs.Concluding.{done_concluded}
use Rattle.dsm_top.proofs.top.top.Goals as goal

pub answer_as_planned-requires-clause-runnable : goal.answer_as_planned-requires-clause-runnable
answer_as_planned-requires-clause-runnable g c κs outlives =
    let within = subst (λ (q : ProgramText). IsWithinLimits q.shape.pages q.shape.words q.shape.locks q.shape.barriers q.shape.flags) c.program.view_is c.program.inside.shape.within in
    let objects = subst (λ (q : ProgramText). ObjectsInside q.shape q.code) c.program.view_is c.program.invariant.1 in
    runnable (texts c.args.words.now) c.in-Ok.prepared.plan c.in-Ok.prepared.program c.in-Ok.ensures.plan within objects

pub returns : goal.returns
returns g c =
    let r = reading g.S.Source.left g.S.Source.faults c.args.source.now c.prepare.new.source in
    let same = c.in-Ok.ensures.sink refl in
    done_concluded (texts c.args.words.now) r (writing g.K.Sink.written g.K.Sink.handed g.K.Sink.faults c.args.sink.now c.conclude.new.sink) (c.prepare.new.source ≡ c.args.source.now) (c.conclude.new.sink ≡ c.args.sink.now) c.conclude.result c.in-Ok.prepared.plan c.in-Ok.prepared.program c.in-Ok.ensures.plan c.in-Ok.ensures.read c.in-Ok.ensures.unread
    c.answer_as_planned.result c.in-Ok.ensures.taken c.answer_as_planned.ensures
    (subst (λ k. IfOk c.answer_as_planned.result (λ a. Concludes (writing g.K.Sink.written g.K.Sink.handed g.K.Sink.faults k c.conclude.new.sink) c.conclude.result a)) same c.conclude.ensures.answered)
    (λ err. let x = c.conclude.ensures.none err in (x.0, x.1, x.2 ∙ same))
