use Rattle.std.proofs.Common.{ℕ, Bool, sym, ap, ap₂, ◌∙◌}
use Rattle.dsm_words.specs.Place.{lay_of}
use Rattle.dsm_twin.specs.Twins.{make_twin_script}
use Rattle.dsm_machine.specs.declared.outcome.Outcome.TheVariants.{Nothing, Whether}
use Rattle.dsm_machine.specs.declared.write.WriteAt.TheVariants.{TwinFound, TwinMade}
use Rattle.dsm_machine.specs.Writes.{write_next}
use Rattle.dsm_machine.specs.Machines.{who, own_of}
use Rattle.dsm_protocol.specs.Jobs.{call}
use Rattle.dsm_protocol.specs.Processors.{settled}
use Rattle.dsm_machine.proofs.machine.Machine.twin_found.Goals as goal

pub returns-clause-seen : goal.returns-clause-seen
returns-clause-seen c =
    let m = c.args.self.now in
    let u = who m in
    let w = c.args.w in
    let v = c.args.v in
    c.start.ensures.seen
    ∙ (ap (λ s. settled (own_of m) (call s (λ _. write_next u w v TwinMade Nothing))) (c.new-make.ensures.rest ∙ ap₂ (λ (n g : ℕ). make_twin_script (lay_of m.lay) n g) c.node.ensures.value c.page.ensures.value)
    ∙ ap (λ (b : Bool). settled (own_of m) (write_next u w v TwinFound (Whether b))) (sym c.if-twin.false))
