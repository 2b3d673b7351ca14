use Rattle.std.proofs.Common.{sym, ap, ◌∙◌, subst, if◌then◌else◌}
use Rattle.dsm_machine.specs.Machines.{who, own_of, seen, processor_in}
use Rattle.dsm_protocol.specs.Steps.{starved_job}
use Rattle.dsm_protocol.specs.Processors.{IsMade}
use Rattle.dsm_protocol.proofs.Reading.{IsMade-starved}
use Rattle.dsm_protocol.proofs.Settling.{same_own, still_runs}
use Rattle.dsm_machine.proofs.machine.Machine.starve.Goals as goal

pub returns-clause-starved : goal.returns-clause-starved
returns-clause-starved c = λ code.
    let m = c.args.self.now in
    let n = processor_in m code in
    ap (λ o. record { own = o; todo = starved_job (who m) }) (sym (same_own (who m) (own_of m) code (seen m).todo))
    ∙ ap (λ b. record { own = n.own; todo = if b then n.todo else starved_job (who m) }) (sym (still_runs (who m) (own_of m) code (seen m).todo c.requires.runs))

pub returns-clause-made : goal.returns-clause-made
returns-clause-made c = λ code made.
    let m = c.args.self.now in
    subst (IsMade (who m) code) (sym (returns-clause-starved c code)) (IsMade-starved (who m) code (processor_in m code) made)
