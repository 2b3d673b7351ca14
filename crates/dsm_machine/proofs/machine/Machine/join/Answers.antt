use Rattle.std.proofs.Common.{Bool, List, sym, ap}
use Rattle.dsm_machine.specs.Machines.{own_of}
use Rattle.dsm_machine.proofs.Flags.{flags_join, all_or, or_page}
use Rattle.dsm_machine.proofs.machine.Machine.join.Goals as goal

pub returns-clause-own : goal.returns-clause-own
returns-clause-own c =
    let m = c.args.self.now in
    let d = m.dirty in
    let s = c.args.set in
    ap (λ (f : List Bool). record (own_of m) { dirty = f }) (sym (flags_join d s (all_or d s) (or_page d s)))
