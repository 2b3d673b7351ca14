use Rattle.std.proofs.Common.{refl}
use Rattle.dsm_entry.specs.declared.entry.Entry.TheVariants.{Signal}
use Rattle.dsm_flat.proofs.Adding.{gates_other, same_entry}
use Rattle.dsm_flat.proofs.visits.Visits.tell.Goals as goal

pub returns-in_default : goal.returns-in_default
returns-in_default c =
    record {
      done = refl;
      clocks = refl;
      gates = λ ts before clock at v h a.
          gates_other ts before c.args.v.place clock c.args.self.now.done v c.args.self.now.gates (λ o j k. c.in_default.not-Signal o j (same_entry ts c.args.v.place c.args.v.entry (Signal o j) h k)) a;
    }
