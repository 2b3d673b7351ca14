use Rattle.std.proofs.Common.{rules, arith}
use Rattle.std.proofs.lemmas.Grind.{common_steps}
use Rattle.dsm_gen.proofs.Whole.{AreWords, parts-template}
use Rattle.dsm_gen.proofs.generating.instructions.Goals as goal

pub returns : goal.returns
returns c =
    let are : AreWords c.args.n = record { first = search rules; up = search rules; up_by = search rules; down = search rules; down_by = search rules } in
    let whole = parts-template c.args.n are in
    grind (arith, common_steps)
