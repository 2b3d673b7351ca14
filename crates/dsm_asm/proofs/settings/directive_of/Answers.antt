use Rattle.std.proofs.Common.{◌≡◌, codes, refl, arith}
use Rattle.std.proofs.lemmas.Grind.{elements}
use Rattle.dsm_asm.proofs.settings.directive_of.Goals as goal

pub returns-in-46-clause-size : goal.returns-in-46-clause-size
returns-in-46-clause-size c =
    let is : c.args.name.now ≡ codes ".pages" = grind (arith, elements) in
    rw is refl

pub returns-in-46-2-clause-size : goal.returns-in-46-2-clause-size
returns-in-46-2-clause-size c =
    let is : c.args.name.now ≡ codes ".words" = grind (arith, elements) in
    rw is refl
