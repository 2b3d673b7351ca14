use Rattle.std.proofs.Common.{◌≡◌, ◌*◌, ◌-◌, length, vec_len, refl, arith}
use Rattle.std.proofs.lemmas.Grind.{common_steps}
use Rattle.dsm_asm.specs.Directives.{nonzero}
use Rattle.dsm_asm.proofs.Starting.{nonzero-zeros}
use Rattle.dsm_asm.proofs.settings.Settings.begin.Goals as goal

pub returns-in_ok-resize-clause-set : goal.returns-in_ok-resize-clause-set
returns-in_ok-resize-clause-set c =
    let none : length c.self.inside.values.items ≡ 0 = grind (arith, common_steps) in
    let same : nonzero 0 c.resize.new.self.items ≡ nonzero 0 c.self.inside.values.items = rw c.in_ok-resize.ensures.items (nonzero-zeros (c.self.inside.pages * c.self.inside.words) (c.self.inside.pages * c.self.inside.words - vec_len c.self.inside.values) c.self.inside.values.items none) in
    rw (← c.self.view_is, same) refl
