use Rattle.std.proofs.Common.{◌≡◌, ◌<◌, length, ap, ◌∙◌, arith}
use Rattle.std.proofs.lemmas.Grind.{common_steps}
use Rattle.dsm_grammar.specs.Settings.{starts_as}
use Rattle.dsm_asm.specs.Directives.{nonzero}
use Rattle.dsm_asm.proofs.Starting.{nonzero-set_at}
use Rattle.dsm_asm.proofs.settings.Settings.start.Goals as goal

pub returns-clause-init : goal.returns-clause-init
returns-clause-init c =
    let within : c.args.word < length c.self.inside.values.items = grind (arith, common_steps) in
    let before : nonzero 0 c.self.inside.values.items ≡ c.args.self.now.set.init = ap (λ h. h.set.init) c.self.view_is ∙ ap (λ s. s.init) c.in_ok-begin.ensures.set in
    nonzero-set_at c.args.word c.args.value c.self.inside.values.items within ∙ ap (starts_as c.args.word c.args.value) before
