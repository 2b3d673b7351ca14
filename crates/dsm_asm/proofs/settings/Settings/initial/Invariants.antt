use Rattle.std.proofs.Common.{◌≡◌, take}
use Rattle.dsm_asm.specs.Directives.{nonzero}
use Rattle.dsm_asm.proofs.settings.Settings.initial.Given as goal

abbrev pub invariant-loop-word : goal.invariant-loop-word
invariant-loop-word l = l.init.items ≡ nonzero 0 (take l.word l.value-items)
