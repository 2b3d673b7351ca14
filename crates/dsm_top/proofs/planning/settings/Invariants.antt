use Rattle.std.proofs.Common.{take}
use Rattle.dsm_top.specs.Plans.{texts, Give}
use Rattle.dsm_top.proofs.planning.settings.Given as goal

abbrev pub invariant-loop-i : goal.invariant-loop-i
invariant-loop-i l = Give l.fn.command (take l.i (texts l.words)) l.given
