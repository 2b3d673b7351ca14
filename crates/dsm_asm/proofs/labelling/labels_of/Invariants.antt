use Rattle.std.proofs.Common.{◌+◌, ◌≤◌, length}
use Rattle.dsm_asm.specs.Table.{held}
use Rattle.dsm_asm.proofs.Whereabouts.{HasLabelled}
use Rattle.dsm_asm.proofs.labelling.labels_of.Given as goal

-- The lines before the rest were read.
abbrev pub invariant-loop-here : goal.invariant-loop-here
invariant-loop-here l = record {
  read : HasLabelled l.fn.text l.rest l.line l.place (held l.labels);
  fits : l.line + length l.rest ≤ length l.fn.text;
  fewer : l.place ≤ l.line;
}

abbrev pub decreases-loop-here : goal.decreases-loop-here
decreases-loop-here l = length l.rest
