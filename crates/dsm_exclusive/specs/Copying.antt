-- The copy of a node that enters exclusive mode.
use Rattle.std.specs.Prelude.{Bool, true}
use Rattle.dsm_words.specs.Script.{is_open}
use Rattle.dsm_incoming.specs.declared.overwrite.Overwrite.{Overwrite}
use Rattle.dsm_incoming.specs.Getting.{overwrite_rest}
use Rattle.dsm_exclusive.specs.declared.enter.At.{At}
use Rattle.dsm_exclusive.specs.declared.enter.At.TheVariants.{Draw, Copy, Stamp, Last, Over}

-- as long as it is before or under way, there is a word to copy
abbrev pub copy_open : Overwrite → At → Bool
copy_open copy Draw = is_open (overwrite_rest copy)
copy_open copy (Copy t) = is_open (overwrite_rest copy)
copy_open copy (Stamp t) = true
copy_open copy Last = true
copy_open copy Over = true
