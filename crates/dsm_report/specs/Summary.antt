-- The summary of the run of a generated program.
use Rattle.std.specs.Prelude.{ℕ, Bool, true, false, ◌%◌, ◌^◌, List, [], ◌∷◌, ◌++◌, length, slice_index_or, Option, None, Some, codes, decimal, sum}
use Rattle.std.specs.List.{filter_map, count_by, last_or}
use Rattle.dsm_isa.specs.ProgramText.{ProgramText}
use Rattle.dsm_entry.specs.declared.entry.Entry.{Entry}
use Rattle.dsm_entry.specs.declared.entry.Entry.TheVariants.{Out}
use Rattle.dsm_local.specs.declared.end.End.{End}
use Rattle.dsm_local.specs.declared.end.End.TheVariants.{Halted}
use Rattle.dsm_list.specs.Lines.{line}
use Rattle.dsm_words.specs.declared.topology.Topology.{Topology}
use Rattle.dsm_runs.specs.Outcomes.{Ran}
use Rattle.dsm_report.specs.Report.{topology_word}

-- the processor halted
abbrev pub has_halted : Option End → Bool
has_halted (Some Halted) = true
has_halted _ = false

-- what an entry prints
abbrev pub printed_in : Entry → Option ℕ
printed_in (Out v) = Some v
printed_in _ = None

-- the last number that a processor printed
abbrev pub last_printed : List Entry → Option ℕ
last_printed entries = last_or None (filter_map printed_in entries)

-- the same as a word
abbrev pub number_word : Option ℕ → List ℕ
number_word (Some n) = decimal n
number_word None = codes "none"

-- the summary: the seed and the cluster, how many instructions there are, how many processors halted, the last number that
-- processor 0 printed, and the sum of all words of the pages modulo 2^64
unfoldable pub summary : ℕ → Topology → ProgramText → Ran → List ℕ
summary seed t p ran =
    line (codes "gen" ∷ codes "seed" ∷ decimal seed ∷ topology_word t ∷ [])
    ++ line (codes "code" ∷ decimal (length p.code) ∷ [])
    ++ line (codes "halted" ∷ decimal (count_by has_halted ran.ends) ∷ [])
    ++ line (codes "total" ∷ number_word (last_printed (slice_index_or ran.traces 0 [])) ∷ [])
    ++ line (codes "sum" ∷ decimal (sum ran.pages % 2 ^ 64) ∷ [])
