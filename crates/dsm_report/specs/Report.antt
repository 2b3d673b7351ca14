-- The report of a run, line by line.
use Rattle.std.specs.Prelude.{◌≡◌, ◌↔◌, ℕ, Bool, true, false, if◌then◌else◌, ◌+◌, ◌*◌, ◌<◌, List, [], ◌∷◌, ◌++◌, length, slice_get, Option, None, Some, map, flat_map, codes, decimal}
use Rattle.std.specs.List.{range_with_len, slice_range}
use Rattle.dsm_isa.specs.ProgramText.{Sizes}
use Rattle.dsm_entry.specs.declared.entry.Entry.{Entry}
use Rattle.dsm_entry.specs.declared.entry.Entry.TheVariants.{Load, Store, Signal, Pass, Out}
use Rattle.dsm_entry.specs.declared.entry.Obj.{Obj}
use Rattle.dsm_entry.specs.declared.entry.Obj.TheVariants.{Lock, Barrier, Flag, Close}
use Rattle.dsm_flat.specs.Order.{Traces}
use Rattle.dsm_flat.specs.Flat.{Ordered}
use Rattle.dsm_local.specs.declared.end.End.{End}
use Rattle.dsm_local.specs.declared.end.End.TheVariants.{Halted, Trapped, Spent, Looked, Stopped, NoMemory}
use Rattle.dsm_local.specs.declared.end.Trap.{Trap}
use Rattle.dsm_local.specs.declared.end.Trap.TheVariants.{Address, NotHeld, DivideByZero}
use Rattle.dsm_list.specs.Lines.{line}
use Rattle.dsm_words.specs.declared.topology.Topology.{Topology}
use Rattle.dsm_protocol.specs.declared.counts.Counts.{Counts}
use Rattle.dsm_runs.specs.Outcomes.{Ran}

-- a topology as a word
abbrev pub topology_word : Topology → List ℕ
topology_word t = decimal t.nodes ++ codes "x" ++ decimal t.procs

-- what a processor could not do, in words
abbrev pub trap_words : Trap → List (List ℕ)
trap_words (Address w) = codes "address" ∷ decimal w ∷ []
trap_words (NotHeld l) = codes "notheld" ∷ decimal l ∷ []
trap_words DivideByZero = codes "zero" ∷ []

-- how a processor ended, in words
abbrev pub end_words : Option End → List (List ℕ)
end_words (Some Halted) = codes "halted" ∷ []
end_words (Some (Trapped place kind)) = codes "trapped" ∷ decimal place ∷ trap_words kind
end_words (Some Spent) = codes "spent" ∷ []
end_words (Some Looked) = codes "looked" ∷ []
end_words (Some (Stopped by)) = codes "stopped" ∷ codes "by" ∷ decimal by ∷ []
end_words (Some NoMemory) = codes "nomemory" ∷ []
end_words None = codes "cut" ∷ []

-- a line for the end of each processor, numbered from p on
abbrev pub end_lines : ℕ → List (Option End) → List ℕ
end_lines p [] = []
end_lines p (e ∷ ends) = line (codes "end" ∷ decimal p ∷ end_words e) ++ end_lines (p + 1) ends

-- a line for each number that processor p printed
abbrev pub out_line : ℕ → Entry → List ℕ
out_line p (Out v) = line (codes "out" ∷ decimal p ∷ decimal v ∷ [])
out_line p _ = []

abbrev pub out_lines : ℕ → List (List Entry) → List ℕ
out_lines p [] = []
out_lines p (t ∷ traces) = flat_map (out_line p) t ++ out_lines (p + 1) traces

-- the line of page g, where a page has so many of these words
abbrev pub page_line : ℕ → List ℕ → ℕ → List ℕ
page_line size words g = line (codes "page" ∷ decimal g ∷ map decimal (slice_range words (g * size) ((g + 1) * size)))

-- a line for each page, ascending
abbrev pub page_lines : Sizes → List ℕ → List ℕ
page_lines shape words = flat_map (page_line shape.words words) (range_with_len 0 shape.pages)

-- for each of so many words whether its conflicting accesses are not ordered
pub record AreRaces (ts : Traces) (words : ℕ) (races : List Bool) : Type 0 where
  pub len : length races ≡ words
  pub ordered : (w : ℕ) → w < words → (slice_get races w ≡ Some false) ↔ Ordered ts w
  pub raced : (w : ℕ) → w < words → (slice_get races w ≡ Some true) ↔ (Ordered ts w → ⊥)

-- a line for word w, where it is not ordered
abbrev pub race_line : ℕ → Bool → List ℕ
race_line w true = line (codes "raced" ∷ decimal w ∷ [])
race_line w false = []

-- a line for each word that is not ordered, ascending, numbered from w on
abbrev pub race_lines : ℕ → List Bool → List ℕ
race_lines w [] = []
race_lines w (race ∷ races) = race_line w race ++ race_lines (w + 1) races

-- the counts in their order, each with its name
abbrev pub named_counts : Counts → List (List ℕ × ℕ)
named_counts k =
    (codes "read_faults", k.read_faults)
    ∷ (codes "write_faults", k.write_faults)
    ∷ (codes "overwrites", k.overwrites)
    ∷ (codes "merges", k.merges)
    ∷ (codes "twins", k.twins)
    ∷ (codes "flushes", k.flushes)
    ∷ (codes "early", k.early)
    ∷ (codes "notices", k.notices)
    ∷ (codes "unmaps", k.unmaps)
    ∷ (codes "enters", k.enters)
    ∷ (codes "breaks", k.breaks)
    ∷ (codes "unready", k.unready)
    ∷ []

-- the line of a count of this name
unfoldable pub count_line : List ℕ → ℕ → List ℕ
count_line name n = line (codes "count" ∷ name ∷ decimal n ∷ [])

-- a line for each count of all processors together
unfoldable pub count_lines : Counts → List ℕ
count_lines k = flat_map (λ count. count_line count.0 count.1) (named_counts k)

-- what is synchronised at, in words
abbrev pub object_words : Obj → List (List ℕ)
object_words (Lock l) = codes "lock" ∷ decimal l ∷ []
object_words (Barrier b) = codes "barrier" ∷ decimal b ∷ []
object_words (Flag f) = codes "flag" ∷ decimal f ∷ []
object_words Close = codes "close" ∷ []

-- what a processor did, in words
abbrev pub entry_words : Entry → List (List ℕ)
entry_words (Load w v) = codes "load" ∷ decimal w ∷ decimal v ∷ []
entry_words (Store w v) = codes "store" ∷ decimal w ∷ decimal v ∷ []
entry_words (Signal o j) = codes "signal" ∷ object_words o ++ decimal j ∷ []
entry_words (Pass o c) = codes "pass" ∷ object_words o ++ decimal c ∷ []
entry_words (Out v) = codes "out" ∷ decimal v ∷ []

-- a line for each entry of processor p
abbrev pub trace_line : ℕ → Entry → List ℕ
trace_line p entry = line (codes "t" ∷ decimal p ∷ entry_words entry)

abbrev pub trace_lines : ℕ → List (List Entry) → List ℕ
trace_lines p [] = []
trace_lines p (t ∷ traces) = flat_map (trace_line p) t ++ trace_lines (p + 1) traces

-- the lines of the report: the cluster, the ends, what was printed, the pages with their words, the words that are not ordered, and the
-- counts; where it is asked for, also what each processor did
unfoldable pub report : Topology → Sizes → Ran → List Bool → Bool → List ℕ
report t shape ran races trace = line (codes "cashmere" ∷ topology_word t ∷ []) ++ end_lines 0 ran.ends ++ out_lines 0 ran.traces ++ page_lines shape ran.pages ++ race_lines 0 races ++ count_lines ran.counts ++ (if trace then trace_lines 0 ran.traces else [])

-- The report of a run: its lines, where those of words that are not ordered are as its traces say.
abbrev pub IsReport : Topology → Sizes → Ran → Bool → List ℕ → Type 0
IsReport t shape ran trace text = (races : List Bool) × AreRaces ran.traces (length ran.pages) races × (text ≡ report t shape ran races trace)
