-- The parts of what a phase found, each with a value where it has none.
use Rattle.std.specs.Prelude.{ℕ, Bool, false, List, replicate, Option, None}
use Rattle.dsm_directory.specs.declared.row.Row.{Row}
use Rattle.dsm_directory.specs.Directory.{no_row}
use Rattle.dsm_sync.specs.declared.got.Got.{Got as Look}
use Rattle.dsm_sync.specs.declared.got.Got.TheVariants.{Unready}
use Rattle.dsm_machine.specs.declared.outcome.Outcome.{Outcome}
use Rattle.dsm_machine.specs.declared.outcome.Outcome.TheVariants.{Number, Node, Whether, Pages, Row as Seen, Holder, Got}

-- the number, or 0
abbrev pub number_of : Outcome → ℕ
number_of (Number v) = v
number_of _ = 0

-- the node, or 0
abbrev pub node_in : Outcome → ℕ
node_in (Node h) = h
node_in _ = 0

-- the answer, or no
abbrev pub whether_of : Outcome → Bool
whether_of (Whether b) = b
whether_of _ = false

-- the set of pages, or the empty one
abbrev pub pages_of : Outcome → List ℕ
pages_of (Pages set) = set
pages_of _ = replicate 4 0

-- what the directory says, or that nobody uses the page
abbrev pub row_of : Outcome → Row
row_of (Seen row) = row
row_of _ = no_row

-- the node that has a page alone, if there is one
abbrev pub holder_of : Outcome → Option ℕ
holder_of (Holder m) = m
holder_of _ = None

-- what a look found, or that its object was not ready
abbrev pub got_of : Outcome → Look
got_of (Got got) = got
got_of _ = Unready
