-- What a run starts from.
use Rattle.std.specs.Prelude.{ℕ, ◌+◌, ◌-◌, ◌*◌, ◌≤◌, ◌==◌, if◌then◌else◌, List, [], ◌∷◌, ◌++◌, map, flat_map, replicate}
use Rattle.std.specs.List.{range_with_len}
use Rattle.dsm_isa.specs.ProgramText.{ProgramText}
use Rattle.dsm_isa.specs.Limits.{IsWithinLimits}
use Rattle.dsm_isa.specs.Rules.{ObjectsInside}
use Rattle.dsm_words.specs.Counts.{IsFrom1To}
use Rattle.dsm_words.specs.declared.item.Item.{Item}
use Rattle.dsm_words.specs.declared.item.Item.TheVariants.{Frame, Clock}
use Rattle.dsm_words.specs.Place.{Lay, sizes, start, total}
use Rattle.dsm_protocol.specs.declared.limits.Limits.{Limits}
use Rattle.dsm_protocol.specs.Own.{Who}

-- the program, the nodes, the processors of each, and the limits of each processor
pub record Setup : Type 0 where
  pub program : ProgramText
  pub nodes : ℕ
  pub procs : ℕ
  pub limits : Limits

-- the program keeps its rules, and the cluster and the limits are in their ranges
pub record IsSetup (s : Setup) : Type 0 where
  pub objects : ObjectsInside s.program.shape s.program.code
  pub sizes : IsWithinLimits s.program.shape.pages s.program.shape.words s.program.shape.locks s.program.shape.barriers s.program.shape.flags
  pub nodes : IsFrom1To 8 s.nodes
  pub procs : IsFrom1To 8 s.procs
  pub all : s.nodes * s.procs ≤ 32
  pub turns : s.limits.turns ≤ 1000000

-- the layout of its words
abbrev pub lay_in : Setup → Lay
lay_in s =
    record {
      nodes = s.nodes;
      procs = s.procs;
      pages = s.program.shape.pages;
      words = s.program.shape.words;
      locks = s.program.shape.locks;
      barriers = s.program.shape.barriers;
      flags = s.program.shape.flags;
    }

-- processor p
abbrev pub who_at : Setup → ℕ → Who
who_at s p = record { lay = lay_in s; p = p; limits = s.limits }

-- the addresses of the memory
abbrev pub addresses : Setup → List ℕ
addresses s = range_with_len 0 (s.program.shape.pages * s.program.shape.words)

-- the value with which address w of the memory starts
abbrev pub initial : List (ℕ × ℕ) → ℕ → ℕ
initial [] w = 0
initial (x ∷ xs) w = if x.0 == w then x.1 else initial xs w

-- the value with which an item's word starts: the program's in the frames of every node, 1 in the clocks, and 0 elsewhere
abbrev pub first_value : Setup → Item → ℕ
first_value s (Frame n g i) = initial s.program.init (g * s.program.shape.words + i)
first_value s (Clock n) = 1
first_value s _ = 0

-- the frames of one node with these values
abbrev pub frames_of : Lay → List (ℕ × ℕ) → List ℕ
frames_of l init = map (λ w. initial init w) (range_with_len 0 (l.pages * l.words))

-- all words at the start, block behind block: the stop word, the frames of each node, zeros up to the clocks (block 9), the clocks, and zeros
abbrev pub first_words : Setup → List ℕ
first_words s =
    0
    ∷ (flat_map (λ n. frames_of (lay_in s) s.program.init) (range_with_len 0 s.nodes)
    ++ (replicate (start (sizes (lay_in s)) 9 - start (sizes (lay_in s)) 2) 0
    ++ (replicate s.nodes 1
    ++ replicate (total (lay_in s) - start (sizes (lay_in s)) 10) 0)))
