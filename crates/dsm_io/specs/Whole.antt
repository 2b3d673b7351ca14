-- Reading to the end, writing all, and handing on.
use Rattle.std.specs.Prelude.{◌≡◌, ℕ, ◌≤◌, List, ◌++◌, length, Option, Some, None, ⊤}
use Rattle.std.specs.Io.KnownBytes.{Appends, Consumes}

-- from old to new, so many bytes were taken
abbrev pub ConsumesSome : Option (List ℕ) → Option (List ℕ) → ℕ → Type 0
ConsumesSome old new n = (bytes : List ℕ) × (length bytes ≡ n) × Consumes old new bytes

-- from old to new, at most so many bytes were taken
abbrev pub ConsumesAtMost : Option (List ℕ) → Option (List ℕ) → ℕ → Type 0
ConsumesAtMost old new n = (bytes : List ℕ) × (length bytes ≤ n) × Consumes old new bytes

-- from old to new, a prefix of the bytes was written
abbrev pub AppendsPrefix : Option (List ℕ) → Option (List ℕ) → List ℕ → Type 0
AppendsPrefix old new bytes = (front : List ℕ) × (rest : List ℕ) × (bytes ≡ front ++ rest) × Appends old new front

-- all that was written was handed on, where a sink tells what it has handed on
abbrev pub HandsOnAll : Option (List ℕ) → Option (List ℕ) → Type 0
HandsOnAll None written = ⊤
HandsOnAll (Some bytes) written = written ≡ Some bytes
