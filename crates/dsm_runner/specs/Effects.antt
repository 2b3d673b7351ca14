-- What an operation does to the one word at its place.
use Rattle.std.specs.Prelude.{ℕ, ◌+◌, ◌%◌, ◌^◌, ◌==◌, if◌then◌else◌, List, slice_index, slice_set, bit_or}
use Rattle.dsm_words.specs.declared.op.Op.{Op}
use Rattle.dsm_words.specs.declared.op.Op.TheVariants.{Load, Store, Swap, Exchange, Add, Or}
use Rattle.dsm_words.specs.Op.{place_of}

-- what the word becomes, of what it was
abbrev pub effect : Op → ℕ → ℕ
effect (Load at) n = n
effect (Store at v) n = v
effect (Swap at v) n = v
effect (Exchange at old new) n = if n == old then new else n
effect (Add at k) n = (n + k) % 2 ^ 64
effect (Or at bits) n = bit_or n bits

-- what the operation answers, of what the word was
abbrev pub answer_at : Op → ℕ → ℕ
answer_at (Load at) n = n
answer_at (Store at v) n = 0
answer_at (Swap at v) n = n
answer_at (Exchange at old new) n = n
answer_at (Add at k) n = n
answer_at (Or at bits) n = n

-- the words behind it
abbrev pub applied : List ℕ → Op → List ℕ
applied words op = slice_set words (place_of op) (effect op (slice_index words (place_of op)))
