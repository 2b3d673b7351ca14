-- The program that a seed stands for.
use Rattle.std.specs.Prelude.{ℕ, ◌+◌, ◌%◌, List, slice_index, bit_or}
use Rattle.std.specs.Int.{w64, from_le_bytes, to_le_bytes}
use Rattle.rand_core.specs.Steps.{first_words}
use Rattle.rand_xoshiro.specs.SplitMix64.{mix_u64}
use Rattle.dsm_isa.specs.ProgramText.{ProgramText}
use Rattle.dsm_grammar.specs.Grammar.{program_of}
use Rattle.dsm_gen.specs.declared.numbers.Numbers.{Numbers}
use Rattle.dsm_gen.specs.Template.{template, text_of}

-- word k, from 0, of the first five words of SplitMix64 whose seed are the eight bytes of this number, the lowest first
abbrev pub word : ℕ → ℕ → ℕ
word seed k = slice_index (first_words mix_u64 5 (from_le_bytes w64 (to_le_bytes w64 seed))) k

-- the same with its lowest bit set
abbrev pub odd : ℕ → ℕ
odd u = bit_or u 1

-- how many words on the other word is, of the 1,150: never as far as the word itself
abbrev pub distance : ℕ → ℕ
distance u = 1 + u % 1149

-- the numbers of a seed, one of each word
unfoldable pub numbers_of : ℕ → Numbers
numbers_of seed = record {
  first = odd (word seed 0);
  up = odd (word seed 1);
  up_by = distance (word seed 2);
  down = odd (word seed 3);
  down_by = distance (word seed 4);
}

-- the text with these numbers
unfoldable pub text_with : Numbers → List ℕ
text_with n = text_of (template n)

-- the program that the text stands for
unfoldable pub program_with : Numbers → ProgramText
program_with n = program_of (text_with n)

-- the text of a seed
abbrev pub generated_text : ℕ → List ℕ
generated_text seed = text_with (numbers_of seed)

-- the program of a seed
abbrev pub generated : ℕ → ProgramText
generated seed = program_with (numbers_of seed)
