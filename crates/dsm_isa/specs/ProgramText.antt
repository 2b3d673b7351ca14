-- A program as callers see it.
use Rattle.std.specs.Prelude.{ℕ, List}
use Rattle.dsm_isa.specs.declared.instr.Instr.{Instr}
use Rattle.dsm_isa.specs.declared.shape.Shape.{Shape}

-- the numbers of a shape
pub record Sizes : Type 0 where
  pub pages : ℕ
  pub words : ℕ
  pub locks : ℕ
  pub barriers : ℕ
  pub flags : ℕ

abbrev pub sizes_of : Shape → Sizes
sizes_of s = record { pages = s.pages; words = s.words; locks = s.locks; barriers = s.barriers; flags = s.flags }

-- its sizes, the addresses and values of the words that do not start as 0, and its instructions
pub record ProgramText : Type 0 where
  pub shape : Sizes
  pub init : List (ℕ × ℕ)
  pub code : List Instr
