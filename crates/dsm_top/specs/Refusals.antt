-- The lines that refuse words and texts.
use Rattle.std.specs.Prelude.{ℕ, List, [], ◌∷◌, codes, decimal}
use Rattle.dsm_grammar.specs.declared.fault.Bound.{Bound}
use Rattle.dsm_grammar.specs.declared.fault.Bound.TheVariants.{Pages, Words, Locks, Barriers, Flags, Address as AnAddress, Lock, Barrier, Flag, Code}
use Rattle.dsm_grammar.specs.declared.fault.AsmKind.{AsmKind}
use Rattle.dsm_grammar.specs.declared.fault.AsmKind.TheVariants.{NotAscii, LongLine, DoubleLabel, UnknownWord, DirectiveLate, BadOperand, BadRegister, BadNumber, NoLabel, Limit, NoCode}
use Rattle.dsm_list.specs.Lines.{line}

-- the answer to words that ask for no plan: the number of the first faulty one
unfoldable pub refused_word : ℕ → List ℕ
refused_word k = line (codes "refused" ∷ codes "word" ∷ decimal k ∷ [])

-- the answer to a text that is refused: the line, and what is wrong there
unfoldable pub refused_line : ℕ → List ℕ → List ℕ
refused_line n kind = line (codes "refused" ∷ codes "line" ∷ decimal n ∷ kind ∷ [])

-- the limit that is broken, in two words
abbrev pub limit_name : Bound → List ℕ
limit_name Pages = codes "Limit Pages"
limit_name Words = codes "Limit Words"
limit_name Locks = codes "Limit Locks"
limit_name Barriers = codes "Limit Barriers"
limit_name Flags = codes "Limit Flags"
limit_name AnAddress = codes "Limit Address"
limit_name Lock = codes "Limit Lock"
limit_name Barrier = codes "Limit Barrier"
limit_name Flag = codes "Limit Flag"
limit_name Code = codes "Limit Code"

-- what is wrong with a line, by its name
abbrev pub kind_name : AsmKind → List ℕ
kind_name NotAscii = codes "NotAscii"
kind_name LongLine = codes "LongLine"
kind_name DoubleLabel = codes "DoubleLabel"
kind_name UnknownWord = codes "UnknownWord"
kind_name DirectiveLate = codes "DirectiveLate"
kind_name BadOperand = codes "BadOperand"
kind_name BadRegister = codes "BadRegister"
kind_name BadNumber = codes "BadNumber"
kind_name NoLabel = codes "NoLabel"
kind_name (Limit bound) = limit_name bound
kind_name NoCode = codes "NoCode"
