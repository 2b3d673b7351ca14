use Rattle.std.proofs.Common.{◌≡◌, ℕ, zero, suc, ◌<◌, ◌≤◌, List, [], ◌∷◌, length, IfSome, sym, subst}
use Rattle.std.specs.List.{All}
use Rattle.std.proofs.lemmas.List.Elements.{All-head, All-tail, All-weaker}
use Rattle.dsm_isa.specs.declared.instr.Instr.{Instr}
use Rattle.dsm_isa.specs.Jumps.{target_at}
use Rattle.dsm_isa.specs.ProgramText.{Sizes}
use Rattle.dsm_isa.specs.Rules.{ObjectInside}
use Rattle.dsm_lex.specs.Lexical.{lines_of}
use Rattle.dsm_grammar.specs.Grammar.{settings_of, place_of, program_of}
use Rattle.dsm_grammar.proofs.Starting.{IsInitial-from_ascent}
use Rattle.dsm_grammar.proofs.Counting.{count, count-some, length-code_of}
use Rattle.dsm_grammar.proofs.Keeping.{Inside}
use Rattle.dsm_grammar.proofs.Accepting.{KeptBy-text}
use Rattle.dsm_grammar.proofs.laws.program_law.Goals as goal

jumps_from : (most : ℕ) (sizes : Sizes) (code : List Instr) → All (Inside most sizes) code → (at : ℕ) → IfSome (target_at code at) (λ to. to ≤ most)
jumps_from most sizes [] each at = tt
jumps_from most sizes (i ∷ code) each zero = (All-head (Inside most sizes) i code each).1
jumps_from most sizes (i ∷ code) each (suc at) = jumps_from most sizes code (All-tail (Inside most sizes) i code each) at

length-code : (text : List ℕ) → length (program_of text).code ≡ count (lines_of text)
length-code text = let lines = lines_of text in length-code_of (settings_of lines).sizes (place_of lines) lines

pub returns-clause-limits : goal.returns-clause-limits
returns-clause-limits c = λ text e. (KeptBy-text text e).0.sound.limits

pub returns-clause-initial : goal.returns-clause-initial
returns-clause-initial c = λ text e. let settings = settings_of (lines_of text) in IsInitial-from_ascent settings.sizes settings.init (KeptBy-text text e).0.sound.init

pub returns-clause-some : goal.returns-clause-some
returns-clause-some c = λ text e. subst (λ n. 0 < n) (sym (length-code text)) (count-some (lines_of text) (KeptBy-text text e).1)

pub returns-clause-most : goal.returns-clause-most
returns-clause-most c = λ text e. subst (λ n. n ≤ 4096) (sym (length-code text)) (KeptBy-text text e).0.few

pub returns-clause-jumps : goal.returns-clause-jumps
returns-clause-jumps c = λ text e. let program = program_of text in
    subst (λ n. (at : ℕ) → IfSome (target_at program.code at) (λ to. to ≤ n)) (sym (length-code text)) (jumps_from (count (lines_of text)) program.shape program.code (KeptBy-text text e).0.inside)

pub returns-clause-objects : goal.returns-clause-objects
returns-clause-objects c = λ text e. let program = program_of text in
    All-weaker (Inside (count (lines_of text)) program.shape) (ObjectInside program.shape) (λ i inside. inside.0) program.code (KeptBy-text text e).0.inside
