use Rattle.std.proofs.Common.{◌≡◌, ◌≤◌, ℕ, List, length, sym, subst, ◌∙◌}
use Rattle.std.specs.Result.{IsErrAnd}
use Rattle.dsm_lex.specs.Lexical.{lines_of}
use Rattle.dsm_isa.specs.Jumps.{JumpsInside}
use Rattle.dsm_isa.specs.ProgramText.{ProgramText}
use Rattle.dsm_isa.specs.Rules.{IsInitial, ObjectsInside}
use Rattle.dsm_grammar.specs.Grammar.{place_of, program_of}
use Rattle.dsm_grammar.specs.declared.fault.AsmKind.TheVariants.{NoCode}
use Rattle.dsm_asm.specs.declared.fault.AsmErr.TheVariants.{Refused}
use Rattle.dsm_asm.specs.declared.fault.AsmFault.{AsmFault}
use Rattle.dsm_asm.specs.Assembled.{Refuses}
use Rattle.dsm_asm.specs.Past.{Past, past_of}
use Rattle.dsm_asm.proofs.Refusing.{IfErr-handed_on, IfOk-map}
use Rattle.dsm_asm.proofs.Taking.{fault-no_code, fault-none, program-left}
use Rattle.dsm_asm.proofs.assembler.assemble.Goals as goal

pub returns-in_err-some_code-clause-fault : goal.returns-in_err-some_code-clause-fault
returns-in_err-some_code-clause-fault c =
    let left = c.in_ok-assembly.assembly in
    let none = c.in_err-some_code.ensures.fault in
    let r = c.from_residual-in_err-some_code.result in
    IfErr-handed_on r (Refused (record { line = 1; kind = NoCode })) (Refuses c.args.text.now)
    (subst (λ (f : AsmFault). IsErrAnd r (λ e. e ≡ Refused f)) none.1 c.from_residual-in_err-some_code.ensures.1)
    (fault-no_code c.args.text.now left c.in_ok-assembly.ensures.sound c.in_ok-assembly.ensures.all none.0)

-- what holds of the program holds of what is left
of_program : (text : List ℕ) (left : Past) (P : ProgramText → Type 0) → left ≡ past_of (place_of (lines_of text)) (lines_of text) → P (program_of text) → P (record { shape = left.settings.sizes; init = left.settings.init; code = left.code })
of_program text left P is holds = subst P (sym (program-left text left is)) holds

pub finish-requires-clause-most : goal.finish-requires-clause-most
finish-requires-clause-most c =
    let text = c.args.text.now in
    let left = c.in_ok-assembly.assembly in
    let is = c.in_ok-assembly.ensures.all in
    let sound = fault-none text left c.in_ok-assembly.ensures.sound is c.in_ok-some_code.ensures.some in
    of_program text left (λ p. length p.code ≤ 4096) is (c.program_law.ensures.most text sound)

pub finish-requires-clause-jumps : goal.finish-requires-clause-jumps
finish-requires-clause-jumps c =
    let text = c.args.text.now in
    let left = c.in_ok-assembly.assembly in
    let is = c.in_ok-assembly.ensures.all in
    let sound = fault-none text left c.in_ok-assembly.ensures.sound is c.in_ok-some_code.ensures.some in
    of_program text left (λ p. JumpsInside p.code) is (c.program_law.ensures.jumps text sound)

pub finish-requires-clause-initial : goal.finish-requires-clause-initial
finish-requires-clause-initial c =
    let text = c.args.text.now in
    let left = c.in_ok-assembly.assembly in
    let is = c.in_ok-assembly.ensures.all in
    let sound = fault-none text left c.in_ok-assembly.ensures.sound is c.in_ok-some_code.ensures.some in
    of_program text left (λ p. IsInitial p.shape p.init) is (c.program_law.ensures.initial text sound)

pub finish-requires-clause-objects : goal.finish-requires-clause-objects
finish-requires-clause-objects c =
    let text = c.args.text.now in
    let left = c.in_ok-assembly.assembly in
    let is = c.in_ok-assembly.ensures.all in
    let sound = fault-none text left c.in_ok-assembly.ensures.sound is c.in_ok-some_code.ensures.some in
    of_program text left (λ p. ObjectsInside p.shape p.code) is (c.program_law.ensures.objects text sound)

pub returns-clause-accepted : goal.returns-clause-accepted
returns-clause-accepted c =
    let text = c.args.text.now in
    let left = c.in_ok-assembly.assembly in
    let sound = fault-none text left c.in_ok-assembly.ensures.sound c.in_ok-assembly.ensures.all c.in_ok-some_code.ensures.some in
    IfOk-map c.finish.result _ _ (λ p is. sound) c.finish.ensures.program

pub returns-clause-program : goal.returns-clause-program
returns-clause-program c = IfOk-map c.finish.result _ _ (λ p is. is ∙ program-left c.args.text.now c.in_ok-assembly.assembly c.in_ok-assembly.ensures.all) c.finish.ensures.program
