use Rattle.std.proofs.Common.{◌≡◌, Some, ap, ◌∙◌, sym, slice_index, []}
use Rattle.dsm_grammar.specs.Statements.{three_registers, two_registers_number}
use Rattle.dsm_asm.specs.Forms.{with_registers, with_number}
use Rattle.dsm_asm.specs.Table.{places}
use Rattle.dsm_asm.specs.Words.{listed, words_fault}
use Rattle.dsm_asm.proofs.Refusing.{IfErr-handed_on}
use Rattle.dsm_asm.proofs.instructions.instruction.Goals as goal

pub returns-in_err-nothing-in-Halt-clause-fault : goal.returns-in_err-nothing-in-Halt-clause-fault
returns-in_err-nothing-in-Halt-clause-fault c =
    rw c.in-Halt.is (IfErr-handed_on c.from_residual.result c.in_err-nothing-in-Halt.field-0.0 (λ kind. words_fault (places c.args.labels.now) [] (listed c.args.operands) ≡ Some kind) c.from_residual.ensures.1 (c.in_err-nothing-in-Halt.ensures.err (places c.args.labels.now)))

pub returns-in_err-d-in-Arithmetic-clause-fault : goal.returns-in_err-d-in-Arithmetic-clause-fault
returns-in_err-d-in-Arithmetic-clause-fault c =
    rw c.in-Arithmetic.is (IfErr-handed_on c.from_residual-in_err-d-in-Arithmetic.result c.in_err-d-in-Arithmetic.field-0.0 (λ kind. words_fault (places c.args.labels.now) three_registers (listed c.args.operands) ≡ Some kind) c.from_residual-in_err-d-in-Arithmetic.ensures.1 (c.in_err-d-in-Arithmetic.ensures.err (places c.args.labels.now)))

pub returns-in_err-r-in-Number-clause-fault : goal.returns-in_err-r-in-Number-clause-fault
returns-in_err-r-in-Number-clause-fault c =
    rw c.in-Number.is (IfErr-handed_on c.from_residual-in_err-r-in-Number.result c.in_err-r-in-Number.field-0.0 (λ kind. words_fault (places c.args.labels.now) two_registers_number (listed c.args.operands) ≡ Some kind) c.from_residual-in_err-r-in-Number.ensures.1 (c.in_err-r-in-Number.ensures.err (places c.args.labels.now)))

pub returns-in_ok-nothing-in-Halt-clause-sound : goal.returns-in_ok-nothing-in-Halt-clause-sound
returns-in_ok-nothing-in-Halt-clause-sound c = rw c.in-Halt.is ((c.in_ok-nothing-in-Halt.ensures.ok (places c.args.labels.now)).sound)

pub returns-in_ok-d-in-Arithmetic-clause-sound : goal.returns-in_ok-d-in-Arithmetic-clause-sound
returns-in_ok-d-in-Arithmetic-clause-sound c = rw c.in-Arithmetic.is ((c.in_ok-d-in-Arithmetic.ensures.ok (places c.args.labels.now)).sound)

pub returns-in_ok-d-in-Arithmetic-clause-meaning :
    goal.returns-in_ok-d-in-Arithmetic-clause-meaning
returns-in_ok-d-in-Arithmetic-clause-meaning c =
    rw c.in-Arithmetic.is (ap (λ vs. with_registers c.in-Arithmetic.op (slice_index vs 0) (slice_index vs 1) (slice_index vs 2)) ((c.in_ok-d-in-Arithmetic.ensures.ok (places c.args.labels.now)).values_are) ∙ sym c.on-in-Arithmetic.ensures)

pub returns-in_ok-r-in-Number-clause-sound : goal.returns-in_ok-r-in-Number-clause-sound
returns-in_ok-r-in-Number-clause-sound c = rw c.in-Number.is ((c.in_ok-r-in-Number.ensures.ok (places c.args.labels.now)).sound)

pub returns-in_ok-r-in-Number-clause-meaning : goal.returns-in_ok-r-in-Number-clause-meaning
returns-in_ok-r-in-Number-clause-meaning c =
    rw c.in-Number.is (ap (λ vs. with_number c.in-Number.op (slice_index vs 0) (slice_index vs 1) (slice_index vs 2)) ((c.in_ok-r-in-Number.ensures.ok (places c.args.labels.now)).values_are) ∙ sym c.on-in-Number.ensures)
