use Rattle.std.proofs.Common.{ℕ, List, Some, sym, ap, ◌∙◌}
use Rattle.dsm_asm.specs.declared.fault.LineErr.{LineErr}
use Rattle.dsm_asm.specs.declared.fault.LineErr.TheVariants.{Refused}
use Rattle.dsm_asm.specs.Assembled.{IsRefused}
use Rattle.dsm_asm.specs.Lines.{Says}
use Rattle.dsm_asm.specs.Past.{statement_fault_behind}
use Rattle.dsm_asm.specs.Table.{places}
use Rattle.dsm_asm.proofs.Refusing.{IfErr-handed_on, IfErr-map, OnOk-all}
use Rattle.dsm_asm.proofs.Stating.{Directs, DirectsNothing, taken-directive, taken-instruction, refused-directive, refused-instruction, refused-unknown}
use Rattle.dsm_asm.proofs.assembly.Assembly.state.Goals as goal

pub returns-in_err-form-clause-fault : goal.returns-in_err-form-clause-fault
returns-in_err-form-clause-fault c =
    let nothing : DirectsNothing c.args.statement.name.now = record { row = c.in_default.ensures.named; init = c.in_default.ensures.no_init } in
    let unknown = c.in_err-form.ensures.fault in
    let P : LineErr → Type 0 = λ e. (words : List (List ℕ)) → Says words c.args.statement → IsRefused (statement_fault_behind c.args.self.now (places c.args.labels.now) c.args.labelled words) e in
    IfErr-handed_on c.from_residual.result (Refused c.in_err-form.field-0.0) P c.from_residual.ensures.1
    (λ words says. refused-unknown c.args.self.now (places c.args.labels.now) c.args.labelled c.args.statement words says nothing unknown.0 ∙ ap Some (sym unknown.1))

pub returns-in-Some-clause-fault : goal.returns-in-Some-clause-fault
returns-in-Some-clause-fault c =
    let directs : Directs c.args.statement.name.now c.in-Some.directive = record { row = c.in-Some.ensures.named; size = c.in-Some.ensures.size; init = c.in-Some.ensures.init } in
    IfErr-map c.direct.result _ _ (λ e is words says. refused-directive c.args.self.now (places c.args.labels.now) c.args.labelled c.args.statement c.in-Some.directive words e says directs (is (places c.args.labels.now))) c.direct.ensures.fault

pub returns-clause-fault : goal.returns-clause-fault
returns-clause-fault c =
    let nothing : DirectsNothing c.args.statement.name.now = record { row = c.in_default.ensures.named; init = c.in_default.ensures.no_init } in
    IfErr-map c.instruct.result _ _ (λ e is words says. refused-instruction c.args.self.now (places c.args.labels.now) c.args.labelled c.args.statement c.in_ok-form.form words e says nothing c.in_ok-form.ensures.form is) c.instruct.ensures.fault

pub returns-in-Some-clause-sound : goal.returns-in-Some-clause-sound
returns-in-Some-clause-sound c =
    let directs : Directs c.args.statement.name.now c.in-Some.directive = record { row = c.in-Some.ensures.named; size = c.in-Some.ensures.size; init = c.in-Some.ensures.init } in
    let e = c.direct.ensures in
    OnOk-all c.direct.result _ _ _ _ _ _ (λ sound settings init begun code words says. (taken-directive c.args.self.now c.direct.new.self (places c.args.labels.now) c.args.labelled c.args.statement c.in-Some.directive words says directs (sound (places c.args.labels.now)) settings init begun code).0) e.sound e.settings e.initial e.begun e.code

pub returns-in-Some-clause-behind : goal.returns-in-Some-clause-behind
returns-in-Some-clause-behind c =
    let directs : Directs c.args.statement.name.now c.in-Some.directive = record { row = c.in-Some.ensures.named; size = c.in-Some.ensures.size; init = c.in-Some.ensures.init } in
    let e = c.direct.ensures in
    OnOk-all c.direct.result _ _ _ _ _ _ (λ sound settings init begun code words says. (taken-directive c.args.self.now c.direct.new.self (places c.args.labels.now) c.args.labelled c.args.statement c.in-Some.directive words says directs (sound (places c.args.labels.now)) settings init begun code).1) e.sound e.settings e.initial e.begun e.code

pub returns-clause-sound : goal.returns-clause-sound
returns-clause-sound c =
    let nothing : DirectsNothing c.args.statement.name.now = record { row = c.in_default.ensures.named; init = c.in_default.ensures.no_init } in
    let e = c.instruct.ensures in
    OnOk-all c.instruct.result _ _ _ _ _ _ (λ sound settings init begun code words says. (taken-instruction c.args.self.now c.instruct.new.self (places c.args.labels.now) c.args.labelled c.args.statement c.in_ok-form.form words says nothing c.in_ok-form.ensures.form sound settings init begun code).0) e.sound e.settings e.initial e.begun e.code

pub returns-clause-behind : goal.returns-clause-behind
returns-clause-behind c =
    let nothing : DirectsNothing c.args.statement.name.now = record { row = c.in_default.ensures.named; init = c.in_default.ensures.no_init } in
    let e = c.instruct.ensures in
    OnOk-all c.instruct.result _ _ _ _ _ _ (λ sound settings init begun code words says. (taken-instruction c.args.self.now c.instruct.new.self (places c.args.labels.now) c.args.labelled c.args.statement c.in_ok-form.form words says nothing c.in_ok-form.ensures.form sound settings init begun code).1) e.sound e.settings e.initial e.begun e.code
