use Rattle.std.proofs.Common.{[], ◌≡◌, ◌≤◌, ◌<◌, length, rules, sym, ap, ◌∙◌, subst}
use Rattle.dsm_isa.specs.Jumps.{JumpsInside}
use Rattle.dsm_isa.specs.ProgramText.{ProgramText, sizes_of}
use Rattle.dsm_isa.specs.Rules.{IsInitial, ObjectsInside}
use Rattle.dsm_gen.specs.Generated.{program_with}
use Rattle.dsm_gen.proofs.Whole.{AreWords, shape-template, init-template, each-template, accepted}
use Rattle.dsm_gen.proofs.Sound.{no_fault, sizes-same}
use Rattle.dsm_gen.proofs.generating.assembled.Goals as goal

pub returns-in_err-list-clause-accepted : goal.returns-in_err-list-clause-accepted
returns-in_err-list-clause-accepted c =
    let are : AreWords c.args.n = record { first = search rules; up = search rules; up_by = search rules; down = search rules; down_by = search rules } in
    accepted c.args.n are

pub returns-clause-accepted : goal.returns-clause-accepted
returns-clause-accepted c =
    let are : AreWords c.args.n = record { first = search rules; up = search rules; up_by = search rules; down = search rules; down_by = search rules } in
    accepted c.args.n are

pub unreachable-requires : goal.unreachable-requires
unreachable-requires c =
    let n = c.args.n in
    let are : AreWords n = record { first = search rules; up = search rules; up_by = search rules; down = search rules; down_by = search rules } in
    let law = c.program_law.ensures in
    let list = c.in_ok-list.ensures in
    let some : 0 < length (program_with n).code = each-template n are (λ p. 0 < length p.code) law.some in
    let most : length (program_with n).code ≤ 4096 = each-template n are (λ p. length p.code ≤ 4096) law.most in
    let jumps : JumpsInside (program_with n).code = each-template n are (λ p. JumpsInside p.code) law.jumps in
    no_fault c.in_ok-list.list.items c.new.result c.in_default.field-0 c.in_default.is
    (subst (λ l. 0 < length l) (sym c.in_ok-list.ensures) some) (subst (λ l. length l ≤ 4096) (sym c.in_ok-list.ensures) most) (subst JumpsInside (sym c.in_ok-list.ensures) jumps)
    c.new.ensures.empty c.new.ensures.too_long c.new.ensures.bad_jump

pub unreachable-requires-in-None : goal.unreachable-requires-in-None
unreachable-requires-in-None c =
    let n = c.args.n in
    let are : AreWords n = record { first = search rules; up = search rules; up_by = search rules; down = search rules; down_by = search rules } in
    let law = c.program_law.ensures in
    let sized = shape-template n are ∙ sym (sizes-same c.in-Some.shape c.in-Some.ensures.pages c.in-Some.ensures.words c.in-Some.ensures.locks c.in-Some.ensures.barriers c.in-Some.ensures.flags) in
    let none : c.new-3.result.items ≡ [] = c.new-3.ensures.items in
    let code : c.in-Ok.code ≡ (program_with n).code = c.in-Ok.ensures.code ∙ c.in_ok-list.ensures in
    let initial : IsInitial (program_with n).shape (program_with n).init = each-template n are (λ p. IsInitial p.shape p.init) law.initial in
    let objects : ObjectsInside (program_with n).shape (program_with n).code = each-template n are (λ p. ObjectsInside p.shape p.code) law.objects in
    absurd (cc (c.in-None.ensures.some.1 (
      subst (λ i. IsInitial (sizes_of c.in-Some.shape) i) (init-template n are ∙ sym none) (subst (λ s. IsInitial s (program_with n).init) sized initial),
      subst (λ i. ObjectsInside (sizes_of c.in-Some.shape) i) (sym code) (subst (λ s. ObjectsInside s (program_with n).code) sized objects),
    )))

pub returns-clause-program : goal.returns-clause-program
returns-clause-program c =
    let n = c.args.n in
    let are : AreWords n = record { first = search rules; up = search rules; up_by = search rules; down = search rules; down_by = search rules } in
    let sized = shape-template n are ∙ sym (sizes-same c.in-Some.shape c.in-Some.ensures.pages c.in-Some.ensures.words c.in-Some.ensures.locks c.in-Some.ensures.barriers c.in-Some.ensures.flags) in
    let code : c.in-Ok.code ≡ (program_with n).code = c.in-Ok.ensures.code ∙ c.in_ok-list.ensures in
    let whole : ProgramText = program_with n in
    c.in-Some-new.ensures.value
    ∙ ap (λ s. record whole { shape = s; init = c.new-3.result.items; code = c.in-Ok.code }) (sym sized)
    ∙ ap (λ i. record whole { init = i; code = c.in-Ok.code }) (c.new-3.ensures.items ∙ sym (init-template n are))
    ∙ ap (λ i. record whole { code = i }) code
