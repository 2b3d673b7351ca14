use Rattle.std.proofs.Common.{codes, refl, sym, ◌∙◌}
use Rattle.dsm_top.specs.declared.plans.Plan.TheVariants.{Check, List as Listing}
use Rattle.dsm_top.specs.Plans.{texts}
use Rattle.dsm_top.proofs.Words.{no_texts, texts-cons, alone-fault, fault-no_words, fault-no_command}
use Rattle.dsm_top.proofs.planning.plan.Goals as goal

pub returns-in_default-clause-fault : goal.returns-in_default-clause-fault
returns-in_default-clause-fault c = rw (no_texts c.args.words.now c.in_default.ensures.cases) fault-no_words

pub returns-in-check-clause-fault : goal.returns-in-check-clause-fault
returns-in-check-clause-fault c =
    let cut = texts-cons c.args.words.now c.in-Some.name.now c.in-Some.rest.now (codes "check") c.in-Some.ensures.cases.0 (sym c.in-check.is ∙ c.as_str.ensures.value) in
    rw cut (alone-fault (codes "check") c.in-Some.rest.now Check refl c.alone.result c.alone.ensures.fault)

pub returns-in-list-clause-fault : goal.returns-in-list-clause-fault
returns-in-list-clause-fault c =
    let cut = texts-cons c.args.words.now c.in-Some.name.now c.in-Some.rest.now (codes "list") c.in-Some.ensures.cases.0 (sym c.in-list.is ∙ c.as_str.ensures.value) in
    rw cut (alone-fault (codes "list") c.in-Some.rest.now Listing refl c.alone-in-list.result c.alone-in-list.ensures.fault)

pub returns-in_default-as_str-clause-fault : goal.returns-in_default-as_str-clause-fault
returns-in_default-as_str-clause-fault c =
    let cut = texts-cons c.args.words.now c.in-Some.name.now c.in-Some.rest.now c.as_str.result.now c.in-Some.ensures.cases.0 c.as_str.ensures.value in
    rw cut (fault-no_command c.as_str.result.now (texts c.in-Some.rest.now) c.in_default-as_str.not-check c.in_default-as_str.not-list c.in_default-as_str.not-sim c.in_default-as_str.not-run c.in_default-as_str.not-gen)
