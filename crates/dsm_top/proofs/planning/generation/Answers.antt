use Rattle.std.proofs.Common.{[], ◌∷◌, codes, sym, ◌∙◌, arith}
use Rattle.dsm_top.specs.declared.plans.Command.TheVariants.{Gen as ToGen}
use Rattle.dsm_top.specs.Plans.{texts, seed_word}
use Rattle.dsm_top.proofs.Words.{no_texts, texts-cons}
use Rattle.dsm_top.proofs.Fronts.{gen-front, fault-front, fault-gen_alone, fault-seed}
use Rattle.dsm_top.proofs.planning.generation.Goals as goal

pub returns-in_default-clause-fault : goal.returns-in_default-clause-fault
returns-in_default-clause-fault c = rw (no_texts c.args.rest.now c.in_default.ensures.cases) fault-gen_alone

pub returns-in_default-number_after-clause-fault : goal.returns-in_default-number_after-clause-fault
returns-in_default-number_after-clause-fault c =
    let cut = texts-cons c.args.rest.now c.in-Some.word.now c.in-Some.rest.now c.as_bytes.result.now c.in-Some.ensures.cases.0 (c.as_bytes.ensures.value ∙ c.as_str.ensures.value) in
    rw cut (fault-seed c.as_bytes.result.now (texts c.in-Some.rest.now) c.in_default-number_after.ensures.none)

pub returns-in-Ok-clause-plan : goal.returns-in-Ok-clause-plan
returns-in-Ok-clause-plan c =
    let cut = texts-cons c.args.rest.now c.in-Some.word.now c.in-Some.rest.now (seed_word c.in-Some-number_after.seed) c.in-Some.ensures.cases.0 (sym c.in-Some-number_after.ensures.some ∙ c.as_bytes.ensures.value ∙ c.as_str.ensures.value) in
    let (others, spelt, give) = c.in-Ok.ensures.cluster in
    rw (cut, spelt) (c.generation.ensures others give)

pub returns-in-Err-clause-fault : goal.returns-in-Err-clause-fault
returns-in-Err-clause-fault c =
    let seed = c.in-Some-number_after.seed in
    let cut = texts-cons c.args.rest.now c.in-Some.word.now c.in-Some.rest.now (seed_word seed) c.in-Some.ensures.cases.0 (sym c.in-Some-number_after.ensures.some ∙ c.as_bytes.ensures.value ∙ c.as_str.ensures.value) in
    rw cut (fault-front ToGen (codes "gen" ∷ seed_word seed ∷ []) (gen-front seed (omega arith)) (texts c.in-Some.rest.now) c.in-Err.k c.in-Err.ensures.fault)
