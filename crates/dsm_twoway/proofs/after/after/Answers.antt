use Rattle.std.proofs.lemmas.Result.{IfOk-weaker}
use Rattle.dsm_core.specs.States.{setup_in, cluster_in}
use Rattle.dsm_twoway.proofs.Leaving.{keeps_promises, keeps_words}
use Rattle.dsm_twoway.proofs.after.after.Goals as goal

pub returns-clause-runs : goal.returns-clause-runs
returns-clause-runs c =
    let program = c.args.program.now in
    IfOk-weaker c.pages_after.result _ _ (λ st reached setup. keeps_promises (setup_in st program) (cluster_in st program.code) setup reached) c.pages_after.ensures.reached

pub returns-clause-words : goal.returns-clause-words
returns-clause-words c =
    let program = c.args.program.now in
    IfOk-weaker c.pages_after.result _ _ (λ st reached setup. keeps_words (setup_in st program) (cluster_in st program.code) setup reached) c.pages_after.ensures.reached
