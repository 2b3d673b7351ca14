use Rattle.std.proofs.Common.{sym, subst}
use Rattle.dsm_runs.specs.Setups.{Setup}
use Rattle.dsm_runs.specs.Clusters.{Cluster, IsReached}
use Rattle.dsm_core.specs.States.{setup_in, cluster_in}
use Rattle.dsm_meta.specs.Facts.{SparesMappings}
use Rattle.dsm_meta.specs.Following.{FollowedFed}
use Rattle.dsm_meta.proofs.Every.{spares_mappings}
use Rattle.dsm_meta.proofs.Following.{followed_reaches}
use Rattle.dsm_meta.proofs.Reached.{holds_reached}
use Rattle.dsm_twoway.proofs.Leaving.{keeps_promises, keeps_words}
use Rattle.dsm_twoway.proofs.after_start.after_start.Goals as goal

pub returns-clause-followed : goal.returns-clause-followed
returns-clause-followed c =
    let program = c.args.program.now in
    let s = setup_in c.args.state.now program in
    subst (λ (d : Cluster). FollowedFed s d c.args.schedule.now (cluster_in c.follow.new.state program.code)) c.requires.start (c.follow.ensures.fed c.requires.room)

pub returns-clause-reached : goal.returns-clause-reached
returns-clause-reached c =
    let program = c.args.program.now in
    let s = setup_in c.args.state.now program in
    let d = cluster_in c.follow.new.state program.code in
    subst (λ (x : Setup). IsReached x d) (sym c.follow.ensures.setup) (followed_reaches s c.args.schedule.now d (returns-clause-followed c).from)

pub returns-clause-runs : goal.returns-clause-runs
returns-clause-runs c = λ setup.
    let program = c.args.program.now in
    keeps_promises (setup_in c.follow.new.state program) (cluster_in c.follow.new.state program.code) setup (returns-clause-reached c)

pub returns-clause-words : goal.returns-clause-words
returns-clause-words c = λ setup.
    let program = c.args.program.now in
    keeps_words (setup_in c.follow.new.state program) (cluster_in c.follow.new.state program.code) setup (returns-clause-reached c)

pub returns-clause-mappings : goal.returns-clause-mappings
returns-clause-mappings c = λ setup.
    let program = c.args.program.now in
    holds_reached SparesMappings spares_mappings (setup_in c.follow.new.state program) (cluster_in c.follow.new.state program.code) setup (returns-clause-reached c)
