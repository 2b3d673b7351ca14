use Rattle.std.proofs.Common.{All, ◌<◌, ◌*◌, sym, ◌∙◌, subst}
use Rattle.dsm_runs.specs.Setups.{Setup}
use Rattle.dsm_ties.specs.Clocks.{ClockBound, ClocksStand}
use Rattle.dsm_ties.specs.Holders.{OneHolder, UnregisteredUnmapped, WritersTwinned, HomeBare, HomelessUntouched, HomelessUnwritten}
use Rattle.dsm_ties.proofs.Along.{tied}
use Rattle.dsm_ties.proofs.Bounding.{clock_bound, clocks_stand}
use Rattle.dsm_ties.proofs.Holders.{one_holder, unregistered, writers, home_bare, untouched}
use Rattle.dsm_ties.proofs.Unwritten.{unwritten}
use Rattle.dsm_freshness.specs.Past.{FreshCopies}
use Rattle.dsm_freshness.proofs.Remembering.{always_fresh}
use Rattle.dsm_core.specs.States.{setup_of}
use Rattle.dsm_meta.specs.Facts.{SyncIsLegal, OwnMaps, TurnHolders, SomeGoesOn, SparesMappings, HomeFixed}
use Rattle.dsm_meta.proofs.Turns.{turn_holders}
use Rattle.dsm_meta.proofs.Following.{from_start, holds_followed}
use Rattle.dsm_meta.proofs.Every.{sync_is_legal, own_maps, some_goes_on, spares_mappings, home_fixed}
use Rattle.dsm_meta.proofs.after.pages_after.Goals as goal

pub follow-requires-clause-numbers : goal.follow-requires-clause-numbers
follow-requires-clause-numbers c = subst (λ (s : Setup). All (λ p. p < s.nodes * s.procs) c.args.schedule.now) (sym c.in_ok-state.ensures.setup) c.requires

pub returns-clause-followed : goal.returns-clause-followed
returns-clause-followed c = from_start (setup_of c.args.program.now c.args.t c.args.limits) _ c.args.schedule.now _ _ c.in_ok-state.ensures.setup c.in_ok-state.ensures.start c.follow.ensures.followed

pub returns-clause-sync_legal : goal.returns-clause-sync_legal
returns-clause-sync_legal c = holds_followed SyncIsLegal sync_is_legal c.args.program.now c.args.t c.args.limits _ c.follow.new.state (c.follow.ensures.setup ∙ c.in_ok-state.ensures.setup) (returns-clause-followed c)

pub returns-clause-own_maps : goal.returns-clause-own_maps
returns-clause-own_maps c = holds_followed OwnMaps own_maps c.args.program.now c.args.t c.args.limits _ c.follow.new.state (c.follow.ensures.setup ∙ c.in_ok-state.ensures.setup) (returns-clause-followed c)

pub returns-clause-turn_holders : goal.returns-clause-turn_holders
returns-clause-turn_holders c = holds_followed TurnHolders turn_holders c.args.program.now c.args.t c.args.limits _ c.follow.new.state (c.follow.ensures.setup ∙ c.in_ok-state.ensures.setup) (returns-clause-followed c)

pub returns-clause-no_circle : goal.returns-clause-no_circle
returns-clause-no_circle c = holds_followed SomeGoesOn some_goes_on c.args.program.now c.args.t c.args.limits _ c.follow.new.state (c.follow.ensures.setup ∙ c.in_ok-state.ensures.setup) (returns-clause-followed c)

pub returns-clause-other_maps : goal.returns-clause-other_maps
returns-clause-other_maps c = holds_followed SparesMappings spares_mappings c.args.program.now c.args.t c.args.limits _ c.follow.new.state (c.follow.ensures.setup ∙ c.in_ok-state.ensures.setup) (returns-clause-followed c)

pub returns-clause-home_fixed : goal.returns-clause-home_fixed
returns-clause-home_fixed c = holds_followed HomeFixed home_fixed c.args.program.now c.args.t c.args.limits _ c.follow.new.state (c.follow.ensures.setup ∙ c.in_ok-state.ensures.setup) (returns-clause-followed c)

pub returns-clause-clock_bound : goal.returns-clause-clock_bound
returns-clause-clock_bound c = holds_followed ClockBound clock_bound c.args.program.now c.args.t c.args.limits _ c.follow.new.state (c.follow.ensures.setup ∙ c.in_ok-state.ensures.setup) (returns-clause-followed c)

pub returns-clause-clocks : goal.returns-clause-clocks
returns-clause-clocks c = holds_followed ClocksStand clocks_stand c.args.program.now c.args.t c.args.limits _ c.follow.new.state (c.follow.ensures.setup ∙ c.in_ok-state.ensures.setup) (returns-clause-followed c)

pub returns-clause-one_holder : goal.returns-clause-one_holder
returns-clause-one_holder c = holds_followed OneHolder (one_holder tied) c.args.program.now c.args.t c.args.limits _ c.follow.new.state (c.follow.ensures.setup ∙ c.in_ok-state.ensures.setup) (returns-clause-followed c)

pub returns-clause-unregistered : goal.returns-clause-unregistered
returns-clause-unregistered c = holds_followed UnregisteredUnmapped (unregistered tied) c.args.program.now c.args.t c.args.limits _ c.follow.new.state (c.follow.ensures.setup ∙ c.in_ok-state.ensures.setup) (returns-clause-followed c)

pub returns-clause-writers : goal.returns-clause-writers
returns-clause-writers c = holds_followed WritersTwinned (writers tied) c.args.program.now c.args.t c.args.limits _ c.follow.new.state (c.follow.ensures.setup ∙ c.in_ok-state.ensures.setup) (returns-clause-followed c)

pub returns-clause-home_bare : goal.returns-clause-home_bare
returns-clause-home_bare c = holds_followed HomeBare (home_bare tied) c.args.program.now c.args.t c.args.limits _ c.follow.new.state (c.follow.ensures.setup ∙ c.in_ok-state.ensures.setup) (returns-clause-followed c)

pub returns-clause-untouched : goal.returns-clause-untouched
returns-clause-untouched c = holds_followed HomelessUntouched (untouched tied) c.args.program.now c.args.t c.args.limits _ c.follow.new.state (c.follow.ensures.setup ∙ c.in_ok-state.ensures.setup) (returns-clause-followed c)

pub returns-clause-unwritten : goal.returns-clause-unwritten
returns-clause-unwritten c = holds_followed HomelessUnwritten (unwritten tied) c.args.program.now c.args.t c.args.limits _ c.follow.new.state (c.follow.ensures.setup ∙ c.in_ok-state.ensures.setup) (returns-clause-followed c)

pub returns-clause-fresh : goal.returns-clause-fresh
returns-clause-fresh c = holds_followed FreshCopies always_fresh c.args.program.now c.args.t c.args.limits _ c.follow.new.state (c.follow.ensures.setup ∙ c.in_ok-state.ensures.setup) (returns-clause-followed c)
