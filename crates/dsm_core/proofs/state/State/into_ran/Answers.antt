use Rattle.dsm_core.specs.States.{setup_in, cluster_in}
use Rattle.dsm_core.proofs.Handing.{promised}
use Rattle.dsm_core.proofs.state.State.into_ran.Goals as goal

pub returns : goal.returns
returns c = record {
  shows = λ program for i. record {
    traces = c.in_ok-traces.ensures program.code i;
    ends = c.in_ok-ends.ensures program.code i;
    pages = c.in_ok-pages.ensures program for i;
    counts = c.counts-counts.ensures program.code i;
  };
  promises = λ program for setup at. promised (setup_in c.args.self program) (cluster_in c.args.self program.code) _ (λ i. record {
    traces = c.in_ok-traces.ensures program.code i;
    ends = c.in_ok-ends.ensures program.code i;
    pages = c.in_ok-pages.ensures program for i;
    counts = c.counts-counts.ensures program.code i;
  }) setup at;
}
