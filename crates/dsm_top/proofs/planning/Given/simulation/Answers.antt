use Rattle.std.proofs.Common.{false, refl, sym, ap, ◌∙◌}
use Rattle.dsm_top.specs.declared.plans.KindWord.TheVariants.{Round}
use Rattle.dsm_top.specs.Plans.{schedule_of, kind_of, seed_of, steps_of, trace_of}
use Rattle.dsm_top.proofs.Words.{in-given}
use Rattle.dsm_top.proofs.planning.Given.simulation.Goals as goal

pub returns : goal.returns
returns c words (settings, are, given) =
    let kind = c.unwrap_or.ensures ∙ sym (in-given kind_of settings c.args.self.kind Round given.kind) in
    let seed = c.unwrap_or-2.ensures ∙ sym (in-given seed_of settings c.args.self.seed 0 given.seed) in
    record {
      others = words;
      settings = settings;
      spelt = refl;
      set = are;
      given_limits = c.limits.ensures settings given;
      given_kind = c.schedule.ensures ∙ ap (λ k. schedule_of k c.unwrap_or-2.result) kind ∙ ap (schedule_of _) seed;
      given_steps = c.unwrap_or-3.ensures ∙ sym (in-given steps_of settings c.args.self.steps 100000000 given.steps);
      given_trace = c.unwrap_or-4.ensures ∙ sym (in-given trace_of settings c.args.self.trace false given.trace);
    }
