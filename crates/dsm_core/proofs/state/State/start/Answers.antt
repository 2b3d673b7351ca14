use Rattle.std.proofs.Common.{◌≡◌, map, sym, ap, ◌∙◌, subst}
use Rattle.std.specs.List.{range_with_len}
use Rattle.dsm_words.specs.declared.topology.Topology.{Topology}
use Rattle.dsm_words.specs.Place.{Lay, lay_of, processors}
use Rattle.dsm_protocol.specs.Processors.{new_processor}
use Rattle.dsm_runs.specs.Setups.{lay_in, first_words}
use Rattle.dsm_runs.specs.Clusters.{start, IsReached}
use Rattle.dsm_core.specs.States.{setup_of}
use Rattle.dsm_core.proofs.Handing.{reached_start}
use Rattle.dsm_core.proofs.state.State.start.Goals as goal

pub invariant_of-result-clause-all_words : goal.invariant_of-result-clause-all_words
invariant_of-result-clause-all_words c = c.in_ok-words.ensures.long

pub returns-clause-start : goal.returns-clause-start
unfolding start
returns-clause-start c =
    let program = c.args.program.now in
    let limits = c.args.limits in
    let t = c.new-lay.ensures.t in
    let for : lay_of c.new-lay.result ≡ lay_in (setup_of program c.args.t limits) = λ i. record {
      nodes = (t i).nodes;
      procs = (t i).procs;
      pages = (c.new-lay.ensures.pages ∙ ap (λ z. z.pages) c.shape-shape.ensures) i;
      words = (c.new-lay.ensures.words ∙ ap (λ z. z.words) c.shape-shape.ensures) i;
      locks = (c.new-lay.ensures.locks ∙ ap (λ z. z.locks) c.shape-shape.ensures) i;
      barriers = (c.new-lay.ensures.barriers ∙ ap (λ z. z.barriers) c.shape-shape.ensures) i;
      flags = (c.new-lay.ensures.flags ∙ ap (λ z. z.flags) c.shape-shape.ensures) i;
    } in
    let words = c.in_ok-words.ensures.words limits ∙ ap (λ (k : Topology). first_words (setup_of program k limits)) t in
    let processors = c.in_ok-machines.ensures.new program.code ∙ ap (λ (l : Lay). map (λ p. new_processor (record { lay = l; p = p; limits = limits }) program.code) (range_with_len 0 (processors l))) for in
    λ i. record { words = words i; processors = processors i }

pub returns-clause-reached : goal.returns-clause-reached
returns-clause-reached c =
    let s = setup_of c.args.program.now c.args.t c.args.limits in
    subst (IsReached s) (sym (returns-clause-start c)) (reached_start s)
