use Rattle.std.proofs.Common.{inr, sym, ◌∙◌}
use Rattle.std.proofs.Math.Nat.{add-sub_cancel}
use Rattle.dsm_top.specs.Plans.{texts, topology_word}
use Rattle.dsm_top.proofs.Words.{texts-cons}
use Rattle.dsm_top.proofs.planning.cluster.Goals as goal

pub returns-in-Err-clause-fault : goal.returns-in-Err-clause-fault
returns-in-Err-clause-fault c =
    let made = c.in-Some-topology.ensures.some in
    let cut = texts-cons c.args.words.now c.in-Some.word.now c.in-Some.rest.now (topology_word c.in-Some-topology.t) c.in-Some.ensures.cases.0 (sym made ∙ c.as_str.ensures.value) in
    inr (c.in-Some-topology.t, texts c.in-Some.rest.now, cut, rw add-sub_cancel c.in-Err.ensures.fault)
