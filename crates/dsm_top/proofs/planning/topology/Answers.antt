use Rattle.std.proofs.Common.{None, Some, sym, ◌∙◌, arith}
use Rattle.std.proofs.lemmas.Fmt.{decimal_injective}
use Rattle.dsm_top.proofs.Spelling.{topology-halves, topology-made, topology-refused}
use Rattle.dsm_top.proofs.planning.topology.Goals as goal

pub returns-in_err-nodes-clause-none : goal.returns-in_err-nodes-clause-none
returns-in_err-nodes-clause-none c = rw c.from_residual.ensures (λ t is. topology-halves c.args.word.now None c.in_err-nodes.ensures.cases t is)

pub returns-in_err-nodes-2-clause-none : goal.returns-in_err-nodes-2-clause-none
returns-in_err-nodes-2-clause-none c =
    rw c.from_residual-in_err-nodes-2.ensures
    (λ t is.
    let halves = topology-halves c.args.word.now (Some (c.in_ok-nodes.nodes, c.in_ok-nodes.procs)) c.in_ok-nodes.ensures.cases t is in
    c.in_err-nodes-2.ensures.none t.nodes (omega (arith, t.most_nodes)) (c.as_bytes.ensures.value ∙ halves.0))

pub returns-in_err-procs-clause-none : goal.returns-in_err-procs-clause-none
returns-in_err-procs-clause-none c =
    rw c.from_residual-in_err-procs.ensures
    (λ t is.
    let halves = topology-halves c.args.word.now (Some (c.in_ok-nodes.nodes, c.in_ok-nodes.procs)) c.in_ok-nodes.ensures.cases t is in
    c.in_err-procs.ensures.none t.procs (omega (arith, t.most_procs)) (c.as_bytes-2.ensures.value ∙ halves.1))

pub returns-clause-some : goal.returns-clause-some
returns-clause-some c =
    rw c.ok.ensures.value
    (topology-made c.args.word.now c.in_ok-nodes.nodes c.in_ok-nodes.procs c.in_ok-nodes-2.nodes c.in_ok-procs.procs c.new.result c.in_ok-nodes.ensures.cases
    (sym c.as_bytes.ensures.value ∙ c.in_ok-nodes-2.ensures.some) (sym c.as_bytes-2.ensures.value ∙ c.in_ok-procs.ensures.some) c.new.ensures.topology)

pub returns-clause-none : goal.returns-clause-none
returns-clause-none c =
    rw c.ok.ensures.value
    (topology-refused c.in_ok-nodes-2.nodes c.in_ok-procs.procs c.new.result c.new.ensures.nodes c.new.ensures.procs c.new.ensures.product c.args.word.now
    (λ t is.
    let halves = topology-halves c.args.word.now (Some (c.in_ok-nodes.nodes, c.in_ok-nodes.procs)) c.in_ok-nodes.ensures.cases t is in (
      decimal_injective _ _ (omega arith) (omega (arith, t.most_nodes)) (sym c.in_ok-nodes-2.ensures.some ∙ c.as_bytes.ensures.value ∙ halves.0),
      decimal_injective _ _ (omega arith) (omega (arith, t.most_procs)) (sym c.in_ok-procs.ensures.some ∙ c.as_bytes-2.ensures.value ∙ halves.1),
    )))
