use Rattle.std.proofs.Common.{sym, ◌∙◌}
use Rattle.std.proofs.lemmas.List.{length-map}
use Rattle.dsm_entry.specs.Told.{list_of, lists_of}
use Rattle.dsm_flat.proofs.Following.{nothing_visited}
use Rattle.dsm_flat.proofs.visits.Visits.new.Goals as goal

pub returns-clause-visits : goal.returns-clause-visits
returns-clause-visits c =
    nothing_visited (lists_of c.args.traces.now) (record { done = c.new.result; clocks = c.in_ok-zeros.field-0; gates = c.in_ok-gates.gates; last = 0 }) c.new.ensures
    (c.in_ok-zeros.ensures.len ∙ sym (length-map c.args.traces.now list_of)) c.in_ok-zeros.ensures.none c.in_ok-gates.ensures
