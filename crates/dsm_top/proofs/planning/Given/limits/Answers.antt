use Rattle.std.proofs.Common.{Some, sym, ◌∙◌}
use Rattle.dsm_top.specs.Plans.{turns_of, looks_of}
use Rattle.dsm_top.proofs.Words.{in-given}
use Rattle.dsm_top.proofs.planning.Given.limits.Goals as goal

pub returns : goal.returns
returns c settings given =
    let turns = c.unwrap_or.ensures ∙ sym (in-given turns_of settings c.args.self.turns 200000 given.turns) in
    let looks = c.unwrap_or-2.ensures ∙ sym (in-given looks_of settings c.args.self.looks 50000000 given.looks) in
    λ i. record { turns = turns i; looks = Some (looks i) }
