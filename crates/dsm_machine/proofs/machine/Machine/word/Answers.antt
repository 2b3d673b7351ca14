use Rattle.std.proofs.Common.{◌+◌, ◌<◌, sym, subst}
use Rattle.dsm_words.specs.Place.{lay_of, total}
use Rattle.dsm_machine.proofs.Framing.{frame_below}
use Rattle.dsm_machine.proofs.machine.Machine.word.Goals as goal

pub returns-clause-within : goal.returns-clause-within
returns-clause-within c =
    let l = lay_of c.args.self.now.lay in
    subst (λ x. 1 + x < total l) (sym c.from.ensures) (frame_below l c.node.result c.args.w c.node.ensures.within c.requires)
