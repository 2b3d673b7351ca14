use Rattle.std.proofs.Common.{◌∷◌, ◌++◌, ap, ◌∙◌}
use Rattle.dsm_core.proofs.FirstWords.{frames_more}
use Rattle.dsm_core.proofs.state.starting.with_frames.Goals as goal

pub loop-preserved : goal.loop-preserved
loop-preserved c =
    c.in_ok-extend_from_slice.ensures.items
    ∙ ap (λ ws. ws ++ c.args.frames.now) c.loop.invariant
    ∙ ap (λ ws. 0 ∷ ws) (frames_more c.args.frames.now c.loop.counter 0)
