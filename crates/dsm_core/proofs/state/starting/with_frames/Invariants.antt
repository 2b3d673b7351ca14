use Rattle.std.proofs.Common.{◌≡◌, ◌∷◌}
use Rattle.std.specs.Prelude.{flat_map}
use Rattle.std.specs.List.{range_with_len}
use Rattle.dsm_core.proofs.state.starting.with_frames.Given as goal

-- so many nodes have theirs
abbrev pub invariant-loop : goal.invariant-loop
invariant-loop l = l.words.items ≡ 0 ∷ flat_map (λ n. l.frames) (range_with_len 0 l.counter)
