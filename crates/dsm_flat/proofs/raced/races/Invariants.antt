use Rattle.std.proofs.Common.{◌≡◌, map, take}
use Rattle.dsm_flat.proofs.raced.races.Given as goal

-- the words so far
abbrev pub invariant-loop-latest : goal.invariant-loop-latest
invariant-loop-latest l = l.races.items ≡ map (λ w. w.races) (take l.latest-index l.list)
