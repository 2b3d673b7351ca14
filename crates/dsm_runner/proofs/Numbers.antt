-- Two live seats have two numbers.
use Rattle.std.proofs.Common.{◌≡◌, ◌≢◌, ℕ, Option, Some, sym, ap, ◌∙◌}
use Rattle.dsm_runs.specs.Setups.{Setup}
use Rattle.dsm_runs.specs.Clusters.{Cluster}
use Rattle.dsm_runner.specs.Sights.{Sight, Fits}

pub apart : (s : Setup) (c : Cluster) (place : ℕ → Option ℕ) (i j : ℕ) (v u : Sight) → Fits s c place i v → Fits s c place j u → j ≢ i → u.number ≢ v.number
apart s c place i j v u f g n e = let same : Some j ≡ Some i = sym g.placed ∙ ap place e ∙ f.placed in let h : j ≡ i = cc in n h
