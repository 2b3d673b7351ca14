-- What holds behind every list of loose events holds of every reached state.
use Rattle.std.proofs.Common.{sym, ◌∙◌, map, subst}
use Rattle.dsm_runs.specs.Setups.{Setup, IsSetup}
use Rattle.dsm_runs.specs.Clusters.{Cluster, exactly, IsReached}
use Rattle.dsm_runs.proofs.Reaching.{reached_is_loose}
use Rattle.dsm_ties.specs.Always.{AlwaysLoosely}

pub holds_reached : (P : Setup → Cluster → Type 0) → AlwaysLoosely P → (s : Setup) (c : Cluster) → IsSetup s → IsReached s c → P s c
holds_reached P always s c setup (events, defined, is) = subst (P s) (sym (is ∙ reached_is_loose s events)) (always s (map exactly events) setup)
