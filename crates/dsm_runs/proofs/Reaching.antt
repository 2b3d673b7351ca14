-- What holds of each reached state.
use Rattle.std.proofs.Common.{◌≡◌, ℕ, ◌*◌, List, length, map, Some, sym, ap, ◌∙◌, subst}
use Rattle.std.specs.Prelude.{slice_get}
use Rattle.dsm_words.specs.Place.{total}
use Rattle.dsm_protocol.specs.Processors.{Processor, processor_of}
use Rattle.dsm_runs.specs.Setups.{Setup, lay_in, who_at}
use Rattle.dsm_runs.specs.Clusters.{Event, start, exactly, after_all_loose, given_by, reached}
use Rattle.dsm_runs.proofs.Events.{every_given}
use Rattle.dsm_runs.proofs.Runs.{events_are_loose}
use Rattle.dsm_runs.proofs.Starting.{every_whole}

pub reached_is_loose : (s : Setup) (es : List Event) → reached s es ≡ after_all_loose s (start s) (map exactly es)
unfolding reached
reached_is_loose s es = events_are_loose s (start s) es

pub length-reached : (s : Setup) (es : List Event) → (length (reached s es).words ≡ total (lay_in s)) × (length (reached s es).processors ≡ s.nodes * s.procs)
length-reached s es =
    subst (λ c. (length c.words ≡ total (lay_in s)) × (length c.processors ≡ s.nodes * s.procs)) (sym (reached_is_loose s es)) (every_whole s (map exactly es))

-- each processor of it is what it was given
pub reached_given : (s : Setup) (es : List Event) (p : ℕ) (m : Processor) → slice_get (reached s es).processors p ≡ Some m → m ≡ processor_of (who_at s p) s.program.code (given_by s (map exactly es) p)
reached_given s es p m at = every_given s (map exactly es) p m (ap (λ c. slice_get c.processors p) (sym (reached_is_loose s es)) ∙ at)
