-- What one step of a worker does.
use Rattle.std.specs.Prelude.{◌≡◌, ℕ, ◌∷◌, Bool, true, false, IsTrue}
use Rattle.dsm_protocol.specs.Jobs.{has_ended}
use Rattle.dsm_runs.specs.Clusters.{stays}
use Rattle.dsm_core.specs.declared.state.Step.{Step}
use Rattle.dsm_core.specs.declared.state.Step.TheVariants.{Did, Ended, NoMemory}
use Rattle.dsm_runner.specs.Sights.{gift}
use Rattle.dsm_runner.specs.Helds.{Held, processor_by}

-- one event of its processor, which could be, and gave it some answer
abbrev pub Gave : Held → Held → Bool → Type 0
Gave old new starved = (stays starved (processor_by old).todo ≡ false) × ((got : ℕ) × (new.given ≡ gift starved got ∷ old.given))

-- its next event; that event without memory; or nothing, where it has ended
abbrev pub IsStep : Held → Held → Step → Type 0
IsStep old new Did = Gave old new false
IsStep old new NoMemory = Gave old new true
IsStep old new Ended = IsTrue (has_ended (processor_by old).todo) × (new.given ≡ old.given)
