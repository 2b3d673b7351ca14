-- Who ended for want of memory.
use Rattle.std.specs.Prelude.{◌≡◌, ◌↔◌, ℕ, true, List, Some, Contains, slice_get}
use Rattle.dsm_local.specs.declared.end.End.TheVariants.{NoMemory}
use Rattle.dsm_protocol.specs.Processors.{Processor, ending}
use Rattle.dsm_runs.specs.Setups.{Setup}
use Rattle.dsm_runs.specs.Clusters.{Event, AreDefined, reached}

-- over every list of events, exactly a processor that was starved ends so
abbrev pub EveryWantIsStarved : Type 0
EveryWantIsStarved = (s : Setup) (events : List Event) (p : ℕ) (m : Processor) → AreDefined s events → slice_get (reached s events).processors p ≡ Some m
    → (ending m ≡ Some NoMemory) ↔ Contains events (record { p = p; starved = true })
