-- Machines that stand beside seats.
use Rattle.std.specs.Prelude.{◌≡◌, ℕ, suc, ◌+◌, true, List, [], ◌∷◌, Some, slice_get}
use Rattle.dsm_machine.specs.declared.machine.Machine.{Machine}
use Rattle.dsm_machine.specs.Machines.{who, processor_in}
use Rattle.dsm_protocol.specs.Processors.{Processor, Given}
use Rattle.dsm_runs.specs.Setups.{Setup, who_at}
use Rattle.dsm_runner.specs.Sights.{Sight, processor_at, procs_of, spent}

-- the machine of processor p, which was given this
pub record IsMachine (s : Setup) (p : ℕ) (given : List Given) (m : Machine) : Type 0 where
  pub who_is : who m ≡ who_at s p
  pub same : processor_in m s.program.code ≡ processor_at s p given

-- machines from processor n on, which have done nothing
abbrev pub AreFresh : Setup → ℕ → List Machine → Type 0
AreFresh s n ms = (j : ℕ) (m : Machine) → slice_get ms j ≡ Some m → IsMachine s (n + j) [] m

-- the processors from number p on, from what each was given
abbrev pub processors_of : Setup → ℕ → List (List Given) → List Processor
processors_of s p [] = []
processors_of s p (given ∷ all) = processor_at s p given ∷ processors_of s (suc p) all

-- the first seat, once it has taken in the others
abbrev pub joined_sight : Setup → List (List Given) → Sight
joined_sight s [] = spent
joined_sight s (given ∷ all) = record { live = true; setup = s; number = 0; given = given; leads = true; made = procs_of s; joined = all }

-- machines in the order of their processors, each of which was given this
abbrev pub AreGiven : Setup → List (List Given) → List Machine → Type 0
AreGiven s all ms = (p : ℕ) (m : Machine) → slice_get ms p ≡ Some m → (given : List Given) × (slice_get all p ≡ Some given) × IsMachine s p given m
