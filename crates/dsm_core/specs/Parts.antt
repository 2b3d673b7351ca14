-- A state as its words and machines.
use Rattle.std.specs.Prelude.{◌≡◌, ℕ, List, Some, length, map, slice_get}
use Rattle.dsm_isa.specs.declared.instr.Instr.{Instr}
use Rattle.dsm_words.specs.Place.{lay_of, processors, total}
use Rattle.dsm_machine.specs.declared.machine.Machine.{Machine}
use Rattle.dsm_machine.specs.Machines.{who, processor_in}
use Rattle.dsm_runs.specs.Clusters.{Cluster}
use Rattle.dsm_core.specs.declared.state.parts.Parts.{Parts}

-- the state of the definitions, with this code
abbrev pub cluster_of : Parts → List Instr → Cluster
cluster_of x code = record { words = x.words.items; processors = map (λ m. processor_in m code) x.machines.items }

-- as many words as the layout has, and a machine for each processor, with its number
pub record AreWhole (x : Parts) : Type 0 where
  pub words : length x.words.items ≡ total (lay_of x.lay)
  pub machines : length x.machines.items ≡ processors (lay_of x.lay)
  pub numbered : (k : ℕ) (m : Machine) → slice_get x.machines.items k ≡ Some m → who m ≡ record { lay = lay_of x.lay; p = k; limits = x.limits }
