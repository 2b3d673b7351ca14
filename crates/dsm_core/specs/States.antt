-- The code's state as a cluster of the definitions.
use Rattle.std.specs.Prelude.{◌≡◌, ℕ, true, false, List, map, slice_get, All, IsTrue, IsSomeAnd}
use Rattle.dsm_isa.specs.ProgramText.{ProgramText}
use Rattle.dsm_isa.specs.declared.instr.Instr.{Instr}
use Rattle.dsm_words.specs.declared.topology.Topology.{Topology}
use Rattle.dsm_words.specs.Place.{lay_of}
use Rattle.dsm_protocol.specs.declared.limits.Limits.{Limits}
use Rattle.dsm_protocol.specs.Jobs.{has_ended}
use Rattle.dsm_machine.specs.Machines.{processor_in, spare_of}
use Rattle.dsm_core.specs.declared.state.State.{State}
use Rattle.dsm_core.specs.declared.state.Step.{Step}
use Rattle.dsm_core.specs.declared.state.Step.TheVariants.{Did, Ended, NoMemory}
use Rattle.dsm_runs.specs.Setups.{Setup, lay_in}
use Rattle.dsm_runs.specs.Clusters.{Cluster, Event, is_defined, after_event}

-- a program on a topology, with these limits
abbrev pub setup_of : ProgramText → Topology → Limits → Setup
setup_of program t limits = record { program = program; nodes = t.nodes; procs = t.procs; limits = limits }

-- the setup that the state runs, with this program
abbrev pub setup_in : State → ProgramText → Setup
setup_in st program = setup_of program st.lay.t st.limits

-- the state of the definitions, with this code
abbrev pub cluster_in : State → List Instr → Cluster
cluster_in st code = record { words = st.words.items; processors = map (λ m. processor_in m code) st.machines.items }

-- the state has this program's sizes
abbrev pub IsFor : State → ProgramText → Type 0
IsFor st program = lay_of st.lay ≡ lay_in (setup_in st program)

-- the event can be in the old state, and the new one is behind it
abbrev pub IsEvent : Setup → Cluster → Cluster → Event → Type 0
IsEvent s old new e = (is_defined old e ≡ true) × (new ≡ after_event s old e)

-- processor p has ended
abbrev pub HasEnded : Cluster → ℕ → Type 0
HasEnded c p = IsSomeAnd (slice_get c.processors p) (λ m. IsTrue (has_ended m.todo))

-- every processor has
abbrev pub AllEnded : Cluster → Type 0
AllEnded c = All (λ m. IsTrue (has_ended m.todo)) c.processors

-- the trace of processor p has no room for an entry
abbrev pub HasNoRoom : State → ℕ → Type 0
HasNoRoom st p = IsSomeAnd (slice_get st.machines.items p) (λ m. spare_of m ≡ 0)

-- what one step of processor p may do: its next event; that event without memory; or nothing, where it has ended
abbrev pub Stepped : Setup → Cluster → Cluster → ℕ → Step → Type 0
Stepped s old new p Did = IsEvent s old new (record { p = p; starved = false })
Stepped s old new p NoMemory = IsEvent s old new (record { p = p; starved = true })
Stepped s old new p Ended = HasEnded old p × (new ≡ old)
