-- For how many more entries the traces of a state have room.
use Rattle.std.specs.Prelude.{◌≡◌, ◌≢◌, ◌+◌, ◌≤◌, ℕ, List, map, length, slice_index, All}
use Rattle.std.specs.List.{AllZip}
use Rattle.dsm_machine.specs.Machines.{spare_of}
use Rattle.dsm_core.specs.declared.state.State.{State}

-- for how many more entries each trace has room
abbrev pub rooms : State → List ℕ
rooms st = map spare_of st.machines.items

-- each trace has room for so many
abbrev pub HasRoomFor : State → ℕ → Type 0
HasRoomFor st count = All (λ room. count ≤ room) (rooms st)

-- each trace has room for at least as many as before
abbrev pub KeepsRoom : State → State → Type 0
KeepsRoom old new = AllZip (λ had has. had ≤ has) (rooms old) (rooms new)

-- an event of processor p uses room for one entry of its trace at most, and none of any other
pub record UsesOne (p : ℕ) (old new : List ℕ) : Type 0 where
  pub all : length new ≡ length old
  pub own : slice_index old p ≤ slice_index new p + 1
  pub others : (q : ℕ) → q ≢ p → slice_index new q ≡ slice_index old q
