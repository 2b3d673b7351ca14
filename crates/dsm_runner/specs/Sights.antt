-- What seats know, and the rule of the table.
use Rattle.std.specs.Prelude.{◌≡◌, ℕ, suc, ◌+◌, ◌*◌, ◌<◌, ◌≤◌, ◌==◌, if◌then◌else◌, Bool, true, false, List, [], ◌∷◌, ◌++◌, map, Option, Some, None, slice_get}
use mathlib.Core.Option.{some}
use lib.ListN.{get_elem?}
use Rattle.dsm_protocol.specs.Processors.{Processor, Given, processor_of}
use Rattle.dsm_runs.specs.Setups.{Setup, who_at}
use Rattle.dsm_runs.specs.Clusters.{Cluster, Event, AreDefined, reached}

-- What a seat knows: the setup, its processor's number and all that this processor was given, the newest first. The first seat also
-- knows how many seats were made, and what the processors of the seats that it took in were given. A spent seat knows nothing.
pub record Sight : Type 0 where
  pub live : Bool
  pub setup : Setup
  pub number : ℕ
  pub given : List Given
  pub leads : Bool
  pub made : ℕ
  pub joined : List (List Given)

-- one event's gift: whether memory was wanting, and the answer
abbrev pub gift : Bool → ℕ → Given
gift starved got = record { starved = starved; got = got }

abbrev pub given_list : List (Bool × ℕ) → List Given
given_list list = map (λ g. gift g.0 g.1) list

-- how many processors there are
abbrev pub procs_of : Setup → ℕ
procs_of s = s.nodes * s.procs

-- processor p, from what it was given
abbrev pub processor_at : Setup → ℕ → List Given → Processor
processor_at s p given = processor_of (who_at s p) s.program.code given

-- the processor of a seat
abbrev pub seen_by : Sight → Processor
seen_by v = processor_at v.setup v.number v.given

-- the first seat when so many seats were made, before any event
abbrev pub first_with : Setup → ℕ → Sight
first_with s made = record { live = true; setup = s; number = 0; given = []; leads = true; made = made; joined = [] }

abbrev pub first_sight : Setup → Sight
first_sight s = first_with s 1

-- the seat of a later number, before any event
abbrev pub later_sight : Setup → ℕ → Sight
later_sight s p = record { live = true; setup = s; number = p; given = []; leads = false; made = 0; joined = [] }

-- the seat of processor p, once all seats are made
abbrev pub full_sight : Setup → ℕ → List Given → Sight
full_sight s p given = record { live = true; setup = s; number = p; given = given; leads = p == 0; made = if p == 0 then procs_of s else 0; joined = [] }

-- the first seat makes one more,
abbrev pub cut_left : Sight → Sight
cut_left v = record v { made = v.made + 1 }

-- which is that of the next number,
abbrev pub cut_right : Sight → Sight
cut_right v = later_sight v.setup v.made

-- and takes one in,
abbrev pub taken_in : Sight → Sight → Sight
taken_in v w = record v { joined = v.joined ++ w.given ∷ [] }

-- which is then spent
abbrev pub spent : Sight
spent =
    record {
      live = false;
      setup = record { program = record { shape = record { pages = 0; words = 0; locks = 0; barriers = 0; flags = 0 }; init = []; code = [] }; nodes = 0; procs = 0; limits = record { turns = 0; looks = None } };
      number = 0;
      given = [];
      leads = false;
      made = 0;
      joined = [];
    }

-- behind an event of its processor
abbrev pub sight_after : Bool → Sight → ℕ → Sight
sight_after starved v got = record v { given = gift starved got ∷ v.given }

-- A live seat, at this place of the table's roster, has the setup, and what the processor of its number was given; the place of that
-- number is this one, so no two live seats have one number.
pub record Fits (s : Setup) (c : Cluster) (place : ℕ → Option ℕ) (id : ℕ) (v : Sight) : Type 0 where
  pub placed : place v.number ≡ Some id
  pub here : slice_get c.processors v.number ≡ Some (seen_by v)
  pub same : v.setup ≡ s

-- The first seat has the first place and number. The numbers from `made` on have no place, and their processors are at their start;
-- those that were taken in have none any more, and their processors are what the seat knows.
pub record Leads (s : Setup) (c : Cluster) (place : ℕ → Option ℕ) (id : ℕ) (v : Sight) : Type 0 where
  pub first : id ≡ 0
  pub mine : v.number ≡ 0
  pub unmade : (p : ℕ) → v.made ≤ p → (place p ≡ None) × (p < procs_of s → slice_get c.processors p ≡ Some (processor_at s p []))
  pub joined : (j : ℕ) (given : List Given) → slice_get v.joined j ≡ Some given → (suc j < v.made) × (place (suc j) ≡ None) × (slice_get c.processors (suc j) ≡ Some (processor_at s (suc j) given))

-- the words are those of the state, and the seats know its processors
pub record KeptAt (s : Setup) (c : Cluster) (place : ℕ → Option ℕ) (words : List ℕ) (views : List Sight) : Type 0 where
  pub words_are : words ≡ c.words
  pub fits : (id : ℕ) (v : Sight) → get_elem? views id ≡ some v → v.live ≡ true → Fits s c place id v
  pub leads : (id : ℕ) (v : Sight) → get_elem? views id ≡ some v → v.leads ≡ true → Leads s c place id v

-- The rule: the words, with the processors that the seats know, are a state that some list of events reaches.
pub record Kept (s : Setup) (words : List ℕ) (views : List Sight) : Type 0 where
  pub events : List Event
  pub defined : AreDefined s events
  pub place : ℕ → Option ℕ
  pub at : KeptAt s (reached s events) place words views
