-- The words of the command line, and the plans that they stand for.
use Rattle.std.specs.Prelude.{◌≡◌, ◌≢◌, ℕ, ◌+◌, ◌-◌, ◌<◌, ◌≤◌, ◌^◌, ◌⊎◌, List, [], ◌∷◌, ◌++◌, length, map, take, filter_map, slice_index_or, All, AllPairs, Option, Some, None, Bool, true, false, if◌then◌else◌, codes, decimal, String, string_bytes}
use Rattle.std.specs.Option.{option_to_list}
use Rattle.std.specs.declared.alloc.Global.{Global}
use Rattle.dsm_words.specs.Counts.{IsFrom1To}
use Rattle.dsm_words.specs.declared.topology.Topology.{Topology}
use Rattle.dsm_protocol.specs.declared.limits.Limits.{Limits}
pub use Rattle.dsm_report.specs.Report.{topology_word}
use Rattle.dsm_sched.specs.declared.kind.Kind.{Kind}
use Rattle.dsm_sched.specs.declared.kind.Kind.TheVariants.{Round, Mixed}
use Rattle.dsm_top.specs.declared.planning.Given.{Given}
use Rattle.dsm_top.specs.declared.plans.Command.{Command}
use Rattle.dsm_top.specs.declared.plans.Command.TheVariants.{Sim as ToSim, Run as ToRun, Gen as ToGen}
use Rattle.dsm_top.specs.declared.plans.KindWord.{KindWord}
use Rattle.dsm_top.specs.declared.plans.KindWord.TheVariants.{Round as RoundWord, Mixed as MixedWord}
use Rattle.dsm_top.specs.declared.plans.Plan.{Plan}
use Rattle.dsm_top.specs.declared.plans.Plan.TheVariants.{Check, List as Listing, Sim, Run, Gen}
use Rattle.dsm_top.specs.declared.plans.Setting.{Setting}
use Rattle.dsm_top.specs.declared.plans.Setting.TheVariants.{Kind as OfKind, Seed, Turns, Looks, Steps, Trace, Threads}

-- the bytes of each word
abbrev pub texts : List (String Global) → List (List ℕ)
texts words = map string_bytes words

-- the name of what a setting sets
abbrev pub name_of : Setting → List ℕ
name_of (OfKind kind) = codes "kind"
name_of (Seed n) = codes "seed"
name_of (Turns n) = codes "turns"
name_of (Looks n) = codes "looks"
name_of (Steps n) = codes "steps"
name_of Trace = codes "trace"
name_of Threads = codes "threads"

-- the name of a kind
abbrev pub kind_name : KindWord → List ℕ
kind_name RoundWord = codes "round"
kind_name MixedWord = codes "mixed"

-- the value that a setting gives it; `trace` and `threads` have none
abbrev pub value_of : Setting → List ℕ
value_of (OfKind kind) = kind_name kind
value_of (Seed n) = decimal n
value_of (Turns n) = decimal n
value_of (Looks n) = decimal n
value_of (Steps n) = decimal n
value_of Trace = []
value_of Threads = []

-- a setting as a word
abbrev pub word_of : Setting → List ℕ
word_of Trace = name_of Trace
word_of Threads = name_of Threads
word_of setting = name_of setting ++ codes "=" ++ value_of setting

-- the value is one that it may have: a seed of 64 bits, 1 to 1,000,000 instructions, to 1,000,000,000 looks, to 1,000,000,000,000 events
abbrev pub IsInRange : Setting → Type 0
IsInRange (OfKind kind) = Unit {0}
IsInRange (Seed n) = n < 2 ^ 64
IsInRange (Turns n) = IsFrom1To 1000000 n
IsInRange (Looks n) = IsFrom1To 1000000000 n
IsInRange (Steps n) = IsFrom1To 1000000000000 n
IsInRange Trace = Unit {0}
IsInRange Threads = Unit {0}

-- the command takes the setting: `sim` takes all but `threads`, `run` turns and trace alone, and `gen` the limits and `threads` alone
abbrev pub IsOf : Command → Setting → Type 0
IsOf ToSim Threads = ⊥
IsOf ToSim _ = Unit {0}
IsOf ToRun (Turns n) = Unit {0}
IsOf ToRun Trace = Unit {0}
IsOf ToRun _ = ⊥
IsOf ToGen (Turns n) = Unit {0}
IsOf ToGen (Looks n) = Unit {0}
IsOf ToGen (Steps n) = Unit {0}
IsOf ToGen Threads = Unit {0}
IsOf ToGen _ = ⊥

-- the words are these settings of the command, each in its range, and no two of the same name
pub record AreSettings (command : Command) (words : List (List ℕ)) (settings : List Setting) : Type 0 where
  pub spelt : words ≡ map word_of settings
  pub in_range : All IsInRange settings
  pub taken : All (IsOf command) settings
  pub differ : AllPairs (λ a b. name_of a ≢ name_of b) settings

-- what a setting of each name gives
abbrev pub kind_of : Setting → Option KindWord
kind_of (OfKind kind) = Some kind
kind_of _ = None

abbrev pub seed_of : Setting → Option ℕ
seed_of (Seed n) = Some n
seed_of _ = None

abbrev pub turns_of : Setting → Option ℕ
turns_of (Turns n) = Some n
turns_of _ = None

abbrev pub looks_of : Setting → Option ℕ
looks_of (Looks n) = Some n
looks_of _ = None

abbrev pub steps_of : Setting → Option ℕ
steps_of (Steps n) = Some n
steps_of _ = None

abbrev pub trace_of : Setting → Option Bool
trace_of Trace = Some true
trace_of _ = None

abbrev pub threads_of : Setting → Option Bool
threads_of Threads = Some true
threads_of _ = None

-- what the settings give, or the default where none does: cyclic order, seed 0, 200,000 instructions, 50,000,000 looks, 100,000,000 events, no trace, no threads
abbrev pub kind_in : List Setting → KindWord
kind_in settings = slice_index_or (filter_map kind_of settings) 0 RoundWord

abbrev pub seed_in : List Setting → ℕ
seed_in settings = slice_index_or (filter_map seed_of settings) 0 0

abbrev pub turns_in : List Setting → ℕ
turns_in settings = slice_index_or (filter_map turns_of settings) 0 200000

abbrev pub looks_in : List Setting → ℕ
looks_in settings = slice_index_or (filter_map looks_of settings) 0 50000000

abbrev pub steps_in : List Setting → ℕ
steps_in settings = slice_index_or (filter_map steps_of settings) 0 100000000

abbrev pub trace_in : List Setting → Bool
trace_in settings = slice_index_or (filter_map trace_of settings) 0 false

abbrev pub threads_in : List Setting → Bool
threads_in settings = slice_index_or (filter_map threads_of settings) 0 false

-- the limits that they give
abbrev pub limits_in : List Setting → Limits
limits_in settings = record { turns = turns_in settings; looks = Some (looks_in settings) }

-- the limits that they give where there are threads: no look is the last allowed one
abbrev pub endless_in : List Setting → Limits
endless_in settings = record { turns = turns_in settings; looks = None }

-- the schedule of this kind; only a mixed one uses the seed
abbrev pub schedule_of : KindWord → ℕ → Kind
schedule_of RoundWord seed = Round
schedule_of MixedWord seed = Mixed seed

-- the words are `sim`, a cluster and settings, which give these limits
pub record AskForSim (words : List (List ℕ)) (t : Topology) (limits : Limits) (kind : Kind) (steps : ℕ) (trace : Bool) : Type 0 where
  pub others : List (List ℕ)
  pub settings : List Setting
  pub spelt : words ≡ codes "sim" ∷ topology_word t ∷ others
  pub set : AreSettings ToSim others settings
  pub given_limits : limits ≡ limits_in settings
  pub given_kind : kind ≡ schedule_of (kind_in settings) (seed_in settings)
  pub given_steps : steps ≡ steps_in settings
  pub given_trace : trace ≡ trace_in settings

-- the words are `run`, a cluster and settings, which give these limits
pub record AskForRun (words : List (List ℕ)) (t : Topology) (limits : Limits) (trace : Bool) : Type 0 where
  pub others : List (List ℕ)
  pub settings : List Setting
  pub spelt : words ≡ codes "run" ∷ topology_word t ∷ others
  pub set : AreSettings ToRun others settings
  pub given_limits : limits ≡ endless_in settings
  pub given_trace : trace ≡ trace_in settings

-- the word of a seed
abbrev pub seed_word : ℕ → List ℕ
seed_word seed = codes "seed=" ++ decimal seed

-- the words are `gen`, a seed, a cluster and settings, which give these limits, and threads or none
pub record AskForGen (words : List (List ℕ)) (seed : ℕ) (t : Topology) (limits : Limits) (steps : ℕ) (threads : Bool) : Type 0 where
  pub others : List (List ℕ)
  pub settings : List Setting
  pub spelt : words ≡ codes "gen" ∷ seed_word seed ∷ topology_word t ∷ others
  pub seeded : seed < 2 ^ 64
  pub set : AreSettings ToGen others settings
  pub given_limits : limits ≡ (if threads then endless_in settings else limits_in settings)
  pub given_steps : steps ≡ steps_in settings
  pub given_threads : threads ≡ threads_in settings

-- these words ask for this plan
abbrev pub PlanOf : List (List ℕ) → Plan → Type 0
PlanOf words Check = words ≡ codes "check" ∷ []
PlanOf words Listing = words ≡ codes "list" ∷ []
PlanOf words (Sim t limits kind steps trace) = AskForSim words t limits kind steps trace
PlanOf words (Run t limits trace) = AskForRun words t limits trace
PlanOf words (Gen seed t limits steps threads) = AskForGen words seed t limits steps threads

-- the plan is to run a program with one thread for each processor
abbrev pub runs_by_threads : Plan → Bool
runs_by_threads (Run t limits trace) = true
runs_by_threads (Gen seed t limits steps threads) = threads
runs_by_threads _ = false

-- the words ask for no such plan
abbrev pub NeedsNoThreads : List (List ℕ) → Type 0
NeedsNoThreads words = (p : Plan) → PlanOf words p → runs_by_threads p ≡ false

-- words ask for one plan at most
abbrev pub AskForOnePlan : Type 0
AskForOnePlan = (words : List (List ℕ)) (p q : Plan) → PlanOf words p → PlanOf words q → p ≡ q

-- some plan's words begin with these
abbrev pub BeginsPlan : List (List ℕ) → Type 0
BeginsPlan words = (more : List (List ℕ)) × (p : Plan) × PlanOf (words ++ more) p

-- The first faulty word has this number, from 1: the words before it begin a plan's words, and with it
-- they don't. Where all words begin a plan's words but are none, it is the number behind the last.
pub record FirstFault (words : List (List ℕ)) (k : ℕ) : Type 0 where
  pub numbered : 1 ≤ k
  pub before : BeginsPlan (take (k - 1) words)
  pub fault : ((k ≤ length words) × (BeginsPlan (take k words) → ⊥)) ⊎ ((k ≡ length words + 1) × ((p : Plan) → PlanOf words p → ⊥))

-- the words are some settings of the command
abbrev pub AreSome : Command → List (List ℕ) → Type 0
AreSome command words = (settings : List Setting) × AreSettings command words settings

-- this is all that the settings give
pub record IsGivenBy (given : Given) (settings : List Setting) : Type 0 where
  pub kind : filter_map kind_of settings ≡ option_to_list given.kind
  pub seed : filter_map seed_of settings ≡ option_to_list given.seed
  pub turns : filter_map turns_of settings ≡ option_to_list given.turns
  pub looks : filter_map looks_of settings ≡ option_to_list given.looks
  pub steps : filter_map steps_of settings ≡ option_to_list given.steps
  pub trace : filter_map trace_of settings ≡ option_to_list given.trace
  pub threads : filter_map threads_of settings ≡ option_to_list given.threads

-- the words are settings of the command that give this
abbrev pub Give : Command → List (List ℕ) → Given → Type 0
Give command words given = (settings : List Setting) × AreSettings command words settings × IsGivenBy given settings

-- the word of this number, from 1, is the first with which the words are no settings of the command
pub record FirstUnset (command : Command) (words : List (List ℕ)) (k : ℕ) : Type 0 where
  pub numbered : 1 ≤ k
  pub within : k ≤ length words
  pub before : AreSome command (take (k - 1) words)
  pub fault : AreSome command (take k words) → ⊥

-- the words are this cluster, and settings of the command that give this
abbrev pub Cluster : Command → List (List ℕ) → Topology → Given → Type 0
Cluster command words t given = (others : List (List ℕ)) × (words ≡ topology_word t ∷ others) × Give command others given

-- the number, from 1, of the first faulty one of these words: the first, where no cluster stands there, or else the first behind it that is no setting of the command
abbrev pub FirstOutside : Command → List (List ℕ) → ℕ → Type 0
FirstOutside command words k =
    ((k ≡ 1) × ((t : Topology) (others : List (List ℕ)) → words ≡ topology_word t ∷ others → ⊥))
    ⊎ ((t : Topology) × (others : List (List ℕ)) × (words ≡ topology_word t ∷ others) × FirstUnset command others (k - 1))
