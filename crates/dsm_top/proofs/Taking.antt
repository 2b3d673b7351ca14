-- A plan whose program is not that of a seed takes the program that was read.
use Rattle.std.proofs.Common.{◌≡◌, ℕ, Bool, Result, Ok, Err, refl}
use Rattle.std.specs.Prelude.{IfOk}
use Rattle.dsm_isa.specs.ProgramText.{ProgramText}
use Rattle.dsm_words.specs.declared.topology.Topology.{Topology}
use Rattle.dsm_protocol.specs.declared.limits.Limits.{Limits}
use Rattle.dsm_top.specs.declared.plans.Plan.{Plan}
use Rattle.dsm_top.specs.declared.plans.Plan.TheVariants.{Check, List as Listing, Sim, Run, Gen}
use Rattle.dsm_top.specs.Streams.{Reading}
use Rattle.dsm_top.specs.Answer.{IsToGenerate, ReadsProgram, Takes}

-- the plan is none to generate
abbrev pub IsNoGen : Plan → Type 0
IsNoGen plan = (seed : ℕ) (t : Topology) (limits : Limits) (steps : ℕ) (threads : Bool) → plan ≡ Gen seed t limits steps threads → ⊥

pub takes_read : (plan : Plan) → IsNoGen plan → (r : Reading) (p : ProgramText) → ReadsProgram r p → Takes plan r p
takes_read Check other r p read = read
takes_read Listing other r p read = read
takes_read (Sim t limits kind steps trace) other r p read = read
takes_read (Run t limits trace) other r p read = read
takes_read (Gen seed t limits steps threads) other r p read = absurd (other seed t limits steps threads refl)

pub takes_answer : {E : Type 0} (plan : Plan) → IsNoGen plan → (r : Reading) (o : Result ProgramText E) → IfOk o (ReadsProgram r) → IfOk o (Takes plan r)
takes_answer plan other r (Ok p) read = takes_read plan other r p read
takes_answer plan other r (Err e) read = tt

pub generates_nothing : (plan : Plan) → IsNoGen plan → IsToGenerate plan → ⊥
generates_nothing Check other is = is
generates_nothing Listing other is = is
generates_nothing (Sim t limits kind steps trace) other is = is
generates_nothing (Run t limits trace) other is = is
generates_nothing (Gen seed t limits steps threads) other is = other seed t limits steps threads refl
