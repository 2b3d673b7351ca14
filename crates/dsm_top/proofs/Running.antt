-- What a run leaves, and that the plan's numbers are in their ranges.
use Rattle.std.proofs.Common.{◌≡◌, ℕ, ◌*◌, ◌^◌, ◌<◌, ◌≤◌, Bool, true, false, List, [], ◌∷◌, All, length, Option, None, Some, Result, Ok, Err, refl, sym, ap, ◌∙◌, subst, arith}
use Rattle.std.specs.Prelude.{IsSome, IfSome, IfOk}
use Rattle.std.proofs.lemmas.List.Elements.{All-head, All-tail}
use Rattle.std.proofs.lemmas.List.FromFn.{length-map-range_with_len}
use Rattle.dsm_isa.specs.Limits.{IsWithinLimits}
use Rattle.dsm_isa.specs.ProgramText.{ProgramText}
use Rattle.dsm_isa.specs.Rules.{ObjectsInside}
use Rattle.dsm_words.specs.declared.topology.Topology.{Topology}
use Rattle.dsm_words.specs.Homes.{master}
use Rattle.dsm_words.specs.Words.{word}
use Rattle.dsm_protocol.specs.declared.limits.Limits.{Limits}
use Rattle.dsm_flat.specs.Following.{AreShort}
use Rattle.dsm_runs.specs.Setups.{Setup, IsSetup, lay_in}
use Rattle.dsm_runs.specs.Clusters.{Event, reached}
use Rattle.dsm_runs.specs.Outcomes.{Ran, Outcome}
use Rattle.dsm_runs.specs.Promises.{EveryRunKeepsThem, AloneIsOrdered}
use Rattle.dsm_twoway.specs.Promise.{EveryRunKeepsWords, TracePromise}
use Rattle.dsm_core.specs.States.{setup_of}
use Rattle.dsm_runner.specs.Outcomes.{IsOutcome, AllOver, NoneLooked}
use Rattle.dsm_sched.specs.declared.kind.Kind.{Kind}
use Rattle.dsm_sched.specs.Schedules.{Simulated}
use Rattle.dsm_top.specs.declared.plans.Plan.{Plan}
use Rattle.dsm_top.specs.declared.plans.Plan.TheVariants.{Check, List as Listing, Sim, Run, Gen}
use Rattle.dsm_top.specs.declared.plans.Setting.{Setting}
use Rattle.dsm_top.specs.declared.plans.Setting.TheVariants.{Kind as OfKind, Seed, Turns, Looks, Steps, Trace, Threads}
use Rattle.dsm_top.specs.Plans.{PlanOf, IsInRange, turns_in}
use Rattle.dsm_report.specs.Report.{IsReport}
use Rattle.dsm_top.specs.declared.answering.Answer.{Answer}
use Rattle.dsm_top.specs.Run.{IsRunnable, Kept, Runs, RunsInThreads}
use Rattle.dsm_top.specs.Streams.{Reading}
use Rattle.dsm_top.specs.Answer.{Answers, AskToRun, HasRun, IsToRun, Takes}
use Rattle.dsm_top.proofs.OnePlan.{one_plan}

-- there is a word for each address
pub pages_many : (s : Setup) (events : List Event) (ran : Ran) → Outcome s events ran → length ran.pages ≡ s.program.shape.pages * s.program.shape.words
pages_many s events ran h =
    ap (λ r. length r.pages) (sym h.leaves) ∙ length-map-range_with_len (λ w. word (lay_in s) (reached s events).words (master (lay_in s) (reached s events).words w)) 0 (s.program.shape.pages * s.program.shape.words)

-- there are no more traces than processors, and none is long
pub few_traces : (s : Setup) (ran : Ran) → IsSetup s → TracePromise s ran → length ran.traces < 2 ^ 32
few_traces s ran is traces = omega (arith, is.all, traces.all)

pub short_traces : (s : Setup) (ran : Ran) → IsSetup s → TracePromise s ran → AreShort ran.traces
short_traces s ran is traces q t at = omega (arith, is.turns, traces.short q t at)

-- what a run leaves is as promised
pub kept : (t : Topology) (limits : Limits) (p : ProgramText) (events : List Event) (ran : Ran) → EveryRunKeepsThem → EveryRunKeepsWords → AloneIsOrdered → IsSetup (setup_of p t limits) → Outcome (setup_of p t limits) events ran → Kept t limits p ran
kept t limits p events ran runs words alone setup outcome =
    let s = setup_of p t limits in
    record {
      promises = runs s events ran setup outcome;
      words = words s events ran setup outcome;
      alone = λ single. alone s events ran single outcome;
    }

pub runs_are : (t : Topology) (limits : Limits) (kind : Kind) (steps : ℕ) (p : ProgramText) (ran : Ran) (cut : Bool) → EveryRunKeepsThem → EveryRunKeepsWords → AloneIsOrdered → IsSetup (setup_of p t limits) → Simulated kind (setup_of p t limits) steps ran cut → Runs t limits kind steps p ran
runs_are t limits kind steps p ran cut runs words alone setup h = record { cut = cut; simulated = h; kept = kept t limits p h.events ran runs words alone setup h.outcome }

-- the settings allow no more instructions than may be
turns_most : (settings : List Setting) → All IsInRange settings → turns_in settings ≤ 1000000
turns_most [] all = omega arith
turns_most (Turns n ∷ settings) all = (All-head IsInRange (Turns n) settings all).1
turns_most (OfKind kind ∷ settings) all = turns_most settings (All-tail IsInRange (OfKind kind) settings all)
turns_most (Seed n ∷ settings) all = turns_most settings (All-tail IsInRange (Seed n) settings all)
turns_most (Looks n ∷ settings) all = turns_most settings (All-tail IsInRange (Looks n) settings all)
turns_most (Steps n ∷ settings) all = turns_most settings (All-tail IsInRange (Steps n) settings all)
turns_most (Trace ∷ settings) all = turns_most settings (All-tail IsInRange Trace settings all)
turns_most (Threads ∷ settings) all = turns_most settings (All-tail IsInRange Threads settings all)

-- a plan's program on its cluster
setup_is : (t : Topology) (limits : Limits) (p : ProgramText) (settings : List Setting) → All IsInRange settings → limits.turns ≡ turns_in settings → IsWithinLimits p.shape.pages p.shape.words p.shape.locks p.shape.barriers p.shape.flags → ObjectsInside p.shape p.code → IsSetup (setup_of p t limits)
setup_is t limits p settings range turns sizes objects = record {
  objects = objects;
  sizes = sizes;
  nodes = (t.some_nodes, t.most_nodes);
  procs = (t.some_procs, t.most_procs);
  all = t.most_all;
  turns = subst (λ n. n ≤ 1000000) (sym turns) (turns_most settings range);
}

-- a plan and a program that there are can be run
pub runnable : (words : List (List ℕ)) (plan : Plan) (p : ProgramText) → PlanOf words plan → IsWithinLimits p.shape.pages p.shape.words p.shape.locks p.shape.barriers p.shape.flags → ObjectsInside p.shape p.code → IsRunnable plan p
runnable words Check p asked sizes objects = tt
runnable words Listing p asked sizes objects = tt
runnable words (Sim t limits kind steps trace) p asked sizes objects = setup_is t limits p asked.settings asked.set.in_range (ap (λ l. l.turns) asked.given_limits) sizes objects
runnable words (Run t limits trace) p asked sizes objects = (setup_is t limits p asked.settings asked.set.in_range (ap (λ l. l.turns) asked.given_limits) sizes objects, ap (λ l. l.looks) asked.given_limits)
runnable words (Gen seed t limits steps false) p asked sizes objects = setup_is t limits p asked.settings asked.set.in_range (ap (λ l. l.turns) asked.given_limits) sizes objects
runnable words (Gen seed t limits steps true) p asked sizes objects = (setup_is t limits p asked.settings asked.set.in_range (ap (λ l. l.turns) asked.given_limits) sizes objects, ap (λ l. l.looks) asked.given_limits)

-- where there is a run, the words ask for it
pub asked_to : (words : List (List ℕ)) (plan : Plan) (p : ProgramText) (ran : Option Ran) (bytes : List ℕ) → PlanOf words plan → Answers plan p ran bytes → IsSome ran → AskToRun words
asked_to words (Sim t limits kind steps trace) p ran bytes asked answers some = (Sim t limits kind steps trace, asked, tt)
asked_to words (Run t limits trace) p ran bytes asked answers some = (Run t limits trace, asked, tt)
asked_to words (Gen seed t limits steps threads) p ran bytes asked answers some = (Gen seed t limits steps threads, asked, tt)
asked_to words Check p (Some a) bytes asked answers some = absurd (cc answers.0)
asked_to words Listing p (Some a) bytes asked answers some = absurd (cc answers.0)
asked_to words Check p None bytes asked answers some = absurd (cc some)
asked_to words Listing p None bytes asked answers some = absurd (cc some)

-- and it is the run of the plan's program
pub has_run : (words : List (List ℕ)) (r : Reading) (plan : Plan) (p : ProgramText) (ran : Option Ran) (bytes : List ℕ) → PlanOf words plan → Takes plan r p → Answers plan p ran bytes → IfSome ran (HasRun words r)
has_run words r (Sim t limits kind steps trace) p (Some a) bytes asked taken answers = record { plan = Sim t limits kind steps trace; asked = asked; program = p; taken = taken; runs = answers.0 }
has_run words r (Run t limits trace) p (Some a) bytes asked taken answers = record { plan = Run t limits trace; asked = asked; program = p; taken = taken; runs = answers.0 }
has_run words r (Gen seed t limits steps threads) p (Some a) bytes asked taken answers = record { plan = Gen seed t limits steps threads; asked = asked; program = p; taken = taken; runs = answers.0 }
has_run words r Check p (Some a) bytes asked taken answers = absurd (cc answers.0)
has_run words r Listing p (Some a) bytes asked taken answers = absurd (cc answers.0)
has_run words r plan p None bytes asked taken answers = tt

-- and there is one where they do: words ask for one plan at most
has_ran_by : (plan : Plan) (p : ProgramText) (ran : Option Ran) (bytes : List ℕ) → Answers plan p ran bytes → IsToRun plan → IsSome ran
has_ran_by (Sim t limits kind steps trace) p (Some a) bytes answers ask = refl
has_ran_by (Sim t limits kind steps trace) p None bytes answers ask = absurd answers
has_ran_by (Run t limits trace) p (Some a) bytes answers ask = refl
has_ran_by (Run t limits trace) p None bytes answers ask = absurd answers
has_ran_by (Gen seed t limits steps threads) p (Some a) bytes answers ask = refl
has_ran_by (Gen seed t limits steps threads) p None bytes answers ask = absurd answers
has_ran_by Check p ran bytes answers ask = absurd ask
has_ran_by Listing p ran bytes answers ask = absurd ask

pub has_ran : (words : List (List ℕ)) (plan : Plan) (p : ProgramText) (ran : Option Ran) (bytes : List ℕ) → PlanOf words plan → Answers plan p ran bytes → AskToRun words → IsSome ran
has_ran words plan p ran bytes asked answers (other, ask, to_run) = has_ran_by plan p ran bytes answers (subst IsToRun (one_plan words other plan ask asked) to_run)

-- a run by threads is as promised
pub runs_in_threads : (t : Topology) (limits : Limits) (p : ProgramText) (ran : Ran) → EveryRunKeepsThem → EveryRunKeepsWords → AloneIsOrdered → IsSetup (setup_of p t limits) → IsOutcome (setup_of p t limits) ran → AllOver ran.ends → NoneLooked ran.ends → RunsInThreads t limits p ran
runs_in_threads t limits p ran runs words alone setup outcome over looked = record { events = outcome.0; outcome = outcome.1; over = over; looked = looked; kept = kept t limits p outcome.0 ran runs words alone setup outcome.1 }

-- a report of a simulated run is the answer to a plan that asks for it
pub reported : {E : Type 0} (t : Topology) (limits : Limits) (kind : Kind) (steps : ℕ) (trace : Bool) (p : ProgramText) (ran : Ran) (o : Result Answer E) → Runs t limits kind steps p ran → IfOk o (λ a. a.ran ≡ Some ran) → IfOk o (λ a. IsReport t p.shape ran trace a.text.items)
    → IfOk o (λ a. Answers (Sim t limits kind steps trace) p a.ran a.text.items)
reported t limits kind steps trace p ran (Ok a) runs is text = subst (λ x. Answers (Sim t limits kind steps trace) p x a.text.items) (sym is) (runs, text)
reported t limits kind steps trace p ran (Err e) runs is text = tt

-- and so is that of a run by threads
pub reported_by_threads : {E : Type 0} (t : Topology) (limits : Limits) (trace : Bool) (p : ProgramText) (ran : Ran) (o : Result Answer E) → RunsInThreads t limits p ran → IfOk o (λ a. a.ran ≡ Some ran) → IfOk o (λ a. IsReport t p.shape ran trace a.text.items) → IfOk o (λ a. Answers (Run t limits trace) p a.ran a.text.items)
reported_by_threads t limits trace p ran (Ok a) runs is text = subst (λ x. Answers (Run t limits trace) p x a.text.items) (sym is) (runs, text)
reported_by_threads t limits trace p ran (Err e) runs is text = tt
