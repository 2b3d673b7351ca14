-- The last state.
use Rattle.std.proofs.Common.{◌≡◌, ℕ, zero, suc, ◌+◌, ◌<◌, List, [], ◌∷◌, length, map, Option, Some, refl, ap, sym, arith, ◌∙◌}
use Rattle.std.proofs.lemmas.List.{map-id, length-map}
use Rattle.std.proofs.lemmas.Option.{slice_get-map}
use Rattle.std.specs.Prelude.{slice_get}
use mathlib.Core.Option.{some}
use lib.ListN.{get_elem?}
use Rattle.dsm_machine.specs.declared.machine.Machine.{Machine}
use Rattle.dsm_machine.specs.Machines.{processor_in}
use Rattle.dsm_protocol.specs.Processors.{Processor, Given, ending}
use Rattle.dsm_runs.specs.Setups.{Setup}
use Rattle.dsm_runs.specs.Clusters.{Cluster, Event, AreDefined, reached}
use Rattle.dsm_runs.specs.Outcomes.{Ran, ran_of, total_counts}
use Rattle.dsm_runs.proofs.Lists.{some_one}
use Rattle.dsm_runs.proofs.Reaching.{length-reached}
use Rattle.dsm_runner.specs.Sights.{Sight, Kept, Leads, Fits, processor_at, seen_by, procs_of}
use Rattle.dsm_runner.specs.Helds.{Board, processor_by}
use Rattle.dsm_runner.specs.Machines.{processors_of, joined_sight, AreGiven}
use Rattle.dsm_runner.specs.Outcomes.{IsOf}
use Rattle.dsm_runner.specs.Workers.{AreWorkers, given_to, processors_by}
use Rattle.dsm_runner.specs.declared.worker.Worker.{Worker}

-- where item j of each is processor p + j, they are the processors from p on
rest_are : {X : Type 0} (f : X → Processor) (s : Setup) (p : ℕ) (xs : List X) (all : List (List Given)) → length xs ≡ length all
    → ((j : ℕ) (x : X) (given : List Given) → slice_get xs j ≡ Some x → slice_get all j ≡ Some given → f x ≡ processor_at s (p + j) given) → map f xs ≡ processors_of s p all
rest_are f s p [] [] long each = refl
rest_are f s p [] (given ∷ all) long each = absurd (omega (arith, long))
rest_are f s p (x ∷ xs) [] long each = absurd (omega (arith, long))
rest_are f s p (x ∷ xs) (given ∷ all) long each =
    let first : f x ≡ processor_at s p given = each 0 x given refl refl ∙ ap (λ q. processor_at s q given) (let z : p + 0 ≡ p = omega arith in z) in
    let rest : map f xs ≡ processors_of s (suc p) all =
    rest_are f s (suc p) xs all (omega (arith, long)) (λ j y g at there. each (suc j) y g at there ∙ ap (λ q. processor_at s q g) (let z : p + suc j ≡ suc p + j = omega arith in z)) in λ i. first i ∷ rest i

-- so where item j is processor j, they are all processors
all_are : {X : Type 0} (f : X → Processor) (s : Setup) (xs : List X) (all : List (List Given)) → length xs ≡ length all
    → ((j : ℕ) (x : X) (given : List Given) → slice_get xs j ≡ Some x → slice_get all j ≡ Some given → f x ≡ processor_at s j given) → map f xs ≡ processors_of s 0 all
all_are f s xs all long each = rest_are f s 0 xs all long (λ j x g at there. each j x g at there ∙ ap (λ q. processor_at s q g) (let z : j ≡ 0 + j = omega arith in z))

-- those of the machines
pub machines_are : (s : Setup) (all : List (List Given)) (ms : List Machine) → length ms ≡ length all → AreGiven s all ms → map (λ m. processor_in m s.program.code) ms ≡ processors_of s 0 all
machines_are s all ms long are = all_are (λ m. processor_in m s.program.code) s ms all long each
  where
    each : (j : ℕ) (m : Machine) (given : List Given) → slice_get ms j ≡ Some m → slice_get all j ≡ Some given → processor_in m s.program.code ≡ processor_at s j given
    each j m given at there = let is = are j m at in is.2.same ∙ ap (λ g. processor_at s j g) (some_one is.0 given (sym is.1 ∙ there))

-- and of the workers
pub workers_are : (b : Board) (ws : List Worker) → AreWorkers b ws → processors_by ws ≡ processors_of b.setup 0 (map given_to ws)
workers_are b ws are = all_are processor_by b.setup ws (map given_to ws) (sym (length-map ws given_to)) each
  where
    each : (j : ℕ) (w : Worker) (given : List Given) → slice_get ws j ≡ Some w → slice_get (map given_to ws) j ≡ Some given → processor_by w ≡ processor_at b.setup j given
    each j w given at there =
        let is = are.each j w at in
        let same : given_to w ≡ given = some_one (given_to w) given (sym (slice_get-map given_to ws j ∙ rw at refl) ∙ there) in
        λ i. processor_at (is.setup i) (is.number i) (same i)

-- the first seat knows the processors of the state
each_known : (s : Setup) (c : Cluster) (place : ℕ → Option ℕ) (id : ℕ) (v : Sight) (given : List Given) (all : List (List Given)) → Fits s c place id v → Leads s c place id v → v ≡ joined_sight s (given ∷ all)
    → (j : ℕ) (m : Processor) (g : List Given) → slice_get c.processors j ≡ Some m → slice_get (given ∷ all) j ≡ Some g → m ≡ processor_at s j g
each_known s c place id v given all fits leads is zero m g at there =
    let here : slice_get c.processors 0 ≡ Some (processor_at s 0 given) = ap (slice_get c.processors) (sym leads.mine) ∙ fits.here ∙ ap (λ (x : Sight). Some (seen_by x)) is in
    some_one m (processor_at s 0 given) (sym at ∙ here) ∙ ap (processor_at s 0) (some_one given g there)
each_known s c place id v given all fits leads is (suc j) m g at there =
    let was = leads.joined j g (ap (λ (x : Sight). slice_get x.joined j) is ∙ there) in
    some_one m (processor_at s (suc j) g) (sym at ∙ was.2)

-- with all seats taken in, the first knows all processors of a state that some list of events reaches
pub ended : (s : Setup) (words : List ℕ) (views : List Sight) (id : ℕ) (v : Sight) (all : List (List Given)) → 0 < procs_of s → Kept s words views → get_elem? views id ≡ some v → v ≡ joined_sight s all → length all ≡ procs_of s
    → (events : List Event) × AreDefined s events × (reached s events ≡ record { words = words; processors = processors_of s 0 all })
ended s words views id v [] any h at is long = absurd (omega (arith, any, long))
ended s words views id v (given ∷ all) any h at is long =
    let c : Cluster = reached s h.events in
    let fits = h.at.fits id v at (ap (λ (x : Sight). x.live) is) in
    let leads = h.at.leads id v at (ap (λ (x : Sight). x.leads) is) in
    let many : length c.processors ≡ length (given ∷ all) = (length-reached s h.events).1 ∙ sym long in
    let are : c.processors ≡ processors_of s 0 (given ∷ all) = sym (map-id c.processors) ∙ all_are (λ m. m) s c.processors (given ∷ all) many (each_known s c h.place id v given all fits leads is) in
    (h.events, h.defined, (λ i. record { words = sym h.at.words_are i; processors = are i }))

-- what is left of a state with the processors of these workers
pub left_by : (s : Setup) (c : Cluster) (ws : List Worker) (ran : Ran) → ran ≡ ran_of s c → c.processors ≡ processors_by ws → IsOf ws ran
left_by s c ws ran is are = record { traces = ap (λ (r : Ran). r.traces) is ∙ ap (map (λ m. m.own.trace)) are; ends = ap (λ (r : Ran). r.ends) is ∙ ap (map ending) are; counts = ap (λ (r : Ran). r.counts) is ∙ ap total_counts are }
