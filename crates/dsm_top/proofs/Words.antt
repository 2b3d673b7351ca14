-- Which words ask for a plan, and which is the first that doesn't fit.
use Rattle.std.proofs.Common.{◌≡◌, ◌≢◌, ℕ, ◌<◌, ◌≤◌, ◌^◌, if◌then◌else◌, List, [], ◌∷◌, length, get_or, drop, Option, Some, None, codes, filter_map, refl, sym, ap, ◌∙◌, subst, inl, inr, arith, take-append-drop, String, string_bytes, Result, Ok, Err}
use Rattle.std.specs.Prelude.{slice_index_or, IfErr}
use Rattle.std.specs.declared.alloc.Global.{Global}
use Rattle.std.specs.Option.{option_to_list, unwrap_or}
use Rattle.dsm_words.specs.declared.topology.Topology.{Topology}
use Rattle.dsm_top.specs.declared.plans.Plan.{Plan}
use Rattle.dsm_top.specs.declared.plans.Plan.TheVariants.{Check, List as Listing, Sim, Run, Gen}
use Rattle.dsm_top.specs.declared.plans.Command.TheVariants.{Sim as ToSim, Run as ToRun, Gen as ToGen}
use Rattle.dsm_top.specs.declared.plans.Setting.{Setting}
use Rattle.dsm_top.specs.Plans.{texts, topology_word, seed_word, AreSettings, limits_in, endless_in, kind_in, seed_in, schedule_of, steps_in, trace_in, threads_in, PlanOf, FirstFault}

-- what is given, or the default
pub in-given : {A : Type 0} (of : Setting → Option A) (settings : List Setting) (o : Option A) (d : A) → filter_map of settings ≡ option_to_list o → slice_index_or (filter_map of settings) 0 d ≡ unwrap_or o d
in-given of settings None d given = ap (λ xs. slice_index_or xs 0 d) given
in-given of settings (Some x) d given = ap (λ xs. slice_index_or xs 0 d) given

-- the plan to simulate this cluster with these settings
abbrev pub simulation_of : Topology → List Setting → Plan
simulation_of t settings = Sim t (limits_in settings) (schedule_of (kind_in settings) (seed_in settings)) (steps_in settings) (trace_in settings)

pub simulation-asked : (t : Topology) (words : List (List ℕ)) (settings : List Setting) → AreSettings ToSim words settings → PlanOf (codes "sim" ∷ topology_word t ∷ words) (simulation_of t settings)
simulation-asked t words settings are = record { others = words; settings = settings; spelt = refl; set = are; given_limits = refl; given_kind = refl; given_steps = refl; given_trace = refl }

-- the plan to run this cluster by threads with these settings
abbrev pub threaded_of : Topology → List Setting → Plan
threaded_of t settings = Run t (endless_in settings) (trace_in settings)

pub threaded-asked : (t : Topology) (words : List (List ℕ)) (settings : List Setting) → AreSettings ToRun words settings → PlanOf (codes "run" ∷ topology_word t ∷ words) (threaded_of t settings)
threaded-asked t words settings are = record { others = words; settings = settings; spelt = refl; set = are; given_limits = refl; given_trace = refl }

-- the plan to run the program of this seed on this cluster with these settings
abbrev pub generation_of : ℕ → Topology → List Setting → Plan
generation_of seed t settings = Gen seed t (if threads_in settings then endless_in settings else limits_in settings) (steps_in settings) (threads_in settings)

pub generation-asked : (seed : ℕ) (t : Topology) (words : List (List ℕ)) (settings : List Setting) → seed < 2 ^ 64 → AreSettings ToGen words settings → PlanOf (codes "gen" ∷ seed_word seed ∷ topology_word t ∷ words) (generation_of seed t settings)
generation-asked seed t words settings small are = record { others = words; settings = settings; spelt = refl; seeded = small; set = are; given_limits = refl; given_steps = refl; given_threads = refl }

-- the first byte of a plan's command tells which
abbrev pub command_byte : Plan → ℕ
command_byte Check = 99
command_byte Listing = 108
command_byte (Sim t limits kind steps trace) = 115
command_byte (Run t limits trace) = 114
command_byte (Gen seed t limits steps threads) = 103

abbrev pub first_byte : List (List ℕ) → ℕ
first_byte words = get_or (get_or words 0 []) 0 0

pub first-PlanOf : (words : List (List ℕ)) (p : Plan) → PlanOf words p → first_byte words ≡ command_byte p
first-PlanOf words Check h = ap first_byte h
first-PlanOf words Listing h = ap first_byte h
first-PlanOf words (Sim t limits kind steps trace) h = ap first_byte h.spelt
first-PlanOf words (Run t limits trace) h = ap first_byte h.spelt
first-PlanOf words (Gen seed t limits steps threads) h = ap first_byte h.spelt

none_is_a_plan : (p : Plan) → PlanOf [] p → ⊥
none_is_a_plan Check h = cc h
none_is_a_plan Listing h = cc h
none_is_a_plan (Sim t limits kind steps trace) h = cc (h.spelt)
none_is_a_plan (Run t limits trace) h = cc (h.spelt)
none_is_a_plan (Gen seed t limits steps threads) h = cc (h.spelt)

-- no words, and a first word that is no command
pub fault-no_words : FirstFault [] 1
fault-no_words = record { numbered = omega arith; before = (codes "check" ∷ [], Check, refl); fault = inr (refl, none_is_a_plan) }

no_command : (x : List ℕ) (words : List (List ℕ)) → x ≢ codes "check" → x ≢ codes "list" → x ≢ codes "sim" → x ≢ codes "run" → x ≢ codes "gen" → (p : Plan) → PlanOf (x ∷ words) p → ⊥
no_command x words check list sim run gen Check h = check (let spelt = h in cc)
no_command x words check list sim run gen Listing h = list (let spelt = h in cc)
no_command x words check list sim run gen (Sim t limits kind steps trace) h = sim (let spelt = h.spelt in cc)
no_command x words check list sim run gen (Run t limits trace) h = run (let spelt = h.spelt in cc)
no_command x words check list sim run gen (Gen seed t limits steps threads) h = gen (let spelt = h.spelt in cc)

pub fault-no_command : (x : List ℕ) (words : List (List ℕ)) → x ≢ codes "check" → x ≢ codes "list" → x ≢ codes "sim" → x ≢ codes "run" → x ≢ codes "gen" → FirstFault (x ∷ words) 1
fault-no_command x words check list sim run gen = record {
  numbered = omega arith;
  before = (codes "check" ∷ [], Check, refl);
  fault = inl (omega arith, λ (more, p, h). no_command x more check list sim run gen p h);
}

-- a command of one word has no word behind it
stands_alone : (x y : List ℕ) (words : List (List ℕ)) (p q : Plan) → PlanOf (x ∷ []) p → PlanOf (x ∷ y ∷ words) q → ⊥
stands_alone x y words Check Check one other = cc other
stands_alone x y words Listing Listing one other = cc other
stands_alone x y words (Sim t limits kind steps trace) q one other = cc one.spelt
stands_alone x y words (Run t limits trace) q one other = cc one.spelt
stands_alone x y words (Gen seed t limits steps threads) q one other = cc one.spelt
stands_alone x y words p q one other = omega (arith, first-PlanOf (x ∷ []) p one, first-PlanOf (x ∷ y ∷ words) q other)

pub fault-behind : (x y : List ℕ) (words : List (List ℕ)) (p : Plan) → PlanOf (x ∷ []) p → FirstFault (x ∷ y ∷ words) 2
fault-behind x y words p alone = record {
  numbered = omega arith;
  before = ([], p, alone);
  fault = inl (omega arith, λ (more, q, h). stands_alone x y more p q alone h);
}

-- the texts of words, by the first of them
pub no_texts : (words : List (String Global)) → length words ≡ 0 → texts words ≡ []
no_texts [] none = refl
no_texts (word ∷ words) none = absurd (omega (arith, none))

pub texts-cons : (words : List (String Global)) (word : String Global) (rest : List (String Global)) (bytes : List ℕ) → words ≡ word ∷ rest → bytes ≡ string_bytes word → texts words ≡ bytes ∷ texts rest
texts-cons words word rest bytes cut is = ap texts cut ∙ ap (λ w. w ∷ texts rest) (sym is)

-- the answer where a command has to stand alone
pub alone-fault : (x : List ℕ) (words : List (String Global)) (p : Plan) → PlanOf (x ∷ []) p → (r : Result Plan ℕ) → IfErr r (λ k. (k ≡ 2) × (1 ≤ length words)) → IfErr r (λ k. FirstFault (x ∷ texts words) k)
alone-fault x words p alone (Ok q) h = tt
alone-fault x [] p alone (Err k) h = absurd (omega (arith, h.1))
alone-fault x (word ∷ words) p alone (Err k) h = subst (FirstFault (x ∷ texts (word ∷ words))) (sym h.0) (fault-behind x (string_bytes word) (texts words) p alone)

-- words with a first fault ask for no plan
pub none-PlanOf : (words : List (List ℕ)) (k : ℕ) → FirstFault words k → (p : Plan) → PlanOf words p → ⊥
none-PlanOf words k f p plan =
    elim f.fault [ inl h ↦ h.1 (drop k words, p, subst (λ w. PlanOf w p) (sym (take-append-drop k words)) plan) | inr h ↦ h.1 p plan ]
