-- The words with which a plan to run a program begins, and the first faulty word behind them.
use Rattle.std.proofs.Common.{◌≡◌, ◌⊎◌, ℕ, suc, ◌+◌, ◌-◌, ◌<◌, ◌≤◌, ◌^◌, List, [], ◌∷◌, ◌++◌, length, take, codes, refl, sym, ap, ◌∙◌, subst, inl, inr, arith, append-nil, append_assoc, length-append}
use Rattle.std.proofs.Math.Seq.{take-append_seam, take-append-add}
use Rattle.std.proofs.lemmas.List.Elements.{All-nil}
use Rattle.dsm_words.specs.declared.topology.Topology.{Topology}
use Rattle.dsm_top.specs.declared.plans.Plan.{Plan}
use Rattle.dsm_top.specs.declared.plans.Plan.TheVariants.{Sim, Run, Gen}
use Rattle.dsm_top.specs.declared.plans.Command.{Command}
use Rattle.dsm_top.specs.declared.plans.Command.TheVariants.{Sim as ToSim, Run as ToRun, Gen as ToGen}
use Rattle.dsm_top.specs.Plans.{topology_word, seed_word, IsInRange, IsOf, AreSettings, AreSome, PlanOf, BeginsPlan, FirstFault, FirstUnset, FirstOutside}
use Rattle.dsm_top.proofs.SettingWords.{AreSettings-before}
use Rattle.dsm_top.proofs.Words.{first-PlanOf, simulation_of, simulation-asked, threaded_of, threaded-asked, generation_of, generation-asked}

-- the smallest cluster, and no settings
one_by_one : Topology
one_by_one = record { nodes = 1; procs = 1; some_nodes = omega arith; most_nodes = omega arith; some_procs = omega arith; most_procs = omega arith; most_all = omega arith }

no_settings : (command : Command) → AreSettings command [] []
no_settings command = record { spelt = refl; in_range = All-nil IsInRange; taken = All-nil (IsOf command); differ = λ i j d lower upper. absurd (omega arith) }

-- what stands behind the words with which a plan to run a program begins: a cluster and settings of the command
pub record Behind (command : Command) (words : List (List ℕ)) : Type 0 where
  pub t : Topology
  pub others : List (List ℕ)
  pub spelt : words ≡ topology_word t ∷ others
  pub some : AreSome command others

-- these are such words
pub record IsFront (command : Command) (front : List (List ℕ)) : Type 0 where
  pub asks : (t : Topology) (words : List (List ℕ)) → AreSome command words → (p : Plan) × PlanOf (front ++ topology_word t ∷ words) p
  pub behind : (words : List (List ℕ)) (p : Plan) → PlanOf (front ++ words) p → Behind command words

pub sim-front : IsFront ToSim (codes "sim" ∷ [])
sim-front = record { asks = λ t words (settings, are). (simulation_of t settings, simulation-asked t words settings are); behind = behind }
  where
    behind : (words : List (List ℕ)) (p : Plan) → PlanOf (codes "sim" ∷ words) p → Behind ToSim words
    behind words (Sim t limits kind steps trace) h = record { t = t; others = h.others; spelt = let spelt = h.spelt in cc; some = (h.settings, h.set) }
    behind words p h = absurd (omega (arith, first-PlanOf (codes "sim" ∷ words) p h))

pub run-front : IsFront ToRun (codes "run" ∷ [])
run-front = record { asks = λ t words (settings, are). (threaded_of t settings, threaded-asked t words settings are); behind = behind }
  where
    behind : (words : List (List ℕ)) (p : Plan) → PlanOf (codes "run" ∷ words) p → Behind ToRun words
    behind words (Run t limits trace) h = record { t = t; others = h.others; spelt = let spelt = h.spelt in cc; some = (h.settings, h.set) }
    behind words p h = absurd (omega (arith, first-PlanOf (codes "run" ∷ words) p h))

pub gen-front : (seed : ℕ) → seed < 2 ^ 64 → IsFront ToGen (codes "gen" ∷ seed_word seed ∷ [])
gen-front seed small = record { asks = λ t words (settings, are). (generation_of seed t settings, generation-asked seed t words settings small are); behind = behind }
  where
    behind : (words : List (List ℕ)) (p : Plan) → PlanOf (codes "gen" ∷ seed_word seed ∷ words) p → Behind ToGen words
    behind words (Gen n t limits steps threads) h = record { t = t; others = h.others; spelt = let spelt = h.spelt in cc; some = (h.settings, h.set) }
    behind words p h = absurd (omega (arith, first-PlanOf (codes "gen" ∷ seed_word seed ∷ words) p h))

begins : (command : Command) (front : List (List ℕ)) → IsFront command front → BeginsPlan front
begins command front is = let (p, asked) = is.asks one_by_one [] ([], no_settings command) in (topology_word one_by_one ∷ [], p, asked)

-- a first word behind these that is no cluster, or none
fault-cluster : (command : Command) (front : List (List ℕ)) → IsFront command front → (words : List (List ℕ)) → ((t : Topology) (others : List (List ℕ)) → words ≡ topology_word t ∷ others → ⊥) → FirstFault (front ++ words) (1 + length front)
fault-cluster command front is words none = record {
  numbered = omega arith;
  before = let upto : 1 + length front - 1 ≡ length front = omega arith in subst BeginsPlan (sym (ap (λ n. take n (front ++ words)) upto ∙ take-append_seam front words)) (begins command front is);
  fault = go words none;
}
  where
    Fault : List (List ℕ) → Type 0
    Fault ws = ((1 + length front ≤ length (front ++ ws)) × (BeginsPlan (take (1 + length front) (front ++ ws)) → ⊥)) ⊎ ((1 + length front ≡ length (front ++ ws) + 1) × ((p : Plan) → PlanOf (front ++ ws) p → ⊥))

    go : (ws : List (List ℕ)) → ((t : Topology) (others : List (List ℕ)) → ws ≡ topology_word t ∷ others → ⊥) → Fault ws
    go [] wrong = inr (omega (arith, length-append front []), λ p h. let b = is.behind [] p h in wrong b.t b.others b.spelt)
    go (y ∷ ws) wrong = inl (
      omega (arith, length-append front (y ∷ ws)),
      λ (more, p, h).
          let longer : 1 + length front ≡ length front + 1 = omega arith in
          let first : take (1 + length front) (front ++ y ∷ ws) ++ more ≡ front ++ (y ∷ more) =
          ap (λ n. take n (front ++ y ∷ ws) ++ more) longer ∙ ap (λ us. us ++ more) (take-append-add front (y ∷ ws) 1) ∙ append_assoc front (y ∷ []) more in
          let b = is.behind (y ∷ more) p (subst (λ us. PlanOf us p) first h) in
          wrong b.t ws (let spelt = b.spelt in cc),
    )

-- a word behind the cluster that sets nothing, or what one before it does
fault-setting : (command : Command) (front : List (List ℕ)) → IsFront command front → (t : Topology) (others : List (List ℕ)) (k : ℕ) → FirstUnset command others (k - 1) → FirstFault (front ++ topology_word t ∷ others) (k + length front)
fault-setting command front is t others k f =
    let words = topology_word t ∷ others in
    let upto : k + length front - 1 ≡ length front + suc (k - 1 - 1) = omega (arith, f.numbered) in
    let with_it : k + length front ≡ length front + suc (k - 1) = omega (arith, f.numbered) in
    let (p, asked) = is.asks t (take (k - 1 - 1) others) f.before in
    record {
      numbered = omega (arith, f.numbered);
      before = subst BeginsPlan (sym (ap (λ n. take n (front ++ words)) upto ∙ take-append-add front words (suc (k - 1 - 1)))) ([], p, subst (λ ws. PlanOf ws p) (sym (append-nil (front ++ topology_word t ∷ take (k - 1 - 1) others))) asked);
      fault = inl (
        omega (arith, f.numbered, f.within, length-append front words),
        λ (more, p, h).
            let first : take (k + length front) (front ++ words) ++ more ≡ front ++ (topology_word t ∷ (take (k - 1) others ++ more)) =
            ap (λ n. take n (front ++ words) ++ more) with_it ∙ ap (λ ws. ws ++ more) (take-append-add front words (suc (k - 1))) ∙ append_assoc front (topology_word t ∷ take (k - 1) others) more in
            let b = is.behind (topology_word t ∷ (take (k - 1) others ++ more)) p (subst (λ ws. PlanOf ws p) first h) in
            let (settings, are) = b.some in
            let same : b.others ≡ take (k - 1) others ++ more = let spelt = b.spelt in cc in
            f.fault (take (length (take (k - 1) others)) settings, AreSettings-before command (take (k - 1) others) more settings (subst (λ ws. AreSettings command ws settings) same are)),
      );
    }

-- the first faulty word behind them
pub fault-front : (command : Command) (front : List (List ℕ)) → IsFront command front → (words : List (List ℕ)) (k : ℕ) → FirstOutside command words k → FirstFault (front ++ words) (k + length front)
fault-front command front is words k f =
    elim f [
      | inl h ↦ subst (λ n. FirstFault (front ++ words) (n + length front)) (sym h.0) (fault-cluster command front is words h.1)
      | inr (t, others, spelt, unset) ↦ subst (λ ws. FirstFault (front ++ ws) (k + length front)) (sym spelt) (fault-setting command front is t others k unset)
    ]

-- `gen` with no word behind it, and with one that is no seed
begins_gen : BeginsPlan (codes "gen" ∷ [])
begins_gen = let (more, p, h) = begins ToGen (codes "gen" ∷ seed_word 0 ∷ []) (gen-front 0 (omega arith)) in (seed_word 0 ∷ more, p, h)

seed-second : (words : List (List ℕ)) (p : Plan) → PlanOf (codes "gen" ∷ words) p → (seed : ℕ) × (others : List (List ℕ)) × (seed < 2 ^ 64) × (words ≡ seed_word seed ∷ others)
seed-second words (Gen seed t limits steps threads) h = (seed, topology_word t ∷ h.others, h.seeded, let spelt = h.spelt in cc)
seed-second words p h = absurd (omega (arith, first-PlanOf (codes "gen" ∷ words) p h))

pub fault-gen_alone : FirstFault (codes "gen" ∷ []) 2
fault-gen_alone = record { numbered = omega arith; before = begins_gen; fault = inr (refl, λ p h. let (seed, others, small, spelt) = seed-second [] p h in cc spelt) }

pub fault-seed : (y : List ℕ) (words : List (List ℕ)) → ((n : ℕ) → n < 2 ^ 64 → y ≡ seed_word n → ⊥) → FirstFault (codes "gen" ∷ y ∷ words) 2
fault-seed y words none = record {
  numbered = omega arith;
  before = begins_gen;
  fault = inl (omega arith, λ (more, p, h). let (seed, others, small, spelt) = seed-second (y ∷ more) p h in none seed small (let is = spelt in cc));
}
