-- The words of a command line ask for one plan at most.
use Rattle.std.proofs.Common.{◌≡◌, ◌≢◌, ◌↔◌, ℕ, suc, ◌<◌, ◌≤◌, ◌*◌, ◌^◌, Bool, IsTrue, if◌then◌else◌, List, [], ◌∷◌, ◌++◌, length, get_or, append_assoc, codes, decimal, map, All, refl, sym, ap, ◌∙◌, subst, arith}
use Rattle.std.proofs.lemmas.Fmt.{decimal_injective}
use Rattle.std.proofs.lemmas.List.Elements.{All-head, All-tail}
use mathlib.Core.HLevel.{is_prop→PathP}
use native.Mathlib.Bridge.{le_prop}
use Rattle.dsm_words.specs.declared.topology.Topology.{Topology}
use Rattle.dsm_protocol.specs.declared.limits.Limits.{Limits}
use Rattle.dsm_sched.specs.declared.kind.Kind.{Kind}
use Rattle.dsm_top.specs.declared.plans.KindWord.TheVariants.{Round, Mixed}
use Rattle.dsm_top.specs.declared.plans.Plan.{Plan}
use Rattle.dsm_top.specs.declared.plans.Plan.TheVariants.{Check, List as Listing, Sim, Run, Gen}
use Rattle.dsm_top.specs.declared.plans.Setting.{Setting}
use Rattle.dsm_top.specs.declared.plans.Setting.TheVariants.{Kind as OfKind, Seed, Turns, Looks, Steps, Trace, Threads}
use Rattle.dsm_top.specs.Plans.{topology_word, seed_word, word_of, IsInRange, limits_in, endless_in, steps_in, AskForSim, AskForRun, AskForGen, AskForOnePlan, PlanOf, runs_by_threads}
use Rattle.dsm_top.proofs.Spelling.{no_x, one_behind}
use Rattle.dsm_top.proofs.Words.{first-PlanOf, simulation_of, threaded_of, generation_of}

-- a cluster is given by its two numbers
same_topology : (s t : Topology) → s.nodes ≡ t.nodes → s.procs ≡ t.procs → s ≡ t
same_topology s t n p = λ i. record {
  nodes = n i;
  procs = p i;
  some_nodes = is_prop→PathP (λ j. 0 < n j) (λ j. le_prop) s.some_nodes t.some_nodes i;
  most_nodes = is_prop→PathP (λ j. n j ≤ 8) (λ j. le_prop) s.most_nodes t.most_nodes i;
  some_procs = is_prop→PathP (λ j. 0 < p j) (λ j. le_prop) s.some_procs t.some_procs i;
  most_procs = is_prop→PathP (λ j. p j ≤ 8) (λ j. le_prop) s.most_procs t.most_procs i;
  most_all = is_prop→PathP (λ j. n j * p j ≤ 32) (λ j. le_prop) s.most_all t.most_all i;
}

-- a list is cut in one way at the first x
abbrev IsFree : List ℕ → Type 0
IsFree xs = (i : ℕ) → i < length xs → get_or xs i 0 ≢ 120

cut_once : (xs us ys vs : List ℕ) → IsFree xs → IsFree us → xs ++ (120 ∷ ys) ≡ us ++ (120 ∷ vs) → (xs ≡ us) × (ys ≡ vs)
cut_once [] [] ys vs free clear same = (refl, cc)
cut_once [] (u ∷ us) ys vs free clear same = absurd (clear 0 (omega arith) (cc))
cut_once (x ∷ xs) [] ys vs free clear same = absurd (free 0 (omega arith) (cc))
cut_once (x ∷ xs) (u ∷ us) ys vs free clear same =
    let first : x ≡ u = cc in
    let others : xs ++ (120 ∷ ys) ≡ us ++ (120 ∷ vs) = cc in
    let (front, behind) = cut_once xs us ys vs (λ i inside. free (suc i) (omega arith)) (λ i inside. clear (suc i) (omega arith)) others in
    (cc (first, front), behind)

topology-word_injective : (s t : Topology) → topology_word s ≡ topology_word t → s ≡ t
topology-word_injective s t same =
    let whole = sym (append_assoc (decimal s.nodes) (codes "x") (decimal s.procs)) ∙ same ∙ append_assoc (decimal t.nodes) (codes "x") (decimal t.procs) in
    let halves = cut_once (decimal s.nodes) (decimal t.nodes) (decimal s.procs) (decimal t.procs) (no_x s.nodes (omega (arith, s.most_nodes))) (no_x t.nodes (omega (arith, t.most_nodes))) whole in
    same_topology s t
    (decimal_injective s.nodes t.nodes (omega (arith, s.most_nodes)) (omega (arith, t.most_nodes)) halves.0)
    (decimal_injective s.procs t.procs (omega (arith, s.most_procs)) (omega (arith, t.most_procs)) halves.1)

same_number : (name : List ℕ) (m n : ℕ) → m < 2 ^ 64 → n < 2 ^ 64 → name ++ decimal m ≡ name ++ decimal n → m ≡ n
same_number name m n small less same = one_behind (name ++ decimal m) name m n small less refl same

-- the second byte of a setting's word tells what it sets
abbrev second_byte : Setting → ℕ
second_byte (OfKind kind) = 105
second_byte (Seed n) = 101
second_byte (Turns n) = 117
second_byte (Looks n) = 111
second_byte (Steps n) = 116
second_byte Trace = 114
second_byte Threads = 104

second-word : (s : Setting) → get_or (word_of s) 1 0 ≡ second_byte s
second-word (OfKind kind) = refl
second-word (Seed n) = refl
second-word (Turns n) = refl
second-word (Looks n) = refl
second-word (Steps n) = refl
second-word Trace = refl
second-word Threads = refl

same_second : (a b : Setting) → word_of a ≡ word_of b → second_byte a ≡ second_byte b
same_second a b same = sym (second-word a) ∙ ap (λ w. get_or w 1 0) same ∙ second-word b

-- the first byte behind `kind=` tells which kind
same_sixth : (a b : Setting) → word_of a ≡ word_of b → get_or (word_of a) 5 0 ≡ get_or (word_of b) 5 0
same_sixth a b same = ap (λ w. get_or w 5 0) same

-- and a setting is given by its word
word-injective : (a b : Setting) → IsInRange a → IsInRange b → word_of a ≡ word_of b → a ≡ b
word-injective (OfKind Round) (OfKind Round) within inside same = refl
word-injective (OfKind Mixed) (OfKind Mixed) within inside same = refl
word-injective (OfKind Round) (OfKind Mixed) within inside same = absurd (omega (arith, same_sixth (OfKind Round) (OfKind Mixed) same))
word-injective (OfKind Mixed) (OfKind Round) within inside same = absurd (omega (arith, same_sixth (OfKind Mixed) (OfKind Round) same))
word-injective (Seed m) (Seed n) within inside same = ap Seed (same_number (codes "seed" ++ codes "=") m n within inside same)
word-injective (Turns m) (Turns n) within inside same = ap Turns (same_number (codes "turns" ++ codes "=") m n (omega (arith, within)) (omega (arith, inside)) same)
word-injective (Looks m) (Looks n) within inside same = ap Looks (same_number (codes "looks" ++ codes "=") m n (omega (arith, within)) (omega (arith, inside)) same)
word-injective (Steps m) (Steps n) within inside same = ap Steps (same_number (codes "steps" ++ codes "=") m n (omega (arith, within)) (omega (arith, inside)) same)
word-injective Trace Trace within inside same = refl
word-injective Threads Threads within inside same = refl
word-injective a b within inside same = absurd (omega (arith, same_second a b same))

words-injective : (xs ys : List Setting) → All IsInRange xs → All IsInRange ys → map word_of xs ≡ map word_of ys → xs ≡ ys
words-injective [] [] within inside same = refl
words-injective [] (y ∷ ys) within inside same = absurd (cc)
words-injective (x ∷ xs) [] within inside same = absurd (cc)
words-injective (x ∷ xs) (y ∷ ys) within inside same =
    let first : word_of x ≡ word_of y = cc in
    let others : map word_of xs ≡ map word_of ys = cc in
    let head = word-injective x y (All-head IsInRange x xs within) (All-head IsInRange y ys inside) first in
    let tail = words-injective xs ys (All-tail IsInRange x xs within) (All-tail IsInRange y ys inside) others in
    cc (head, tail)

-- a plan to simulate is that of its topology and its settings
simulation : (words : List (List ℕ)) (t : Topology) (limits : Limits) (kind : Kind) (steps : ℕ) (trace : Bool) (h : AskForSim words t limits kind steps trace) → Sim t limits kind steps trace ≡ simulation_of t h.settings
simulation words t limits kind steps trace h = let a = h.given_limits in let b = h.given_kind in let c = h.given_steps in let d = h.given_trace in cc

-- so is one to run threads
threaded : (words : List (List ℕ)) (t : Topology) (limits : Limits) (trace : Bool) (h : AskForRun words t limits trace) → Run t limits trace ≡ threaded_of t h.settings
threaded words t limits trace h = let a = h.given_limits in let b = h.given_trace in cc

-- and a plan to generate is that of its seed, its topology and its settings
generation : (words : List (List ℕ)) (seed : ℕ) (t : Topology) (limits : Limits) (steps : ℕ) (threads : Bool) (h : AskForGen words seed t limits steps threads) → Gen seed t limits steps threads ≡ generation_of seed t h.settings
generation words seed t limits steps threads h =
    ap (λ l. Gen seed t l steps threads) h.given_limits
    ∙ ap (λ k. Gen seed t (if threads then endless_in h.settings else limits_in h.settings) k threads) h.given_steps
    ∙ ap (λ b. Gen seed t (if b then endless_in h.settings else limits_in h.settings) (steps_in h.settings) b) h.given_threads

pub one_plan : AskForOnePlan
one_plan words Check Check one other = refl
one_plan words Listing Listing one other = refl
one_plan words (Sim s limits kind steps trace) (Sim t limits' kind' steps' trace') one other =
    let both : codes "sim" ∷ topology_word s ∷ one.others ≡ codes "sim" ∷ topology_word t ∷ other.others = sym one.spelt ∙ other.spelt in
    let second : topology_word s ≡ topology_word t = cc in
    let rest : one.others ≡ other.others = cc in
    let cluster = topology-word_injective s t second in
    let settings = words-injective one.settings other.settings one.set.in_range other.set.in_range (sym one.set.spelt ∙ rest ∙ other.set.spelt) in
    simulation words s limits kind steps trace one ∙ ap (λ u. simulation_of u one.settings) cluster ∙ ap (simulation_of t) settings ∙ sym (simulation words t limits' kind' steps' trace' other)
one_plan words (Run s limits trace) (Run t limits' trace') one other =
    let both : codes "run" ∷ topology_word s ∷ one.others ≡ codes "run" ∷ topology_word t ∷ other.others = sym one.spelt ∙ other.spelt in
    let second : topology_word s ≡ topology_word t = cc in
    let rest : one.others ≡ other.others = cc in
    let cluster = topology-word_injective s t second in
    let settings = words-injective one.settings other.settings one.set.in_range other.set.in_range (sym one.set.spelt ∙ rest ∙ other.set.spelt) in
    threaded words s limits trace one ∙ ap (λ u. threaded_of u one.settings) cluster ∙ ap (threaded_of t) settings ∙ sym (threaded words t limits' trace' other)
one_plan words (Gen m s limits steps threads) (Gen n t limits' steps' threads') one other =
    let both : codes "gen" ∷ seed_word m ∷ topology_word s ∷ one.others ≡ codes "gen" ∷ seed_word n ∷ topology_word t ∷ other.others = sym one.spelt ∙ other.spelt in
    let second : seed_word m ≡ seed_word n = cc in
    let third : topology_word s ≡ topology_word t = cc in
    let rest : one.others ≡ other.others = cc in
    let seed = same_number (codes "seed=") m n one.seeded other.seeded second in
    let cluster = topology-word_injective s t third in
    let settings = words-injective one.settings other.settings one.set.in_range other.set.in_range (sym one.set.spelt ∙ rest ∙ other.set.spelt) in
    generation words m s limits steps threads one ∙ ap (λ k. generation_of k s one.settings) seed ∙ ap (λ u. generation_of n u one.settings) cluster ∙ ap (generation_of n t) settings
    ∙ sym (generation words n t limits' steps' threads' other)
one_plan words p q one other = absurd (omega (arith, first-PlanOf words p one, first-PlanOf words q other))

-- so their plan tells whether they ask to run threads
pub by_plan : (words : List (List ℕ)) (p : Plan) → PlanOf words p → (b : Bool) → b ≡ runs_by_threads p → IsTrue b ↔ ((q : Plan) × PlanOf words q × IsTrue (runs_by_threads q))
by_plan words p asked b is = (λ so. (p, asked, subst IsTrue is so), λ (q, other, so). subst IsTrue (sym (is ∙ ap runs_by_threads (one_plan words p q asked other))) so)
