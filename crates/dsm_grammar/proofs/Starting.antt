-- Initial words, one by one.
use Rattle.std.proofs.Common.{◌≡◌, ℕ, zero, suc, ◌+◌, ◌*◌, ◌<◌, ◌≤◌, Bool, true, false, cond, ltb, eqb, List, [], ◌∷◌, map, length, get_or, refl, sym, subst, add-one, arith}
use Rattle.std.specs.List.{All}
use Rattle.std.proofs.lemmas.List.Elements.{All-nil, All-cons}
use Rattle.dsm_isa.specs.ProgramText.{Sizes}
use Rattle.dsm_isa.specs.Rules.{IsInitial}
use Rattle.dsm_grammar.specs.Settings.{starts_before, starts_as}

-- the addresses ascend strictly from `least` on and are below `size`, and no value is 0
abbrev pub Ascend : ℕ → ℕ → List (ℕ × ℕ) → Type 0
Ascend least size [] = Unit {0}
Ascend least size (word ∷ init) = (least ≤ word.0) × (word.0 < size) × (0 < word.1) × Ascend (word.0 + 1) size init

Ascend-lower : (low least size : ℕ) (init : List (ℕ × ℕ)) → low ≤ least → Ascend least size init → Ascend low size init
Ascend-lower low least size [] le up = tt
Ascend-lower low least size (word ∷ init) le up = (omega arith, up.1, up.2, up.3)

Ascend-test : (least size address value : ℕ) (init : List (ℕ × ℕ)) (none : Bool) → eqb value 0 ≡ none → least ≤ address → address < size → Ascend (address + 1) size init → Ascend least size (cond none init ((address, value) ∷ init))
Ascend-test least size address value init true none from below up = Ascend-lower least (address + 1) size init (omega arith) up
Ascend-test least size address value init false none from below up = (from, below, grind (arith), up)

Ascend-starts_before : (least size address value : ℕ) (init : List (ℕ × ℕ)) → least ≤ address → address < size → Ascend (address + 1) size init → Ascend least size (starts_before address value init)
Ascend-starts_before least size address value init from below up = Ascend-test least size address value init (eqb value 0) refl from below up

Ascend-word : (least size address value : ℕ) (word : ℕ × ℕ) (init : List (ℕ × ℕ)) (smaller same : Bool) → ltb word.0 address ≡ smaller → eqb word.0 address ≡ same → least ≤ address → address < size → Ascend least size (word ∷ init) → (word.0 + 1 ≤ address → Ascend (word.0 + 1) size (starts_as address value init)) → Ascend least size (cond smaller (word ∷ starts_as address value init) (cond same (starts_before address value init) (starts_before address value (word ∷ init))))
Ascend-word least size address value word init true same less is from below up later = (up.0, up.1, up.2, later (grind (arith)))
Ascend-word least size address value word init false true less is from below up later =
    let equal : word.0 ≡ address = grind (arith) in
    Ascend-starts_before least size address value init from below (subst (λ a. Ascend (a + 1) size init) equal up.3)
Ascend-word least size address value word init false false less is from below up later =
    let above : address + 1 ≤ word.0 = grind (arith) in
    Ascend-starts_before least size address value (word ∷ init) from below (above, up.1, up.2, up.3)

-- one initial word more
pub Ascend-starts_as : (least size address value : ℕ) (init : List (ℕ × ℕ)) → least ≤ address → address < size → Ascend least size init → Ascend least size (starts_as address value init)
Ascend-starts_as least size address value [] from below up = Ascend-starts_before least size address value [] from below tt
Ascend-starts_as least size address value (word ∷ init) from below up =
    Ascend-word least size address value word init (ltb word.0 address) (eqb word.0 address) refl refl from below up
    (λ less. Ascend-starts_as (word.0 + 1) size address value init less below up.3)

-- that is what a program's initial words keep
increasing : (least size : ℕ) (init : List (ℕ × ℕ)) → Ascend least size init → (k : ℕ) → k + 1 < length (map (λ w. w.0) init) → get_or (map (λ w. w.0) init) k 0 < get_or (map (λ w. w.0) init) (k + 1) 0
increasing least size [] up k within = absurd (omega arith)
increasing least size (word ∷ []) up zero within = absurd (omega arith)
increasing least size (word ∷ next ∷ init) up zero within = let rises = up.3.0 in omega arith
increasing least size (word ∷ init) up (suc k) within =
    let shorter : k + 1 < length (map (λ w. w.0) init) = omega arith in
    subst (λ n. get_or (map (λ w. w.0) init) k 0 < get_or (word.0 ∷ map (λ w. w.0) init) n 0) (sym (add-one (suc k))) (subst (λ n. get_or (map (λ w. w.0) init) k 0 < get_or (map (λ w. w.0) init) n 0) (add-one k) (increasing (word.0 + 1) size init up.3 k shorter))

below : (least size : ℕ) (init : List (ℕ × ℕ)) → Ascend least size init → All (λ w. (w.0 < size) × (0 < w.1)) init
below least size [] up = All-nil (λ (w : ℕ × ℕ). (w.0 < size) × (0 < w.1))
below least size (word ∷ init) up = All-cons (λ (w : ℕ × ℕ). (w.0 < size) × (0 < w.1)) word init (up.1, up.2) (below (word.0 + 1) size init up.3)

pub IsInitial-from_ascent : (s : Sizes) (init : List (ℕ × ℕ)) → Ascend 0 (s.pages * s.words) init → IsInitial s init
IsInitial-from_ascent s init up = (increasing 0 (s.pages * s.words) init up, below 0 (s.pages * s.words) init up)
