-- The first words, made from zeros and ones by storing one initial value after the other.
use Rattle.std.proofs.Common.{◌≡◌, ◌≢◌, append_assoc, append-nil, length-append, take, get_or, ℕ, zero, suc, ◌+◌, ◌-◌, ◌*◌, ◌<◌, ◌≤◌, ◌==◌, Bool, true, false, if◌then◌else◌, List, [], ◌∷◌, ◌++◌, length, map, replicate, refl, sym, ap, ◌∙◌, subst, arith}
use Rattle.std.specs.Prelude.{flat_map, slice_set, None}
use Rattle.std.specs.List.{range_with_len, AllPairs}
use Rattle.std.specs.List.Sorted.{IsStrictlyIncreasing}
use Rattle.std.proofs.lemmas.List.Kept.{AllPairs-from_increasing}
use Rattle.std.proofs.lemmas.Bool.{eq-eqb, eqb-true}
use Rattle.std.proofs.lemmas.List.{length-map, length-replicate, take_all, get_or-map}
use Rattle.std.proofs.lemmas.List.FromFn.{length-map-range_with_len}
use Rattle.dsm_words.specs.Place.{Lay, sizes, start, total}
use Rattle.dsm_protocol.specs.Own.{sizes_in}
use Rattle.dsm_runs.specs.Setups.{Setup, initial, frames_of, first_words}

-- a further value shows at its address, where none was given for it before, and nowhere else
initial-other : (init : List (ℕ × ℕ)) (x : ℕ × ℕ) (w : ℕ) → w ≢ x.0 → initial (init ++ x ∷ []) w ≡ initial init w
initial-other [] x w ne = go (x.0 == w) refl
  where
    go : (b : Bool) → (x.0 == w) ≡ b → (if b then x.1 else 0) ≡ 0
    go true e = absurd (ne (sym (eqb-true x.0 w e)))
    go false e = refl
initial-other (y ∷ init) x w ne = ap (λ v. if y.0 == w then y.1 else v) (initial-other init x w ne)

abbrev NotGiven : List (ℕ × ℕ) → ℕ → Type 0
NotGiven [] w = Unit {0}
NotGiven (y ∷ init) w = (y.0 ≢ w) × NotGiven init w

initial-here : (init : List (ℕ × ℕ)) (x : ℕ × ℕ) → NotGiven init x.0 → initial (init ++ x ∷ []) x.0 ≡ x.1
initial-here [] x new = rw (eq-eqb x.0 x.0 refl) refl
initial-here (y ∷ init) x new = go (y.0 == x.0) refl (initial-here init x new.1)
  where
    go : (b : Bool) → (y.0 == x.0) ≡ b → initial (init ++ x ∷ []) x.0 ≡ x.1 → (if b then y.1 else initial (init ++ x ∷ []) x.0) ≡ x.1
    go true e later = absurd (new.0 (eqb-true y.0 x.0 e))
    go false e later = later

-- addresses that ascend strictly are given once
not_given : (init : List (ℕ × ℕ)) (i : ℕ) → AllPairs (λ x y. x < y) (map (λ w. w.0) init) → i < length init → NotGiven (take i init) (get_or init i (0, 0)).0
not_given [] i apart inside = absurd (omega (arith, inside))
not_given (y ∷ init) zero apart inside = tt
not_given (y ∷ init) (suc i) apart inside =
    let long : length (map (λ w. w.0) init) ≡ length init = length-map init (λ (w : ℕ × ℕ). w.0) in
    let below : y.0 < get_or (map (λ w. w.0) init) i 0 = apart 0 (suc i) 0 (omega arith) (omega (arith, long, inside)) in
    let is : get_or (map (λ w. w.0) init) i 0 ≡ (get_or init i (0, 0)).0 = get_or-map (λ (w : ℕ × ℕ). w.0) init i (0, 0) 0 (omega (arith, inside)) in
    (λ e. absurd (omega (arith, below, is, e)), not_given init i (λ j k d before within. apart (suc j) (suc k) d (omega (arith, before)) (omega (arith, within))) (omega (arith, inside)))

pub not_given_before : (init : List (ℕ × ℕ)) (i : ℕ) → IsStrictlyIncreasing (map (λ w. w.0) init) → i < length init → NotGiven (take i init) (get_or init i (0, 0)).0
not_given_before init i ascends inside = not_given init i (AllPairs-from_increasing (map (λ w. w.0) init) ascends) inside

-- what is made of a range of numbers, and of what is made of another function that differs at one number alone
map-same : {X : Type 0} (f g : ℕ → X) (a n : ℕ) → ((w : ℕ) → f w ≡ g w) → map f (range_with_len a n) ≡ map g (range_with_len a n)
map-same f g a n same = λ i. map (λ w. same w i) (range_with_len a n)

set-map : (f g : ℕ → ℕ) (a n k : ℕ) → k < n → ((w : ℕ) → w ≢ a + k → f w ≡ g w) → slice_set (map f (range_with_len a n)) k (g (a + k)) ≡ map g (range_with_len a n)
set-map f g a zero k inside other = absurd (omega (arith, inside))
set-map f g a (suc n) zero inside other =
    let at : a + 0 ≡ a = omega arith in
    rw at (ap (λ l. g a ∷ l) (behind (a + 1) n (omega arith)))
  where
    behind : (b m : ℕ) → a < b → map f (range_with_len b m) ≡ map g (range_with_len b m)
    behind b zero h = refl
    behind b (suc m) h = rw (other b (λ e. absurd (omega (arith, e, h)))) (ap (λ l. g b ∷ l) (behind (b + 1) m (omega (arith, h))))
set-map f g a (suc n) (suc k) inside other =
    let at : a + suc k ≡ a + 1 + k = omega arith in
    let first : f a ≡ g a = other a (λ e. absurd (omega (arith, e))) in
    rw (first, at) (ap (λ l. g a ∷ l) (set-map f g (a + 1) n k (omega (arith, inside)) (λ w ne. other w (λ e. ne (omega (arith, e))))))

-- the words at the start of a layout with these values, whatever the code and the limits
abbrev pub setup_at : Lay → List (ℕ × ℕ) → Setup
setup_at l init = record { program = record { shape = sizes_in l; init = init; code = [] }; nodes = l.nodes; procs = l.procs; limits = record { turns = 0; looks = None } }

abbrev pub words_at : Lay → List (ℕ × ℕ) → List ℕ
words_at l init = first_words (setup_at l init)

-- the frames of one node, from zeros on
pub no_value : (l : Lay) → replicate (l.pages * l.words) 0 ≡ frames_of l []
no_value l = go (l.pages * l.words) 0
  where
    go : (n a : ℕ) → replicate n 0 ≡ map (λ w. initial [] w) (range_with_len a n)
    go zero a = refl
    go (suc n) a = ap (λ ws. 0 ∷ ws) (go n (a + 1))

-- a further value is stored at its address
pub stored : (l : Lay) (init : List (ℕ × ℕ)) (x : ℕ × ℕ) → x.0 < l.pages * l.words → NotGiven init x.0 → slice_set (frames_of l init) x.0 x.1 ≡ frames_of l (init ++ x ∷ [])
stored l init x inside new =
    let more = init ++ x ∷ [] in
    let address : 0 + x.0 ≡ x.0 = omega arith in
    let is : initial more (0 + x.0) ≡ x.1 = ap (initial more) address ∙ initial-here init x new in
    subst (λ v. slice_set (frames_of l init) x.0 v ≡ frames_of l more) is
    (set-map (initial init) (initial more) 0 (l.pages * l.words) x.0 inside (λ w ne. sym (initial-other init x w (λ e. ne (e ∙ sym address)))))

-- one node's frames behind those of the others
pub frames_more : (frames : List ℕ) (n a : ℕ) → flat_map (λ m. frames) (range_with_len a n) ++ frames ≡ flat_map (λ m. frames) (range_with_len a (n + 1))
frames_more frames zero a = sym (append-nil frames)
frames_more frames (suc n) a =
    let more : suc (n + 1) ≡ suc n + 1 = omega arith in
    append_assoc frames (flat_map (λ m. frames) (range_with_len (a + 1) n)) frames
    ∙ ap (λ ws. frames ++ ws) (frames_more frames n (a + 1))
    ∙ ap (λ k. flat_map (λ m. frames) (range_with_len a k)) more

length-copies : (frames : List ℕ) (n a : ℕ) → length (flat_map (λ m. frames) (range_with_len a n)) ≡ n * length frames
length-copies frames zero a = omega arith
length-copies frames (suc n) a = length-append frames (flat_map (λ m. frames) (range_with_len (a + 1) n)) ∙ grind (arith, length-copies frames n (a + 1))

module _ (l : Lay) (init : List (ℕ × ℕ)) where
  abbrev gap : ℕ
  gap = start (sizes l) 9 - start (sizes l) 2

  abbrev rest : ℕ
  rest = total l - start (sizes l) 10

  -- the stop word and all frames
  abbrev shown : List ℕ
  shown = 0 ∷ flat_map (λ n. frames_of l init) (range_with_len 0 l.nodes)

  length-shown : length shown ≡ start (sizes l) 2
  length-shown =
      let one : length (frames_of l init) ≡ l.pages * l.words = length-map-range_with_len (initial init) 0 (l.pages * l.words) in
      grind (arith, one, length-copies (frames_of l init) l.nodes 0)

  -- a list that is filled up three times: zeros up to the clocks, ones up to the turns, and zeros up to the end
  pub filled : (a b c : ℕ) (w0 w1 w2 w3 : List ℕ) (l0 l1 l2 : ℕ) → a ≡ start (sizes l) 9 → b ≡ start (sizes l) 10 → c ≡ total l → w0 ≡ shown → l0 ≡ length w0 → l1 ≡ a → l2 ≡ b
      → w1 ≡ take a w0 ++ replicate (a - l0) 0 → w2 ≡ take b w1 ++ replicate (b - l1) 1 → w3 ≡ take c w2 ++ replicate (c - l2) 0 → w3 ≡ words_at l init
  filled a b c w0 w1 w2 w3 l0 l1 l2 is_a is_b is_c e0 k0 k1 k2 e1 e2 e3 =
      let known : length w0 ≡ start (sizes l) 2 = ap length e0 ∙ length-shown in
      let fits : length w0 ≤ a = omega (arith, known, is_a) in
      let g : a - l0 ≡ gap = omega (arith, known, k0, is_a) in
      let m : b - l1 ≡ l.nodes = omega (arith, k1, is_a, is_b) in
      let r : c - l2 ≡ rest = omega (arith, k2, is_b, is_c) in
      let f1 : w1 ≡ shown ++ replicate gap 0 = e1 ∙ rw (take_all a w0 fits, e0, g) refl in
      let n1 : length w1 ≡ a = rw f1 (length-append shown (replicate gap 0) ∙ omega (arith, length-replicate {A = ℕ} gap 0, length-shown, is_a)) in
      let f2 : w2 ≡ w1 ++ replicate l.nodes 1 = e2 ∙ rw (take_all b w1 (omega (arith, n1, is_a, is_b)), m) refl in
      let n2 : length w2 ≡ b = rw f2 (length-append w1 (replicate l.nodes 1) ∙ omega (arith, length-replicate {A = ℕ} l.nodes 1, n1, is_a, is_b)) in
      let f3 : w3 ≡ w2 ++ replicate rest 0 = e3 ∙ rw (take_all c w2 (omega (arith, n2, is_b, is_c)), r) refl in
      f3
      ∙ rw (f2, f1) (append_assoc (shown ++ replicate gap 0) (replicate l.nodes 1) (replicate rest 0) ∙ append_assoc shown (replicate gap 0) (replicate l.nodes 1 ++ replicate rest 0))
