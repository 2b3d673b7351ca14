-- The values of the words, and the words that do not start as 0.
use Rattle.std.proofs.Common.{◌≡◌, ℕ, zero, suc, ◌+◌, ◌<◌, Bool, true, false, cond, eqb, List, [], ◌∷◌, ◌++◌, length, get_or, take, set, replicate, refl, sym, subst, ap, ◌∙◌, zero-add, add-zero, arith}
use Rattle.std.proofs.lemmas.Bool.Decides.{nat_tests}
use Rattle.std.proofs.lemmas.Grind.{take_at_read}
use Rattle.std.proofs.lemmas.List.{length-take}
use Rattle.dsm_grammar.specs.Settings.{starts_before, starts_as}
use Rattle.dsm_asm.specs.Directives.{nonzero}

-- zeros are not kept
nonzero-replicate : (address n : ℕ) → nonzero address (replicate n 0) ≡ []
nonzero-replicate address zero = refl
nonzero-replicate address (suc n) = nonzero-replicate (address + 1) n

-- as many zeros as there are words, where there was none
pub nonzero-zeros : (n m : ℕ) (values : List ℕ) → length values ≡ 0 → nonzero 0 (take n values ++ replicate m 0) ≡ nonzero 0 values
nonzero-zeros zero m [] none = nonzero-replicate 0 m
nonzero-zeros (suc n) m [] none = nonzero-replicate 0 m
nonzero-zeros n m (value ∷ values) none = absurd (omega arith)

before-append : (none : Bool) (address value : ℕ) (init more : List (ℕ × ℕ)) → cond none (init ++ more) ((address, value) ∷ (init ++ more)) ≡ cond none init ((address, value) ∷ init) ++ more
before-append true address value init more = refl
before-append false address value init more = refl

-- one word more at the end
nonzero-push : (address value : ℕ) (values : List ℕ) → nonzero address (values ++ value ∷ []) ≡ nonzero address values ++ starts_before (address + length values) value []
nonzero-push address value [] = ap (λ a. starts_before a value []) (sym (add-zero address))
nonzero-push address value (first ∷ values) =
    let place : (address + 1) + length values ≡ address + length (first ∷ values) = omega arith in
    ap (starts_before address first) (nonzero-push (address + 1) value values)
    ∙ before-append (eqb first 0) address first (nonzero (address + 1) values) (starts_before ((address + 1) + length values) value [])
    ∙ ap (λ a. nonzero address (first ∷ values) ++ starts_before a value []) place

-- one word more of those from the first on
pub nonzero_next : (values : List ℕ) (k : ℕ) → k < length values → nonzero 0 (take (k + 1) values) ≡ nonzero 0 (take k values) ++ starts_before k (get_or values k 0) []
nonzero_next values k within =
    let place : 0 + length (take k values) ≡ k = omega (arith, length-take k values) in
    ap (nonzero 0) (take_at_read values k 0 within).1
    ∙ nonzero-push 0 (get_or values k 0) (take k values)
    ∙ ap (λ a. nonzero 0 (take k values) ++ starts_before a (get_or values k 0) []) place

-- a word before all others
above-by : (none : Bool) (address value here first : ℕ) (init : List (ℕ × ℕ)) → address < here → starts_as address value init ≡ starts_before address value init → starts_as address value (cond none init ((here, first) ∷ init)) ≡ starts_before address value (cond none init ((here, first) ∷ init))
above-by true address value here first init above later = later
above-by false address value here first init above later = grind (arith, nat_tests)

starts_as-above : (address value here : ℕ) (values : List ℕ) → address < here → starts_as address value (nonzero here values) ≡ starts_before address value (nonzero here values)
starts_as-above address value here [] above = refl
starts_as-above address value here (first ∷ values) above = above-by (eqb first 0) address value here first (nonzero (here + 1) values) above (starts_as-above address value (here + 1) values (omega arith))

-- a word in its own place
same-by : (none : Bool) (address value first : ℕ) (init : List (ℕ × ℕ)) → starts_as address value init ≡ starts_before address value init → starts_as address value (cond none init ((address, first) ∷ init)) ≡ starts_before address value init
same-by true address value first init later = later
same-by false address value first init later = grind (arith, nat_tests)

-- a word behind the first
behind-by : (none : Bool) (address value here first : ℕ) (init : List (ℕ × ℕ)) → here < address → starts_as address value (cond none init ((here, first) ∷ init)) ≡ cond none (starts_as address value init) ((here, first) ∷ starts_as address value init)
behind-by true address value here first init behind = refl
behind-by false address value here first init behind = grind (arith, nat_tests)

-- one value written
nonzero-set : (address k value : ℕ) (values : List ℕ) → k < length values → starts_as (address + k) value (nonzero address values) ≡ nonzero address (set values k value)
nonzero-set address k value [] within = absurd (omega arith)
nonzero-set address zero value (first ∷ values) within =
    ap (λ a. starts_as a value (nonzero address (first ∷ values))) (add-zero address)
    ∙ same-by (eqb first 0) address value first (nonzero (address + 1) values) (starts_as-above address value (address + 1) values (omega arith))
nonzero-set address (suc k) value (first ∷ values) within =
    let place : address + suc k ≡ (address + 1) + k = omega arith in
    ap (λ a. starts_as a value (nonzero address (first ∷ values))) place
    ∙ behind-by (eqb first 0) ((address + 1) + k) value address first (nonzero (address + 1) values) (omega arith)
    ∙ ap (starts_before address first) (nonzero-set (address + 1) k value values (omega arith))

-- a value written has its word start as it
pub nonzero-set_at : (k value : ℕ) (values : List ℕ) → k < length values → nonzero 0 (set values k value) ≡ starts_as k value (nonzero 0 values)
nonzero-set_at k value values within = sym (subst (λ a. starts_as a value (nonzero 0 values) ≡ nonzero 0 (set values k value)) (zero-add k) (nonzero-set 0 k value values within))
