-- The lines of the pages, one more at a time.
use Rattle.std.proofs.Common.{◌≡◌, ℕ, zero, suc, ◌+◌, List, [], ◌∷◌, ◌++◌, flat_map, append-nil, append_assoc, add-one, arith, sym, ap, ◌∙◌}
use Rattle.std.specs.List.{range_with_len}
use Rattle.std.proofs.lemmas.Grind.{flat_map-append}

range-suc : (a n b : ℕ) → b ≡ a + n → range_with_len a (suc n) ≡ range_with_len a n ++ b ∷ []
range-suc a zero b same = ap (λ x. x ∷ []) (omega (arith, same))
range-suc a (suc n) b same = ap (λ l. a ∷ l) (range-suc (a + 1) n b (omega (arith, same)))

range-more : (n : ℕ) → range_with_len 0 (n + 1) ≡ range_with_len 0 n ++ n ∷ []
range-more n = rw add-one (range-suc 0 n n (omega arith))

pub lines-more : (f : ℕ → List ℕ) (front : List ℕ) (g : ℕ) → (front ++ flat_map f (range_with_len 0 g)) ++ f g ≡ front ++ flat_map f (range_with_len 0 (g + 1))
lines-more f front g =
    let more : flat_map f (range_with_len 0 (g + 1)) ≡ flat_map f (range_with_len 0 g) ++ f g =
    ap (flat_map f) (range-more g) ∙ flat_map-append f (range_with_len 0 g) (g ∷ []) ∙ ap (λ l. flat_map f (range_with_len 0 g) ++ l) (append-nil (f g)) in
    append_assoc front (flat_map f (range_with_len 0 g)) (f g) ∙ ap (λ l. front ++ l) (sym more)
