-- A piece of a list that was moved to the front of a buffer.
use Rattle.std.proofs.Common.{◌≡◌, ℕ, ◌+◌, ◌≤◌, List, ◌++◌, sym, ap, ◌∙◌, arith, length, take, drop, length-drop, take-append-drop}
use Rattle.std.proofs.Math.Seq.{take-append_seam}
use Rattle.std.proofs.lemmas.List.{drop-drop, length-take-le}

-- The piece, and what stands behind it, are what stood there before.
pub drop-moved : (bytes others piece : List ℕ) (at k : ℕ) → at + k ≤ length bytes → piece ≡ take k (drop at bytes) → drop at bytes ≡ take k (piece ++ others) ++ drop (at + k) bytes
drop-moved bytes others piece at k fits moved =
    let len : length piece ≡ k = ap length moved ∙ length-take-le k (drop at bytes) (omega (arith, length-drop at bytes)) in
    let front : take k (piece ++ others) ≡ piece = ap (λ n. take n (piece ++ others)) (sym len) ∙ take-append_seam piece others in
    let cut : take k (drop at bytes) ++ drop k (drop at bytes) ≡ drop at bytes = take-append-drop k (drop at bytes) in
    sym cut ∙ ap (λ l. l ++ drop k (drop at bytes)) (sym (front ∙ moved)) ∙ ap (λ l. take k (piece ++ others) ++ l) (drop-drop k at bytes)
