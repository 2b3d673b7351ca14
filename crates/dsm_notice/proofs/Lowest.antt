-- The lowest bit from one place on.
use Rattle.std.proofs.Common.{◌≡◌, ℕ, ◌+◌, ◌-◌, ◌/◌, ◌%◌, ◌^◌, ◌<◌, ◌≤◌, w64, sym, ap, ◌∙◌, arith}
use Rattle.std.proofs.lemmas.Nat.{shr-shr, shr_le}
use Rattle.std.proofs.lemmas.Nat.Bits.{bit_at-trailing_zeros, bit_at-zero}
use Rattle.std.specs.Int.{bit_at, trailing_zeros}
use Rattle.dsm_notice.specs.Finding.{HasGap}

moved : (bits from i : ℕ) → bit_at (bits / 2 ^ from) i ≡ bit_at bits (from + i)
moved bits from i = ap (λ x. x % 2) (shr-shr bits from i)

at : (bits from x : ℕ) → from ≤ x → bit_at bits x ≡ bit_at (bits / 2 ^ from) (x - from)
at bits from x h = let e : x ≡ from + (x - from) = omega arith in ap (λ y. bit_at bits y) e ∙ sym (moved bits from (x - from))

-- where a bit is set, the zeros before it are counted
pub lowest : (bits from b : ℕ) → bits < 2 ^ 64 → 0 < bits / 2 ^ from → b ≡ from + trailing_zeros w64 (bits / 2 ^ from) → (bit_at bits b ≡ 1) × HasGap bits from b
lowest bits from b small some e =
    let t = bit_at-trailing_zeros w64 (bits / 2 ^ from) some (omega (arith, shr_le bits from)) in
    (ap (λ y. bit_at bits y) e ∙ sym (moved bits from (trailing_zeros w64 (bits / 2 ^ from))) ∙ t.1, λ x p q. at bits from x p ∙ t.2 (x - from) (omega arith))

-- and where none is, none is
pub no_bits : (bits from to : ℕ) → bits / 2 ^ from ≡ 0 → HasGap bits from to
no_bits bits from to e x p q = at bits from x p ∙ (ap (λ y. bit_at y (x - from)) e ∙ bit_at-zero (x - from))
