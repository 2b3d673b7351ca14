-- Lemmas on jumps.
use Rattle.std.proofs.Common.{◌≡◌, ℕ, ◌<◌, ◌≤◌, List, length, get_or, Option, None, Some, IfSome, IsSomeAnd, ap, sym, refl, subst, ⊎_elim}
use Rattle.std.proofs.lemmas.Option.{slice_get_read, slice_get_past}
use Rattle.std.proofs.lemmas.Bool.{cases_lt}
use Rattle.std.specs.Option.{option_and_then}
use Rattle.dsm_isa.specs.declared.instr.Instr.{Instr}
use Rattle.dsm_isa.specs.Jumps.{target_of, target_at, JumpsInside, IsBadJump}

-- the place behind a read of the list
pub target_at_read : (code : List Instr) (at : ℕ) (x : Instr) → at < length code → x ≡ get_or code at x → target_at code at ≡ target_of x
target_at_read code at x lt e = ap (option_and_then target_of) (slice_get_read code (length code) at x refl lt e)

-- the same for one that is not bad
pub not_bad_read : (code : List Instr) (at : ℕ) (x : Instr) → at < length code → x ≡ get_or code at x → (IsSomeAnd (target_of x) (λ to. length code < to) → ⊥) → ¬ IsBadJump code at
not_bad_read code at x lt e h b = h (subst (λ (o : Option ℕ). IsSomeAnd o (λ to. length code < to)) (target_at_read code at x lt e) b)

-- a target that is not above n is at most n
within : (o : Option ℕ) (n : ℕ) → (IsSomeAnd o (λ to. n < to) → ⊥) → IfSome o (λ to. to ≤ n)
within None n h = tt
within (Some x) n h = ⊎_elim (λ (l : n < x). absurd (h l)) (λ l. l) (cases_lt n x)

-- there is no target past the end
past : (code : List Instr) (at : ℕ) → length code ≤ at → IfSome (target_at code at) (λ to. to ≤ length code)
past code at l = subst (λ (o : Option Instr). IfSome (option_and_then target_of o) (λ to. to ≤ length code)) (sym (slice_get_past code at l)) tt

-- no jump of the list is bad
pub inside : (code : List Instr) → ((k : ℕ) → k < length code → ¬ IsBadJump code k) → JumpsInside code
inside code h at = ⊎_elim (λ (l : at < length code). within (target_at code at) (length code) (h at l)) (λ l. past code at l) (cases_lt at (length code))
