-- Scripts made of scripts.
use Rattle.std.specs.Prelude.{ℕ, zero, suc, ◌+◌}
use Rattle.dsm_words.specs.Script.{Script, End, Do, Until}

-- the part of element i and of each one behind it, k in all, and then what follows
abbrev pub each : {R : Type 0} → (ℕ → Script R → Script R) → ℕ → ℕ → Script R → Script R
each part i zero s = s
each part i (suc k) s = part i (each part (i + 1) k s)

-- a script, and then the one that its result leads to
abbrev pub and_then : {A B : Type 0} → Script A → (A → Script B) → Script B
and_then (End r) f = f r
and_then (Do a k) f = Do a (λ x. and_then (k x) f)
and_then (Until a wanted s) f = Until a wanted (and_then s f)
