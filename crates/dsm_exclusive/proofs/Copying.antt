-- A copy, and what it leads to, in front of the rest.
use Rattle.std.proofs.Common.{◌≡◌, ℕ, true, ap, ◌∙◌}
use Rattle.dsm_words.specs.Script.{Script, End, is_open, step}
use Rattle.dsm_words.specs.Parts.{and_then}
use Rattle.dsm_words.proofs.Parts.{step-and_then, is_open-and_then}

-- the copy and its time
pub copy_step : (s : Script (Unit {0})) (t x : ℕ) → is_open s ≡ true → step (and_then s (λ _. End t)) x ≡ and_then (step s x) (λ _. End t)
copy_step s t x h = step-and_then s (λ _. End t) x h

pub whole_step : (s : Script (Unit {0})) (t x : ℕ) (f : ℕ → Script (Unit {0})) → is_open s ≡ true → step (and_then (and_then s (λ _. End t)) f) x ≡ and_then (and_then (step s x) (λ _. End t)) f
whole_step s t x f h = step-and_then (and_then s (λ _. End t)) f x (is_open-and_then s (λ _. End t) h) ∙ ap (λ y. and_then y f) (copy_step s t x h)
