-- What stands behind a place of a list.
use Rattle.std.proofs.Common.{◌≡◌, ◌-◌, ◌≤◌, ℕ, List, length, take, drop, arith}
use Rattle.std.proofs.lemmas.List.{length-drop, take_all}

pub all_behind : {X : Type 0} (xs : List X) (n : ℕ) → take (length xs - n) (drop n xs) ≡ drop n xs
all_behind xs n = let rest : length (drop n xs) ≤ length xs - n = omega (arith, length-drop n xs) in take_all _ _ rest
