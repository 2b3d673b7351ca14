-- Loops that count what remains.
use Rattle.std.proofs.Common.{◌≡◌, ℕ, ◌+◌, ◌-◌, ◌*◌, ◌<◌, suc, true, refl, arith}
use Rattle.std.proofs.lemmas.Nat.{mul-add-lt}
use Rattle.dsm_words.specs.declared.turn.Turn.TheVariants.{More}
use Rattle.dsm_words.specs.Place.{Lay, groups}
use Rattle.dsm_words.specs.Script.{Script, End, Do, Until, is_open, turn_of}

-- behind element i of n, with a further one: what remains of it on
pub one_less : (n i : ℕ) → i + 1 < n → suc (n - (i + 1 + 1)) ≡ n - (i + 1)
one_less n i h = omega arith

-- from none on, all remain
pub all_remain : (n : ℕ) → 0 < n → suc (n - (0 + 1)) ≡ n
all_remain n h = omega arith

-- a number that is not 0, from the one below it
pub suc_less : (k : ℕ) → 0 < k → suc (k - 1) ≡ k
suc_less k h = omega arith

-- the last processor of a node is one of the cluster's
pub row_in : (n nodes procs : ℕ) → n < nodes → 0 < procs → n * procs + (procs - 1) < nodes * procs
row_in n nodes procs h k = let r : procs - 1 < procs = omega arith in omega (arith, mul-add-lt n procs (procs - 1) nodes h r)

-- there is a group
pub some_groups : (l : Lay) → 0 < l.pages → suc (groups l - (0 + 1)) ≡ groups l
some_groups l h = omega arith

-- a phase that goes on has not ended
pub more_open : {R : Type 0} (s : Script R) → More ≡ turn_of s → is_open s ≡ true
more_open (End r) e = absurd (cc e)
more_open (Do a k) e = refl
more_open (Until a wanted s) e = refl
