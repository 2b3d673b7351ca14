-- A processor's place among all, and its node's.
use Rattle.std.proofs.Common.{ℕ, zero, suc, ◌≡◌, ◌+◌, ◌*◌, ◌/◌, ◌<◌, ◌≤◌, arith}
use Rattle.std.proofs.Math.Nat.{div-lt_iff_lt-mul, mul-le-mul_right}
use Rattle.dsm_words.specs.Place.{Lay, groups, processors}
use Rattle.dsm_protocol.specs.Own.{Who, node_of}

-- its number is one of the layout's, and so is its node's
pub record IsPlaced (u : Who) : Type 0 where
  pub p_in : u.p < processors u.lay
  pub node_in : node_of u < u.lay.nodes

pub placed : (u : Who) → u.p < processors u.lay → IsPlaced u
placed u p = record { p_in = p; node_in = (div-lt_iff_lt-mul {k = u.lay.procs} {x = u.p} {y = u.lay.nodes} (some u.lay.procs p)).1 p }
  where
    some : (procs : ℕ) → u.p < u.lay.nodes * procs → 0 < procs
    some zero h = absurd (omega (arith, h))
    some (suc k) h = omega arith

-- a page's group is one of the layout's
pub group_in : (l : Lay) (g : ℕ) → g < l.pages → g / 64 < groups l
group_in l g h = omega arith

-- the processors of a node are among all
pub rows : (l : Lay) (n : ℕ) → n < l.nodes → n * l.procs + l.procs ≤ processors l
rows l n h = let e : (n + 1) * l.procs ≤ l.nodes * l.procs = mul-le-mul_right l.procs (omega arith) in omega (arith, e, one_more n l.procs)
  where
    one_more : (a b : ℕ) → (a + 1) * b ≡ a * b + b
    one_more a b = grind arith
