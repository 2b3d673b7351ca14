-- One operation of a node's block.
use Rattle.std.proofs.Common.{◌≡◌, ℕ, ◌≤◌, ◌⊎◌, Bool, true, arith}
use Rattle.dsm_copies.specs.Modes.{Mode, Bare, op_mode, op_frame, op_twin, op_master, op_progress, op_broken, op_fresh, op_since}
use Rattle.dsm_copies.proofs.Facts.{Past, Fits, Sound}

abbrev pub op_past : Past → ℕ → Mode → Past
op_past g t x = record g { store = record { own = g.store.own; prog = op_progress g.store.own g.store.prog t x; m = op_master g.store.m x; l = g.store.l }; broken = op_broken g.store.own g.store.prog g.broken x }

-- what an operation leaves: of the node, of the last store, and what the other nodes see of it
pub record Kept (g : Past) (f t : ℕ) (fresh since : Bool) (x : Mode) : Type 0 where
  pub fits : Fits (op_past g t x) (op_frame f x) (op_twin t x) (op_fresh fresh t x) (op_since since x) (op_mode g.store.m g.store.prog f t x)
  pub sound : Sound (op_past g t x)
  pub rises : g.store.prog ≤ op_progress g.store.own g.store.prog t x
  pub others : (g.store.own ≡ true) ⊎ ((op_progress g.store.own g.store.prog t x ≡ g.store.prog) × (op_master g.store.m x ≡ g.store.m) × (op_broken g.store.own g.store.prog g.broken x ≡ g.broken))

pub op_kept : (g : Past) → Sound g → (f t : ℕ) (fresh since : Bool) (x : Mode) → Fits g f t fresh since x → Kept g f t fresh since x
op_kept g sound f t fresh since Bare s = grind arith
op_kept g sound f t fresh since x s = grind arith
