-- The other nodes at an operation, and all nodes at a store.
use Rattle.std.proofs.Common.{◌≡◌, ◌≢◌, ℕ, ◌≤◌, ◌⊎◌, Bool, true, false, arith}
use Rattle.dsm_copies.specs.Modes.{Mode, Bare, Merge_load, Merge_compare, Merge_write, Merge_refresh, Merge_end, Overwrite_load, Overwrite_write, Overwrite_end, Enter_load, Enter_write, Enter_end, is_exclusive, is_alone, may_store, outdated, touched, store_progress, op_mode, op_since, op_fetched}
use Rattle.dsm_copies.proofs.Facts.{Past, Fits, Sound}

-- a node that did not make the last store loses nothing when that store comes on
pub up : (g g' : Past) (f t : ℕ) (fresh since : Bool) → g.store.own ≡ false → g'.store.own ≡ false → g'.store.l ≡ g.store.l → g.store.prog ≤ g'.store.prog → (x : Mode) → Fits g f t fresh since x → Fits g' f t fresh since x
up g g' f t fresh since a b c d Bare s = grind arith
up g g' f t fresh since a b c d x s = grind arith

-- a store of another node, which knows the last store
pub out : (g g' : Past) (f t : ℕ) (fresh since : Bool) → (g.store.own ≡ true → g.store.prog ≢ 1) → g'.store.own ≡ false → (x : Mode) → is_alone x ≡ false → Fits g f t fresh since x → Fits g' f t false false (outdated x)
out g g' f t fresh since a b Bare n s = grind arith
out g g' f t fresh since a b x n s = grind arith

-- a store of this node
abbrev pub own_store : Past → ℕ → Mode → Past
own_store g v x = record { store = record { own = true; prog = store_progress x; m = g.store.m; l = v }; released = false; early = false; broken = false }

pub touch : (g : Past) (f t v : ℕ) (fresh since : Bool) → Sound g → (g.store.own ≡ true) ⊎ (fresh ≡ true) → (x : Mode) → may_store x ≡ true → Fits g f t fresh since x → Fits (own_store g v x) v t false false (touched x)
touch g f t u fresh since a b Bare n s = grind arith
touch g f t u fresh since a b x n s = grind arith

pub exclusive_alone : (x : Mode) → is_exclusive x ≡ true → is_alone x ≡ true
exclusive_alone Bare s = grind arith
exclusive_alone x s = grind arith

pub progress_below : (x : Mode) → store_progress x ≤ 1
progress_below Bare = omega arith
progress_below x = omega arith

-- before the first store every fetch began late enough
abbrev pub Prompt : Mode → Type 0
Prompt (Merge_load late) = late ≡ true
Prompt (Merge_compare h settled late) = late ≡ true
Prompt (Merge_write h settled late) = late ≡ true
Prompt (Merge_refresh h settled late) = late ≡ true
Prompt (Merge_end late) = late ≡ true
Prompt (Overwrite_load late) = late ≡ true
Prompt (Overwrite_write h settled late) = late ≡ true
Prompt (Overwrite_end late) = late ≡ true
Prompt (Enter_load late) = late ≡ true
Prompt (Enter_write h settled late) = late ≡ true
Prompt (Enter_end late) = late ≡ true
Prompt _ = Unit {0}

pub prompt_op : (m prog f t : ℕ) (fetched since : Bool) (x : Mode) → (fetched ≡ true → since ≡ true) → Prompt x → (op_fetched fetched x ≡ true → op_since since x ≡ true) × Prompt (op_mode m prog f t x)
prompt_op m prog f t fetched since Bare b p = grind arith
prompt_op m prog f t fetched since x b p = grind arith
