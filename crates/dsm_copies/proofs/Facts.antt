-- What holds of one node's copy.
use Rattle.std.proofs.Common.{◌≡◌, ◌≢◌, ℕ, ◌<◌, ◌≤◌, ◌⊎◌, Bool, true, false}
use Rattle.dsm_copies.specs.Modes.{Mode, Bare, Twinned, Flush_load, Flush_compare, Flush_refresh, Flush_send, Flush_end, Flush_tell, Flush_over, Merge_load, Merge_compare, Merge_write, Merge_refresh, Merge_end, Overwrite_load, Overwrite_write, Overwrite_end, Make_load, Make_write, Make_end, Enter_load, Enter_write, Enter_end, Exclusive, Break_load, Break_refresh, Break_send, Break_end, is_exclusive}

-- Of the last store: whether it was of this node, how far it has come, the home's word and the value.
pub record Last : Type 0 where
  pub own : Bool
  pub prog : ℕ
  pub m : ℕ
  pub l : ℕ

-- and whether its processor signalled, whether somebody passed before it was told, whether a break told it
pub record Past : Type 0 where
  pub store : Last
  pub released : Bool
  pub early : Bool
  pub broken : Bool

-- whatever the node does
pub record Base (g : Past) (f : ℕ) (fresh since sole : Bool) : Type 0 where
  pub own_has : g.store.own ≡ true → f ≡ g.store.l
  pub fresh_has : fresh ≡ true → (2 ≤ g.store.prog) × (f ≡ g.store.l)
  pub since_has : since ≡ true → (3 ≤ g.store.prog) × (fresh ≡ true)
  pub released_is : g.store.own ≡ true → g.released ≡ true → (4 ≤ g.store.prog) ⊎ ((sole ≡ true) × (g.store.prog ≢ 1))
  pub early_is : g.store.own ≡ true → g.early ≡ true → (g.broken ≡ true) ⊎ ((sole ≡ true) × (g.store.prog ≢ 1) × (g.store.prog < 4))

-- a frame that differs from its twin is owed; the writer's twin is the home's word; a fresh twin has the last store
abbrev pub Twin : Last → (f t : ℕ) → Bool → Type 0
Twin g f t fresh = ((f ≡ t) ⊎ ((g.own ≡ true) × (g.prog ≡ 1))) × (g.own ≡ true → t ≡ g.m) × (fresh ≡ true → t ≡ g.l)

abbrev pub Rests : Last → Type 0
Rests g = g.own ≡ true → (g.prog ≡ 1) ⊎ (4 ≤ g.prog)

abbrev pub Clear : Last → Type 0
Clear g = g.own ≡ true → 4 ≤ g.prog

-- what a fetch knows that is past its load of the master
abbrev pub Hand : Last → ℕ → (settled late : Bool) → Type 0
Hand g h settled late = (settled ≡ true → (2 ≤ g.prog) × (h ≡ g.l)) × (late ≡ true → (3 ≤ g.prog) × (settled ≡ true))

abbrev pub Late : Last → Bool → Type 0
Late g late = late ≡ true → 3 ≤ g.prog

abbrev pub LateFresh : Last → Bool → Bool → Type 0
LateFresh g late fresh = late ≡ true → (3 ≤ g.prog) × (fresh ≡ true)

-- an exclusive node has the last store
abbrev pub Has : Last → Bool → Type 0
Has g fresh = (g.own ≡ true) ⊎ (fresh ≡ true)

abbrev pub Alone : Last → Type 0
Alone g = g.own ≡ true → (g.prog ≡ 0) ⊎ (4 ≤ g.prog)

abbrev pub Owes : Last → Type 0
Owes g = (g.own ≡ true) × (g.prog ≡ 1)

abbrev pub Stands : Last → (f t : ℕ) → Bool → Mode → Type 0
Stands g f t fresh Bare = Clear g
Stands g f t fresh Twinned = Twin g f t fresh × Rests g
Stands g f t fresh Flush_load = Twin g f t fresh × Rests g
Stands g f t fresh (Flush_compare v seen) = Twin g f t fresh × Rests g × ((v ≡ t) ⊎ Owes g) × (seen ≡ true → v ≡ f) × (seen ≡ false → Owes g)
Stands g f t fresh (Flush_refresh v seen) = Owes g × (v ≢ t) × (t ≡ g.m) × (seen ≡ true → v ≡ g.l)
Stands g f t fresh (Flush_send v seen) = Owes g × (v ≡ t) × (seen ≡ true → v ≡ g.l)
Stands g f t fresh Flush_end = Twin g f t fresh × (g.own ≡ true → (g.prog ≡ 1) ⊎ (g.prog ≡ 2) ⊎ (4 ≤ g.prog))
Stands g f t fresh Flush_tell = Twin g f t fresh × (g.own ≡ true → (g.prog ≡ 1) ⊎ (3 ≤ g.prog))
Stands g f t fresh Flush_over = Twin g f t fresh × Rests g
Stands g f t fresh (Merge_load late) = Twin g f t fresh × Rests g × Late g late
Stands g f t fresh (Merge_compare h settled late) = Twin g f t fresh × Rests g × (g.own ≡ true → h ≡ t) × (fresh ≡ true → h ≡ t) × Hand g h settled late
Stands g f t fresh (Merge_write h settled late) = (g.own ≡ false) × (fresh ≡ false) × (f ≡ t) × Hand g h settled late
Stands g f t fresh (Merge_refresh h settled late) = (g.own ≡ false) × (fresh ≡ false) × (f ≡ h) × Hand g h settled late
Stands g f t fresh (Merge_end late) = Twin g f t fresh × Rests g × LateFresh g late fresh
Stands g f t fresh (Overwrite_load late) = Clear g × Late g late
Stands g f t fresh (Overwrite_write h settled late) = Clear g × (g.own ≡ true → h ≡ g.l) × (fresh ≡ true → h ≡ g.l) × Hand g h settled late
Stands g f t fresh (Overwrite_end late) = Clear g × LateFresh g late fresh
Stands g f t fresh Make_load = Clear g
Stands g f t fresh (Make_write v) = Clear g × (v ≡ f)
Stands g f t fresh Make_end = Clear g × (t ≡ f)
Stands g f t fresh (Enter_load late) = Clear g × (2 ≤ g.prog) × Late g late
Stands g f t fresh (Enter_write h settled late) = Clear g × (2 ≤ g.prog) × (settled ≡ true) × Hand g h settled late
Stands g f t fresh (Enter_end late) = Clear g × (fresh ≡ true) × LateFresh g late fresh
Stands g f t fresh Exclusive = Alone g × Has g fresh
Stands g f t fresh Break_load = Alone g × Has g fresh
Stands g f t fresh (Break_refresh v seen) = Has g fresh × (seen ≡ true → Alone g × (v ≡ f)) × (seen ≡ false → Owes g)
Stands g f t fresh (Break_send v seen) = Has g fresh × (v ≡ t) × (seen ≡ true → Alone g × (v ≡ g.l)) × (seen ≡ false → Owes g)
Stands g f t fresh Break_end = Has g fresh × Twin g f t fresh × (g.own ≡ true → (g.prog ≡ 1) ⊎ (g.prog ≡ 2) ⊎ (4 ≤ g.prog))

pub record Fits (g : Past) (f t : ℕ) (fresh since : Bool) (mode : Mode) : Type 0 where
  pub base : Base g f fresh since (is_exclusive mode)
  pub stands : Stands g.store f t fresh mode

-- what holds of the last store, wherever it was made
pub record Sound (g : Past) : Type 0 where
  pub most : g.store.prog ≤ 4
  pub settled : 2 ≤ g.store.prog → g.store.m ≡ g.store.l
  pub broken : g.broken ≡ true → 4 ≤ g.store.prog
