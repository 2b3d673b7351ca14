-- What is open at a node, without what it remembers of the last store: each operation reads and leaves no more.
use Rattle.std.proofs.Common.{◌≡◌, ℕ, Bool, true, refl, arith}
use Rattle.dsm_copies.specs.Modes.{Mode, Bare, Twinned, Exclusive, Flush_compare, Merge_compare, is_alone, may_store, op_mode, op_frame, op_twin, op_master, op_fetched, outdated, touched}
use Rattle.dsm_copies.specs.Counts.{op_sent, op_told, op_last_break, op_got}
use Rattle.dsm_debts.specs.Joining.{mode_track, hand, enters}
use Rattle.dsm_twoway.specs.Views.{plain}

-- an operation leads from what is open to what is open next
pub op_plain : (m progress f t : ℕ) (x : Mode) → plain (op_mode m progress f t x) ≡ plain (op_mode m 0 f t (plain x))
op_plain m progress f t Bare = refl
op_plain m progress f t (Flush_compare v seen) = grind arith
op_plain m progress f t (Merge_compare v settled late) = grind arith
op_plain m progress f t x = refl

-- and leaves this in the frame, in the twin, at the home
pub frame_plain : (f : ℕ) (x : Mode) → op_frame f x ≡ op_frame f (plain x)
frame_plain f Bare = refl
frame_plain f x = refl

pub twin_plain : (t : ℕ) (x : Mode) → op_twin t x ≡ op_twin t (plain x)
twin_plain t Bare = refl
twin_plain t x = refl

pub master_plain : (m : ℕ) (x : Mode) → op_master m x ≡ op_master m (plain x)
master_plain m Bare = refl
master_plain m x = refl

-- what the laws of debts see of it
pub track_plain : (x : Mode) → mode_track x ≡ mode_track (plain x)
track_plain Bare = refl
track_plain x = refl

pub hand_plain : (x : Mode) → hand x ≡ hand (plain x)
hand_plain Bare = refl
hand_plain x = refl

pub enters_plain : (x : Mode) → enters x ≡ enters (plain x)
enters_plain Bare = refl
enters_plain x = refl

-- who may store, who is alone
pub store_plain : (x : Mode) → may_store x ≡ may_store (plain x)
store_plain Bare = refl
store_plain x = refl

pub alone_plain : (x : Mode) → is_alone x ≡ is_alone (plain x)
alone_plain Bare = refl
alone_plain x = refl

-- the numbers
pub sent_plain : (a : ℕ) (x : Mode) → op_sent a x ≡ op_sent a (plain x)
sent_plain a Bare = refl
sent_plain a x = refl

pub told_plain : (a b : ℕ) (x : Mode) → op_told a b x ≡ op_told a b (plain x)
told_plain a b Bare = refl
told_plain a b x = refl

pub broken_plain : (a b : ℕ) (x : Mode) → op_last_break a b x ≡ op_last_break a b (plain x)
broken_plain a b Bare = refl
broken_plain a b x = refl

pub got_plain : (a b : ℕ) (x : Mode) → op_got a b x ≡ op_got a b (plain x)
got_plain a b Bare = refl
got_plain a b x = refl

-- where nothing is open, nothing is remembered
pub bare_is : (x : Mode) → plain x ≡ Bare → x ≡ Bare
bare_is Bare e = refl
bare_is x e = absurd (cc e)

pub twinned_is : (x : Mode) → plain x ≡ Twinned → x ≡ Twinned
twinned_is Twinned e = refl
twinned_is x e = absurd (cc e)

pub exclusive_is : (x : Mode) → plain x ≡ Exclusive → x ≡ Exclusive
exclusive_is Exclusive e = refl
exclusive_is x e = absurd (cc e)

-- a store leaves what is open
pub outdated_plain : (x : Mode) → plain (outdated x) ≡ plain x
outdated_plain Bare = refl
outdated_plain x = refl

pub touched_plain : (x : Mode) → plain (touched x) ≡ plain x
touched_plain Bare = refl
touched_plain x = refl

-- an operation takes no right to store, and what was fetched stays fetched
pub op_may : (m progress f t : ℕ) (x : Mode) → may_store x ≡ true → may_store (op_mode m progress f t x) ≡ true
op_may m progress f t Bare e = e
op_may m progress f t x e = grind arith

pub op_keeps_fetched : (b : Bool) (x : Mode) → b ≡ true → op_fetched b x ≡ true
op_keeps_fetched b Bare e = e
op_keeps_fetched b x e = grind arith
