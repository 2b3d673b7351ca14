-- What a processor's place in the table is to the copy of one word.
use Rattle.std.specs.Prelude.{ℕ, ◌==◌, nat_lt, Bool, true, false, if◌then◌else◌, List, [], ◌∷◌}
use Rattle.dsm_copies.specs.Modes.{Mode, Bare, Twinned, Exclusive, Flush_load, Flush_compare, Flush_refresh, Flush_send, Flush_end, Flush_tell, Flush_over, Merge_load, Merge_compare, Merge_write, Merge_refresh, Merge_end, Overwrite_load, Overwrite_write, Overwrite_end, Make_load, Make_write, Make_end, Enter_load, Enter_write, Enter_end, Break_load, Break_refresh, Break_send, Break_end}
use Rattle.dsm_copies.specs.Copies as W
use Rattle.dsm_protocol.specs.Stages.{Part, Whole, First, Got, Differs, Half, For_closing, Stage, Mapped, Seeking, Missing, Breaking, Marking, Saving, Ending, Filling, Filled, Entered, Copying, Making, Flushing, Stamping, Stamped, Posting, Posted, Telling, Lowering, Dropping, Untwining, Unlisting, Done, Loaded, Stored, Admitted, Dismissed, Work, Off}

-- what is open at a node, without what it remembers of the last store
abbrev pub plain : Mode → Mode
plain (Flush_compare v seen) = Flush_compare v false
plain (Flush_refresh v seen) = Flush_refresh v false
plain (Flush_send v seen) = Flush_send v false
plain (Merge_load late) = Merge_load false
plain (Merge_compare h settled late) = Merge_compare h false false
plain (Merge_write h settled late) = Merge_write h false false
plain (Merge_refresh h settled late) = Merge_refresh h false false
plain (Merge_end late) = Merge_end false
plain (Overwrite_load late) = Overwrite_load false
plain (Overwrite_write h settled late) = Overwrite_write h false false
plain (Overwrite_end late) = Overwrite_end false
plain (Enter_load late) = Enter_load false
plain (Enter_write h settled late) = Enter_write h false false
plain (Enter_end late) = Enter_end false
plain (Break_refresh v seen) = Break_refresh v false
plain (Break_send v seen) = Break_send v false
plain x = x

-- what is open where nobody works: the node is exclusive, or has a twin, or neither
abbrev pub resting : (dir twined : ℕ) → Mode
resting dir twined = if dir == 2 then Exclusive else (if twined == 1 then Twinned else Bare)

-- a block of operations that is at word k, in this part of it, as word i has it: before its own operations, at them, or behind them
abbrev pub block : (i k : ℕ) → (before here behind : Mode) → Mode
block i k before here behind = if nat_lt k i then before else (if k == i then here else behind)

-- a word's part, where it is the word's turn
abbrev pub flush_here : Part → Mode
flush_here (Got v) = Flush_compare v false
flush_here (Differs v) = Flush_refresh v false
flush_here (Half v) = Flush_send v false
flush_here part = Flush_load

abbrev pub merge_here : Part → Mode
merge_here (First v) = Merge_compare v false false
merge_here (Got v) = Merge_compare v false false
merge_here (Differs v) = Merge_write v false false
merge_here (Half v) = Merge_refresh v false false
merge_here Whole = Merge_load false

abbrev pub overwrite_here : Part → Mode
overwrite_here (First v) = Overwrite_write v false false
overwrite_here (Got v) = Overwrite_write v false false
overwrite_here part = Overwrite_load false

abbrev pub enter_here : Part → Mode
enter_here (First v) = Enter_write v false false
enter_here (Got v) = Enter_write v false false
enter_here part = Enter_load false

abbrev pub make_here : Part → Mode
make_here (Got v) = Make_write v
make_here part = Make_load

abbrev pub break_here : Part → Mode
break_here (Got v) = Break_refresh v false
break_here (Half v) = Break_send v false
break_here part = Break_load

-- a block that begins with its first load has not begun before that
abbrev pub unless_fresh : ℕ → Part → (rest opened : Mode) → Mode
unless_fresh k Whole rest opened = if k == 0 then rest else opened
unless_fresh k part rest opened = opened

-- What is open at a node where the holder of its turn is at this stage, where `rest` would be open if nobody worked there, and `flushed`
-- says whether its last flush still has its twin.
module _ (i : ℕ) (rest : Mode) (flushed : Bool) where
  abbrev pub mode_view : Stage → Mode
  mode_view (Mapped k s) = mode_view s
  mode_view (Seeking (For_closing j)) = Break_load
  mode_view (Missing (For_closing j)) = Break_load
  mode_view (Breaking c h j q) = Break_load
  mode_view (Marking c h j q) = Break_load
  mode_view (Saving c h j k part) = block i k Break_load (break_here part) Break_end
  mode_view (Ending c j) = Break_end
  mode_view (Filling h t k part) = unless_fresh k part Bare (block i k (Enter_load false) (enter_here part) (Enter_end false))
  mode_view (Filled t) = Exclusive
  mode_view Entered = Exclusive
  mode_view (Copying write h t true k part) = unless_fresh k part Twinned (block i k (Merge_load false) (merge_here part) (Merge_end false))
  mode_view (Copying write h t false k part) = unless_fresh k part Bare (block i k (Overwrite_load false) (overwrite_here part) (Overwrite_end false))
  mode_view (Making k part) = unless_fresh k part Bare (block i k Make_load (make_here part) Make_end)
  mode_view (Flushing h t k part) = block i k Flush_load (flush_here part) Flush_end
  mode_view (Stamping h t true) = Flush_end
  mode_view (Stamped h true) = Flush_tell
  mode_view (Posting h true j) = Flush_tell
  mode_view (Telling h true j) = Flush_tell
  mode_view (Posted h true) = Flush_tell
  mode_view (Lowering true) = Flush_over
  mode_view (Dropping q unwritten free) = Flush_over
  mode_view (Untwining free) = Flush_over
  mode_view Unlisting = if flushed then Flush_over else rest
  mode_view Done = if flushed then Flush_over else rest
  mode_view s = rest

-- what a processor has done with the word at address a, and its trace does not say yet
abbrev pub pending : (a p : ℕ) → Work → List W.Event
pending a p (Off (Loaded w x)) = if w == a then W.Load p x ∷ [] else []
pending a p (Off (Stored w v)) = if w == a then W.Store p v ∷ [] else []
pending a p w = []

-- what its trace says already, and the moment of it is still to be noted
abbrev pub coming : (p : ℕ) → Work → List W.Event
coming p (Off Admitted) = W.Pass p ∷ []
coming p (Off Dismissed) = W.Pass p ∷ []
coming p w = []
