-- What a node does with its copy of one word, one operation after another.
use Rattle.std.specs.Prelude.{ℕ, suc, Bool, true, false, ◌==◌, ◌||◌, ◌&&◌, if◌then◌else◌, nat_le}

-- How far the last store has come, as a number. It was made where its node is exclusive,
abbrev pub exclusive : ℕ
exclusive = 0

-- or its node owes it to the home;
abbrev pub owed : ℕ
owed = 1

-- the home has it;
abbrev pub covered : ℕ
covered = 2

-- a send that brought it there has ended;
abbrev pub ended : ℕ
ended = 3

-- that send was told.
abbrev pub told : ℕ
told = 4

-- What is open at a node: nothing, with or without a twin or exclusive, or a block of operations, by the one that comes
-- next. A flush, a break and the making of a twin hold the value v that they loaded from the frame; a merge, an overwrite and
-- an enter hold the value h that they loaded from the home. `seen`: the node made no store since the block loaded its frame.
-- `settled`: the home's word was loaded when the home had the last store. `late`: the block began when a send of the last
-- store had ended.
pub data Mode : Type 0 where
  Bare : Mode
  Twinned : Mode
  Exclusive : Mode
  Flush_load : Mode
  Flush_compare : (v : ℕ) → (seen : Bool) → Mode
  Flush_refresh : (v : ℕ) → (seen : Bool) → Mode
  Flush_send : (v : ℕ) → (seen : Bool) → Mode
  Flush_end : Mode
  Flush_tell : Mode
  Flush_over : Mode
  Merge_load : (late : Bool) → Mode
  Merge_compare : (h : ℕ) → (settled late : Bool) → Mode
  Merge_write : (h : ℕ) → (settled late : Bool) → Mode
  Merge_refresh : (h : ℕ) → (settled late : Bool) → Mode
  Merge_end : (late : Bool) → Mode
  Overwrite_load : (late : Bool) → Mode
  Overwrite_write : (h : ℕ) → (settled late : Bool) → Mode
  Overwrite_end : (late : Bool) → Mode
  Make_load : Mode
  Make_write : (v : ℕ) → Mode
  Make_end : Mode
  Enter_load : (late : Bool) → Mode
  Enter_write : (h : ℕ) → (settled late : Bool) → Mode
  Enter_end : (late : Bool) → Mode
  Break_load : Mode
  Break_refresh : (v : ℕ) → (seen : Bool) → Mode
  Break_send : (v : ℕ) → (seen : Bool) → Mode
  Break_end : Mode

-- the node is exclusive, up to the end of its break
abbrev pub is_exclusive : Mode → Bool
is_exclusive Exclusive = true
is_exclusive Break_load = true
is_exclusive (Break_refresh v seen) = true
is_exclusive (Break_send v seen) = true
is_exclusive Break_end = true
is_exclusive _ = false

-- it is exclusive or enters
abbrev pub is_alone : Mode → Bool
is_alone (Enter_load late) = true
is_alone (Enter_write h settled late) = true
is_alone (Enter_end late) = true
is_alone x = is_exclusive x

-- its processors may store: a twin is up, or it is exclusive
abbrev pub may_store : Mode → Bool
may_store Bare = false
may_store (Overwrite_load late) = false
may_store (Overwrite_write h settled late) = false
may_store (Overwrite_end late) = false
may_store Make_load = false
may_store (Make_write v) = false
may_store Make_end = false
may_store (Enter_load late) = false
may_store (Enter_write h settled late) = false
may_store (Enter_end late) = false
may_store _ = true

-- The next operation of the open block, where the home's word is m, the last store has come as far as `progress`, the frame
-- has f and the twin t. What it leaves open: a flush that finds its frame's value in the twin sends nothing, and a merge that
-- finds the home's value in the twin writes nothing.
abbrev pub op_mode : (m progress f t : ℕ) → Mode → Mode
op_mode m progress f t Bare = Bare
op_mode m progress f t Twinned = Twinned
op_mode m progress f t Exclusive = Exclusive
op_mode m progress f t Flush_load = Flush_compare f true
op_mode m progress f t (Flush_compare v seen) = if v == t then Flush_end else Flush_refresh v seen
op_mode m progress f t (Flush_refresh v seen) = Flush_send v seen
op_mode m progress f t (Flush_send v seen) = Flush_end
op_mode m progress f t Flush_end = Flush_tell
op_mode m progress f t Flush_tell = Flush_over
op_mode m progress f t Flush_over = Twinned
op_mode m progress f t (Merge_load late) = Merge_compare m (nat_le covered progress) late
op_mode m progress f t (Merge_compare h settled late) = if h == t then Merge_end late else Merge_write h settled late
op_mode m progress f t (Merge_write h settled late) = Merge_refresh h settled late
op_mode m progress f t (Merge_refresh h settled late) = Merge_end late
op_mode m progress f t (Merge_end late) = Twinned
op_mode m progress f t (Overwrite_load late) = Overwrite_write m (nat_le covered progress) late
op_mode m progress f t (Overwrite_write h settled late) = Overwrite_end late
op_mode m progress f t (Overwrite_end late) = Bare
op_mode m progress f t Make_load = Make_write f
op_mode m progress f t (Make_write v) = Make_end
op_mode m progress f t Make_end = Twinned
op_mode m progress f t (Enter_load late) = Enter_write m (nat_le covered progress) late
op_mode m progress f t (Enter_write h settled late) = Enter_end late
op_mode m progress f t (Enter_end late) = Exclusive
op_mode m progress f t Break_load = Break_refresh f true
op_mode m progress f t (Break_refresh v seen) = Break_send v seen
op_mode m progress f t (Break_send v seen) = Break_end
op_mode m progress f t Break_end = Twinned

-- what it leaves in the frame,
abbrev pub op_frame : ℕ → Mode → ℕ
op_frame f (Merge_write h settled late) = h
op_frame f (Overwrite_write h settled late) = h
op_frame f (Enter_write h settled late) = h
op_frame f _ = f

-- in the twin,
abbrev pub op_twin : ℕ → Mode → ℕ
op_twin t (Flush_refresh v seen) = v
op_twin t (Merge_refresh h settled late) = h
op_twin t (Make_write v) = v
op_twin t (Break_refresh v seen) = v
op_twin t _ = t

-- and at the home
abbrev pub op_master : ℕ → Mode → ℕ
op_master m (Flush_send v seen) = v
op_master m (Break_send v seen) = v
op_master m _ = m

-- the home has the last store, if it is of the block's own node and the block has seen it
abbrev pub cover : (own seen : Bool) → ℕ → ℕ
cover true true progress = if nat_le covered progress then progress else covered
cover _ _ progress = progress

-- a store of the own node that has come as far as `from` comes one further
abbrev pub next : (own : Bool) → (from progress : ℕ) → ℕ
next true from progress = if progress == from then suc from else progress
next false from progress = progress

-- what a break has brought home is told at its end
abbrev pub break_over : (own : Bool) → ℕ → ℕ
break_over true progress = if progress == covered then told else progress
break_over false progress = progress

-- how far the last store has come behind the operation, which is of the node that made it or not
abbrev pub op_progress : (own : Bool) → (progress t : ℕ) → Mode → ℕ
op_progress own progress t (Flush_compare v seen) = if v == t then cover own seen progress else progress
op_progress own progress t (Flush_send v seen) = cover own seen progress
op_progress own progress t Flush_end = next own covered progress
op_progress own progress t Flush_tell = next own ended progress
op_progress own progress t (Break_send v seen) = cover own seen progress
op_progress own progress t Break_end = break_over own progress
op_progress own progress t _ = progress

-- a break has told it
abbrev pub op_broken : (own : Bool) → ℕ → Bool → Mode → Bool
op_broken own progress broken Break_end = broken || (own && (progress == covered))
op_broken own progress broken _ = broken

-- the node has finished its part of a fetch that loaded the home's word when the home had the last store
abbrev pub op_fresh : Bool → (t : ℕ) → Mode → Bool
op_fresh fresh t (Merge_compare h settled late) = if h == t then fresh || settled else fresh
op_fresh fresh t (Merge_refresh h settled late) = fresh || settled
op_fresh fresh t (Overwrite_write h settled late) = fresh || settled
op_fresh fresh t (Enter_write h settled late) = fresh || settled
op_fresh fresh t _ = fresh

-- it has finished a fetch that began when a send of the last store had ended
abbrev pub op_since : Bool → Mode → Bool
op_since since (Merge_end late) = since || late
op_since since (Overwrite_end late) = since || late
op_since since (Enter_end late) = since || late
op_since since _ = since

-- it has finished a fetch
abbrev pub op_fetched : Bool → Mode → Bool
op_fetched fetched (Merge_end late) = true
op_fetched fetched (Overwrite_end late) = true
op_fetched fetched (Enter_end late) = true
op_fetched fetched _ = fetched

-- what is open, behind a store of another node: a fetch that is under way knows nothing of that store
abbrev pub outdated : Mode → Mode
outdated (Merge_load late) = Merge_load false
outdated (Merge_compare h settled late) = Merge_compare h false false
outdated (Merge_write h settled late) = Merge_write h false false
outdated (Merge_refresh h settled late) = Merge_refresh h false false
outdated (Merge_end late) = Merge_end false
outdated (Overwrite_load late) = Overwrite_load false
outdated (Overwrite_write h settled late) = Overwrite_write h false false
outdated (Overwrite_end late) = Overwrite_end false
outdated (Enter_load late) = Enter_load false
outdated (Enter_write h settled late) = Enter_write h false false
outdated (Enter_end late) = Enter_end false
outdated x = x

-- what is open, behind a store of this node: a flush or break that has loaded the frame has not seen it
abbrev pub touched : Mode → Mode
touched (Flush_compare v seen) = Flush_compare v false
touched (Flush_refresh v seen) = Flush_refresh v false
touched (Flush_send v seen) = Flush_send v false
touched (Break_refresh v seen) = Break_refresh v false
touched (Break_send v seen) = Break_send v false
touched x = outdated x

-- how far a store of this node has come when it is made: behind the load of a break it is owed
abbrev pub store_progress : Mode → ℕ
store_progress Exclusive = exclusive
store_progress Break_load = exclusive
store_progress _ = owed
