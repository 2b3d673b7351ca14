-- Where a processor stands says which turn its job gives back.
use Rattle.std.proofs.Common.{◌≡◌, ℕ, ◌==◌, Bool, true, false, List, Option, Some, None, refl, ap, sym, ◌∙◌, if◌then◌else◌}
use Rattle.std.specs.Prelude.{◌||◌, ◌&&◌, not, nat_lt}
use Rattle.dsm_words.specs.declared.item.Item.TheVariants.{Turn, NoticeTurn}
use Rattle.dsm_words.specs.Script.{Act, Put}
use Rattle.dsm_clock.specs.declared.turns.TurnId.{TurnId}
use Rattle.dsm_clock.specs.declared.turns.TurnId.TheVariants.{Page}
use Rattle.dsm_sync.specs.declared.counter.Counter.TheVariants.{Barrier, Flag, Close}
use Rattle.dsm_protocol.specs.declared.head.Head.{Head}
use Rattle.dsm_protocol.specs.declared.head.Head.TheVariants.{Instruction, Locking, Looking}
use Rattle.dsm_protocol.specs.Own.{Own, Who, node_of, new_own}
use Rattle.dsm_protocol.specs.Jobs.{Job, Note, turn_back, held_turn}
use Rattle.dsm_protocol.specs.Stages.{Cause, Fault, Closing, Seeker, For_fault, For_release, For_closing, Stage, Mapped, Round, Waiting, Signalling, Arrived, Work, Off, On, Gone, registered, found, held_alone, departed, lowered, seeker_node, stage_turn, round_turn, turn_at}
use Rattle.dsm_protocol.specs.Rows.{Step, sees_dir, seeks, settles, wants, looks, reads_map, departs, sees_again, tests, judges, merges, has_twin, sets, sees_release, lasts, draws_send, tests_flush, flushes_same, reads_dir, lowers, untwins, sees_acquire, judges_own, unmaps, sees_bare, Wins, faults, Slip, shared, marked, claimed, unlowered, dropped, emptied, Noted, maps, counts}
use Rattle.dsm_protocol.specs.Standing.{IsAside, IsOpen, at_head, Works, Makes, Takes, Marks, Asks, Slips, Rests, Asides, Begins, Ends, Halts}

module _ (u : Who) where
  -- what comes behind a mapping that was stored holds the turn of its own node's copy
  abbrev pub IsOwed : Stage → ℕ → Type 0
  IsOwed (Mapped k s) g = (stage_turn u g s ≡ Some (Page (node_of u) g)) × IsOwed s g
  IsOwed s g = Unit {0}

  abbrev pub IsSettled : Work → Type 0
  IsSettled (Off r) = Unit {0}
  IsSettled (On r g s) = IsOwed s g
  IsSettled Gone = Unit {0}

  -- one of two stages
  turn_if : (g : ℕ) {t : Option TurnId} (b : Bool) (s s' : Stage) → stage_turn u g s ≡ t → stage_turn u g s' ≡ t → stage_turn u g (if b then s else s') ≡ t
  turn_if g true s s' h k = h
  turn_if g false s s' h k = k

  owed_if : (g : ℕ) (b : Bool) (s s' : Stage) → IsOwed s g → IsOwed s' g → IsOwed (if b then s else s') g
  owed_if g true s s' h k = h
  owed_if g false s s' h k = k

  turn_lowered : (g : ℕ) (flushed : Bool) → stage_turn u g (lowered u flushed) ≡ Some (Page (node_of u) g)
  turn_lowered g true = refl
  turn_lowered g false = refl

  owed_lowered : (g : ℕ) (flushed : Bool) → IsOwed (lowered u flushed) g
  owed_lowered g true = tt
  owed_lowered g false = tt

  turn_registered : (g : ℕ) (write : Bool) (h : ℕ) (b : Bool) → stage_turn u g (registered write h b) ≡ Some (Page (node_of u) g)
  turn_registered g write h true = refl
  turn_registered g write h false = refl

  owed_registered : (g : ℕ) (write : Bool) (h : ℕ) (b : Bool) → IsOwed (registered write h b) g
  owed_registered g write h true = tt
  owed_registered g write h false = tt

  turn_found : (g : ℕ) (a : Seeker) (h : ℕ) → stage_turn u g (found u a h) ≡ Some (Page (seeker_node u a) g)
  turn_found g (For_fault write d) h = turn_registered g write h (d == 0)
  turn_found g For_release h = refl
  turn_found g (For_closing j) h = refl

  owed_found : (g : ℕ) (a : Seeker) (h : ℕ) → IsOwed (found u a h) g
  owed_found g (For_fault write d) h = owed_registered g write h (d == 0)
  owed_found g For_release h = tt
  owed_found g (For_closing j) h = tt

  owed_alone : (g : ℕ) (c : Cause) (j : ℕ) → IsOwed (held_alone u c j) g
  owed_alone g (Fault write h busy) j = tt
  owed_alone g Closing j = tt

  settled_departed : (r : Round) (g : ℕ) (c : Cause) (j : ℕ) → IsSettled (departed r g c j)
  settled_departed r g (Fault write h busy) j = tt
  settled_departed r g Closing j = tt

  module _ {ms : List ℕ} {ds : List Bool} where
    -- a row with answer 0 gives back the turn of the place before it, or keeps it
    step_turn : {w : Work} {a : Act} {w' : Work} → Step u ms ds w a 0 w' → turn_back a (turn_at u w') ≡ turn_at u w
    step_turn (settles {g = g} {a = a}) = turn_found g a (node_of u)
    step_turn (lasts {t0 = t0} {g = g}) = turn_if g (nat_lt t0 0) _ _ refl refl
    step_turn (judges {g = g} {y = y}) = turn_if g (y == 0 || nat_lt y 0) _ _ refl refl
    step_turn (merges {g = g} {v = v}) = turn_if g (v == 0) _ _ refl refl
    step_turn (draws_send {g = g} {h = h}) = turn_if g (node_of u == h) _ _ refl refl
    step_turn (flushes_same {g = g} {v = v}) = turn_if g (v == 0) _ _ refl refl
    step_turn (untwins {g = g} {free = free}) = turn_if g free _ _ refl refl
    step_turn (judges_own {g = g} {y = y}) = turn_if g (y == 0 || nat_lt y 0) _ _ refl refl
    step_turn row = refl

    pub step_settled : {w : Work} {a : Act} {x : ℕ} {w' : Work} → Step u ms ds w a x w' → IsSettled w'
    step_settled (sees_dir {g = g} {x = x}) = owed_if g (x == 2) _ _ tt tt
    step_settled (seeks {g = g} {x = x} {a = a}) = owed_if g (x == 0) _ _ tt (owed_found g a _)
    step_settled (settles {g = g} {a = a}) = owed_found g a _
    step_settled (wants free) = (refl, tt)
    step_settled (looks {g = g} {j = j} {x = x} {c = c}) = owed_if g (x == 2) _ _ (owed_alone g c j) tt
    step_settled (reads_map {g = g} {x = x}) = owed_if g (x == 2) _ _ tt tt
    step_settled (departs {r = r} {g = g} {j = j} {c = c}) = settled_departed r g c j
    step_settled (sees_again {g = g} {x = x}) = owed_if g (x == 2) _ _ tt tt
    step_settled (tests {g = g} {x = x}) = owed_if g (x == 1) _ _ tt tt
    step_settled (judges {g = g} {y = y} {x = x}) = owed_if g (y == 0 || nat_lt y x) _ _ tt tt
    step_settled (merges {g = g} {v = v} {x = x}) = owed_if g (v == x) _ _ tt tt
    step_settled (has_twin {g = g} {x = x}) = owed_if g (x == 1) _ _ tt tt
    step_settled (sets {g = g} {write = write} {alone = alone}) = (turn_if g (write && not alone) _ _ refl refl, owed_if g (write && not alone) _ _ tt tt)
    step_settled (sees_release {g = g} {x = x}) = owed_if g (x == 2) _ _ tt tt
    step_settled (lasts {t0 = t0} {g = g} {x = x}) = owed_if g (nat_lt t0 x) _ _ tt tt
    step_settled (draws_send {g = g} {h = h}) = owed_if g (node_of u == h) _ _ tt tt
    step_settled (tests_flush {g = g} {x = x} away) = owed_if g (x == 1) _ _ tt tt
    step_settled (flushes_same {g = g} {v = v} {x = x}) = owed_if g (v == x) _ _ tt tt
    step_settled (reads_dir {g = g} {h = h} {j = j} {x = x}) = owed_if g (x == 0 || j == node_of u || j == h) _ _ tt tt
    step_settled (lowers {g = g} {flushed = flushed} written) = (turn_lowered g flushed, owed_lowered g flushed)
    step_settled (untwins {g = g} {free = free}) = owed_if g free _ _ tt tt
    step_settled (sees_acquire {g = g} {x = x}) = owed_if g (x == 2) _ _ tt tt
    step_settled (judges_own {g = g} {y = y} {x = x}) = owed_if g (y == 0 || nat_lt y x) _ _ tt tt
    step_settled unmaps = (refl, tt)
    step_settled (sees_bare {g = g} {x = x}) = owed_if g (x == 0) _ _ tt tt
    step_settled row = tt

    -- where a turn is won, none is held before it
    wins_turn : {w : Work} {turn : TurnId} {w' : Work} → Wins u ms ds w turn w' → turn_at u w ≡ None
    wins_turn (faults barred) = refl
    wins_turn row = refl

    pub wins_settled : {w : Work} {turn : TurnId} {w' : Work} → Wins u ms ds w turn w' → IsSettled w × IsSettled w'
    wins_settled (faults barred) = (tt, tt)
    wins_settled row = (tt, tt)

    -- a decision keeps the turn
    slip_turn : {w w' : Work} → Slip u ms ds w w' → turn_at u w' ≡ turn_at u w
    slip_turn (shared {g = g} {write = write} {row = row}) = turn_if g (row.busy == 0) _ _ (turn_if g (write && not row.others) _ _ refl refl) refl
    slip_turn (marked {g = g} {h = h} {j = j}) = turn_if g (j == h) _ _ refl refl
    slip_turn (claimed {g = g} {h = h} {row = row}) = turn_if g row.others _ _ refl (turn_if g (node_of u == h) _ _ refl refl)
    slip_turn (unlowered {g = g} {flushed = flushed} unwritten) = turn_lowered g flushed
    slip_turn (dropped {g = g} {unwritten = unwritten}) = turn_if g unwritten _ _ refl refl
    slip_turn (emptied {g = g} {free = free}) = turn_if g free _ _ refl refl
    slip_turn row = refl

    pub slip_settled : {w w' : Work} → Slip u ms ds w w' → IsSettled w'
    slip_settled (shared {g = g} {write = write} {row = row}) = owed_if g (row.busy == 0) _ _ (owed_if g (write && not row.others) _ _ tt tt) tt
    slip_settled (marked {g = g} {h = h} {j = j}) = owed_if g (j == h) _ _ tt tt
    slip_settled (claimed {g = g} {h = h} {row = row}) = owed_if g row.others _ _ tt (owed_if g (node_of u == h) _ _ tt tt)
    slip_settled (unlowered {g = g} {flushed = flushed} unwritten) = owed_lowered g flushed
    slip_settled (dropped {g = g} {unwritten = unwritten}) = owed_if g unwritten _ _ tt tt
    slip_settled (emptied {g = g} {free = free}) = owed_if g free _ _ tt tt
    slip_settled row = tt

  -- so does a note
  note_turn : {w : Work} {n : Note} {w' : Work} → Noted u None w n w' → IsSettled w → turn_at u w' ≡ turn_at u w
  note_turn maps owed = owed.0
  note_turn row owed = refl

  pub note_settled : {w : Work} {n : Note} {w' : Work} → Noted u None w n w' → IsSettled w → IsSettled w'
  note_settled maps owed = owed.1
  note_settled (counts plain) owed = owed
  note_settled row owed = tt

  -- an operation aside gives no turn back
  aside_turn : (a : Act) → IsAside a → turn_back a None ≡ None
  aside_turn (Put (Turn n g) v) is = absurd is
  aside_turn (Put (NoticeTurn n) v) is = absurd is
  aside_turn a is = refl

  -- no turn is held where one is made
  open_turn : (r : Round) → IsOpen r → round_turn u r ≡ None
  open_turn Waiting may = refl
  open_turn Arrived may = refl
  open_turn (Signalling t0) may = refl
  open_turn r may = absurd may

  head_turn : (h : Head) → round_turn u (at_head h) ≡ None
  head_turn Instruction = refl
  head_turn (Locking l) = refl
  head_turn (Looking (Barrier b) need) = refl
  head_turn (Looking (Flag f) need) = refl
  head_turn (Looking Close need) = refl

  -- the job gives back the turn of the place
  pub works_held : {w : Work} {o : Own} {j : Job} → Works u None w o j → IsSettled w → held_turn j ≡ turn_at u w
  works_held (Makes {a = a} within row k) owed = ap (turn_back a) (works_held (k 0) (step_settled (row 0))) ∙ step_turn (row 0)
  works_held (Takes turn within row k) owed = sym (wins_turn row)
  works_held (Marks row k) owed = works_held k (note_settled row owed) ∙ note_turn row owed
  works_held (Asks k) owed = works_held (k new_own) owed
  works_held (Slips row k) owed = works_held k (slip_settled row) ∙ slip_turn row
  works_held (Rests is at) owed = absurd (cc is)
  works_held (Asides {r = r} {a = a} none may is k) owed = ap (turn_back a) (works_held (k 0) tt ∙ open_turn r may) ∙ aside_turn a is ∙ sym (open_turn r may)
  works_held (Begins {h = h} none) owed = sym (head_turn h)
  works_held (Ends none other) owed = refl
  works_held (Halts none) owed = refl
