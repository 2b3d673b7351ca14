-- Along a trail each node that is visited is one of the layout's, so that each step is about one of its nodes.
use Rattle.std.proofs.Common.{ℕ, ◌*◌, ◌/◌, ◌<◌, ◌==◌, Bool, true, false, List, None, sym, subst, if◌then◌else◌}
use Rattle.std.specs.Prelude.{◌&&◌, ◌||◌, not, nat_lt}
use Rattle.dsm_words.specs.Place.{IsWithin}
use Rattle.dsm_words.specs.Script.{Act}
use Rattle.dsm_clock.specs.declared.turns.TurnId.{TurnId}
use Rattle.dsm_clock.specs.Turns.{turn_item}
use Rattle.dsm_protocol.specs.Own.{Own, Who, node_of}
use Rattle.dsm_protocol.specs.Jobs.{Note}
use Rattle.dsm_protocol.specs.Stages.{Cause, Fault, Closing, Seeker, For_fault, For_release, For_closing, Stage, Mapped, Seeking, Missing, Looking, Breaking, Marking, Saving, Ending, Broken, Broadcast, Parted, Round, Work, On, registered, found, held_alone, departed, lowered}
use Rattle.dsm_protocol.specs.Rows.{Step, Wins, Slip, Noted, sees_dir, seeks, settles, looks, reads_map, marks, saves, saves_twin, saves_home, twins_broken, breaks, departs, sees_again, tests, judges, merges, has_twin, sets, sees_release, lasts, draws_send, tests_flush, flushes_same, reads_dir, lowers, untwins, sees_acquire, judges_own, sees_bare, visits, closes, shared, marked, claimed, unlowered, dropped, emptied, maps}
use Rattle.dsm_protocol.specs.Standing.{Does, Row, Won, Lost, Aside}
use Rattle.dsm_protocol.proofs.Placed.{placed}
use Rattle.dsm_runs.specs.Setups.{Setup, who_at}
use Rattle.dsm_ties.proofs.Trails.{Position, Piece, Decides, Acts, Notes, Starves, Trail, Starts, Goes}
use Rattle.dsm_freshness.proofs.Trailing.{left, at_put, works_left}
use Rattle.dsm_twoway.specs.Events.{step_node, slip_node}
use Rattle.dsm_twoway.proofs.PageTrails.{does_node, piece_node}

module _ (u : Who) where
  -- the node that is visited at a stage is one of the layout's
  abbrev Near : Stage → Type 0
  Near (Mapped k s) = Near s
  Near (Seeking (For_closing j)) = j < u.lay.nodes
  Near (Missing (For_closing j)) = j < u.lay.nodes
  Near (Looking c j) = j < u.lay.nodes
  Near (Breaking c h j q) = j < u.lay.nodes
  Near (Marking c h j q) = j < u.lay.nodes
  Near (Saving c h j i part) = j < u.lay.nodes
  Near (Ending c j) = j < u.lay.nodes
  Near (Broken c j) = j < u.lay.nodes
  Near (Broadcast c j) = j < u.lay.nodes
  Near (Parted c j) = j < u.lay.nodes
  Near s = Unit {0}

  abbrev IsNear : Work → Type 0
  IsNear (On r g s) = Near s
  IsNear w = Unit {0}

  -- one of two stages
  pick_near : (d : Bool) (s t : Stage) → Near s → Near t → Near (if d then s else t)
  pick_near true s t a b = a
  pick_near false s t a b = b

  -- where a search of the home, a visit or a lowering leads
  found_near : (a : Seeker) (h : ℕ) → Near (Seeking a) → Near (found u a h)
  found_near (For_fault write d) h k = go (d == 0)
    where
      go : (c : Bool) → Near (registered write h c)
      go true = tt
      go false = tt
  found_near For_release h k = tt
  found_near (For_closing j) h k = k

  missing_near : (a : Seeker) → Near (Seeking a) → Near (Missing a)
  missing_near (For_fault write d) k = tt
  missing_near For_release k = tt
  missing_near (For_closing j) k = k

  missed_near : (a : Seeker) → Near (Missing a) → Near (Seeking a)
  missed_near (For_fault write d) k = tt
  missed_near For_release k = tt
  missed_near (For_closing j) k = k

  alone_near : (c : Cause) (j : ℕ) → j < u.lay.nodes → Near (held_alone u c j)
  alone_near (Fault write h busy) j k = k
  alone_near Closing j k = k

  departed_near : (r : Round) (g : ℕ) (c : Cause) (j : ℕ) → IsNear (departed r g c j)
  departed_near r g (Fault write h busy) j = tt
  departed_near r g Closing j = tt

  lowered_near : (flushed : Bool) → Near (lowered u flushed)
  lowered_near true = tt
  lowered_near false = tt

  module _ {ms : List ℕ} {ds : List Bool} where
    -- each row, each turn that is won, each decision
    step_near : {w : Work} {a : Act} {x : ℕ} {v : Work} → Step u ms ds w a x v → IsNear w → IsNear v
    step_near (sees_dir {x = x}) k = pick_near (x == 2) _ _ tt tt
    step_near (seeks {x = x} {a = a}) k = pick_near (x == 0) _ _ (missing_near a k) (found_near a _ k)
    step_near (settles {x = x} {a = a}) k = found_near a _ (missed_near a k)
    step_near (looks {j = j} {x = x} {c = c}) k = pick_near (x == 2) _ _ (alone_near c j k) k
    step_near (reads_map {x = x}) k = pick_near (x == 2) _ _ k k
    step_near (departs {r = r} {g = g} {j = j} {c = c}) k = departed_near r g c j
    step_near (sees_again {x = x}) k = pick_near (x == 2) _ _ tt tt
    step_near (tests {x = x}) k = pick_near (x == 1) _ _ tt tt
    step_near (judges {y = y} {x = x}) k = pick_near (y == 0 || nat_lt y x) _ _ tt tt
    step_near (merges {v = v} {x = x}) k = pick_near (v == x) _ _ tt tt
    step_near (has_twin {x = x}) k = pick_near (x == 1) _ _ tt tt
    step_near (sets {write = write} {alone = alone}) k = pick_near (write && not alone) _ _ tt tt
    step_near (sees_release {x = x}) k = pick_near (x == 2) _ _ tt tt
    step_near (lasts {t0 = t0} {x = x}) k = pick_near (nat_lt t0 x) _ _ tt tt
    step_near (draws_send {h = h}) k = pick_near (node_of u == h) _ _ tt tt
    step_near (tests_flush {x = x} e) k = pick_near (x == 1) _ _ tt tt
    step_near (flushes_same {v = v} {x = x}) k = pick_near (v == x) _ _ tt tt
    step_near (reads_dir {h = h} {j = j} {x = x}) k = pick_near (x == 0 || j == node_of u || j == h) _ _ tt tt
    step_near (lowers {flushed = flushed} e) k = lowered_near flushed
    step_near (untwins {free = free}) k = pick_near free _ _ tt tt
    step_near (sees_acquire {x = x}) k = pick_near (x == 2) _ _ tt tt
    step_near (judges_own {y = y} {x = x}) k = pick_near (y == 0 || nat_lt y x) _ _ tt tt
    step_near (sees_bare {x = x}) k = pick_near (x == 0) _ _ tt tt
    step_near step k = k

    win_near : {w : Work} {t : TurnId} {v : Work} → Wins u ms ds w t v → IsWithin u.lay (turn_item t) → IsNear v
    win_near (visits j low busy none) within = within.0
    win_near closes within = within.0
    win_near win within = tt

    slip_near : {w v : Work} → Slip u ms ds w v → IsNear w → IsNear v
    slip_near (shared {write = write} {row = row}) k = pick_near (row.busy == 0) _ _ (pick_near (write && not row.others) _ _ tt tt) tt
    slip_near (marked {h = h} {j = j}) k = pick_near (j == h) _ _ k k
    slip_near (claimed {h = h} {row = row}) k = pick_near row.others _ _ tt (pick_near (node_of u == h) _ _ tt tt)
    slip_near (unlowered {flushed = flushed} e) k = lowered_near flushed
    slip_near (dropped {unwritten = unwritten}) k = pick_near unwritten _ _ tt tt
    slip_near (emptied {free = free}) k = pick_near free _ _ tt tt
    slip_near slip k = k

    -- the node that each is about
    step_in : (h g i : ℕ) {w : Work} {a : Act} {x : ℕ} {v : Work} (step : Step u ms ds w a x v) → IsNear w → node_of u < u.lay.nodes → step_node h g i u step < u.lay.nodes
    step_in h g i looks k n = k
    step_in h g i reads_map k n = k
    step_in h g i (marks lo hi) k n = k
    step_in h g i saves k n = k
    step_in h g i saves_twin k n = k
    step_in h g i saves_home k n = k
    step_in h g i (twins_broken e) k n = k
    step_in h g i breaks k n = k
    step_in h g i step k n = n

    slip_in : (h g i : ℕ) {w v : Work} (slip : Slip u ms ds w v) → IsNear w → node_of u < u.lay.nodes → slip_node h g i u slip < u.lay.nodes
    slip_in h g i marked k n = k
    slip_in h g i slip k n = n

  -- each note
  note_near : {w v : Work} {e : Note} → Noted u None w e v → IsNear w → IsNear v
  note_near maps k = k
  note_near noted k = k

module _ (s : Setup) where
  -- behind an operation, a step, and along a trail
  does_near : (p : ℕ) {o : Own} {w : Work} {a : Act} {x : ℕ} {v : Work} → Does (who_at s p) o w a x v → IsNear (who_at s p) w → IsNear (who_at s p) v
  does_near p (Row within step) k = step_near (who_at s p) step k
  does_near p (Won turn within win is) k = win_near (who_at s p) win within
  does_near p (Lost turn within win ne) k = k
  does_near p (Aside may is) k = k

  piece_near : (z : Position) (p : ℕ) (piece : Piece s z p) → IsNear (who_at s p) (z.works p) → IsNear (who_at s p) (left s piece)
  piece_near z p (Decides slip) k = slip_near (who_at s p) slip k
  piece_near z p (Acts any does) k = does_near p does k
  piece_near z p (Notes e noted) k = note_near (who_at s p) noted k
  piece_near z p (Starves o none) k = tt

  near_along : {z : Position} (t : Trail s z) (q : ℕ) → IsNear (who_at s q) (z.works q)
  near_along Starts q = tt
  near_along (Goes {z = z} t p p_in fine piece fair quiet) q =
      subst (IsNear (who_at s q)) (works_left s z p piece q)
      (at_put (IsNear (who_at s q)) z.works p q (left s piece) (λ e. subst (λ y. IsNear (who_at s y) (left s piece)) (sym e) (piece_near z p piece (near_along t p))) (λ ne. near_along t q))

  module _ (h g i : ℕ) where
    does_in : (p : ℕ) {o : Own} {w : Work} {a : Act} {x : ℕ} {v : Work} (does : Does (who_at s p) o w a x v) → IsNear (who_at s p) w → p / s.procs < s.nodes → does_node s h g i p does < s.nodes
    does_in p (Row within step) k n = step_in (who_at s p) h g i step k n
    does_in p (Won turn within win is) k n = n
    does_in p (Lost turn within win ne) k n = n
    does_in p (Aside may is) k n = n

    piece_in : (z : Position) (p : ℕ) (piece : Piece s z p) → IsNear (who_at s p) (z.works p) → p / s.procs < s.nodes → piece_node s h g i piece < s.nodes
    piece_in z p (Decides slip) k n = slip_in (who_at s p) h g i slip k n
    piece_in z p (Acts any does) k n = does_in p does k n
    piece_in z p (Notes e noted) k n = n
    piece_in z p (Starves o none) k n = n

    -- the node of each step is one of the layout's
    pub near : {z : Position} (t : Trail s z) (p : ℕ) → p < s.nodes * s.procs → (piece : Piece s z p) → piece_node s h g i piece < s.nodes
    near {z = z} t p p_in piece = piece_in z p piece (near_along t p) (placed (who_at s p) p_in).node_in
