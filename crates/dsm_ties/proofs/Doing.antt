-- The events of a row are of its own processor alone.
use Rattle.std.proofs.Common.{ℕ, ◌==◌, Bool, true, false, List, refl, if◌then◌else◌}
use Rattle.std.specs.Prelude.{nat_lt, ◌||◌, ◌&&◌, not}
use Rattle.dsm_words.specs.Script.{Act}
use Rattle.dsm_clock.specs.declared.turns.TurnId.{TurnId}
use Rattle.dsm_directory.specs.declared.row.Row.{Row}
use Rattle.dsm_protocol.specs.Own.{Who, node_of}
use Rattle.dsm_protocol.specs.Stages.{Seeker, For_fault, For_release, For_closing, Work}
use Rattle.dsm_protocol.specs.Rows.{Step, Wins, Slip, sees_dir, seeks, settles, clears, registers, shares, wants, parts, looks, marks, twins_broken, breaks, departs, sees_again, tests, claims, looks_again, withdraws, draws_enter, stamps_enter, enters, compares, judges, draws, stamps, has_twin, made, sets, gives, sees_release, lasts, tests_flush, stamps_flush, posts, lowers, drops, untwins, unlists, finishes, sees_acquire, judges_own, unmaps, empties, sees_bare, leaves, gives_over, collects, stops, faults, visits, returns, releases, acquires, closes, hears, shared, unwanted, marked, claimed, at_home, read_only, posted, unlowered, ends, forsaken}
use Rattle.dsm_owners.specs.Directory.{Event}
use Rattle.dsm_ties.specs.Events.{seek_events, settle_events, share_events, again_events, send_events, lowered_events, drop_events, empty_events, row_events, step_events, win_events, slip_events, is_of, events_at, won_at, slipped_at}
use Rattle.dsm_ties.proofs.Elsewhere.{AllBy}

module _ (u : Who) where
  by_if : (c : Bool) (es fs : List Event) → AllBy u.p es → AllBy u.p fs → AllBy u.p (if c then es else fs)
  by_if true es fs a b = a
  by_if false es fs a b = b

  by_seek : (a : Seeker) (x : ℕ) → AllBy u.p (seek_events u a x)
  by_seek (For_fault write d) x = by_if (x == 0) _ _ (refl, tt) (by_if (d == 0) _ _ (refl, tt) (refl, tt))
  by_seek For_release x = tt
  by_seek (For_closing j) x = tt

  by_settle : (a : Seeker) (x : ℕ) → AllBy u.p (settle_events u a x)
  by_settle (For_fault write d) x = by_if (x == 0) _ _ (refl, (refl, tt)) (refl, tt)
  by_settle For_release x = tt
  by_settle (For_closing j) x = tt

  by_share : (own : Bool) (x : ℕ) (write : Bool) (row : Row) (j : ℕ) → AllBy u.p (share_events u own x write row j)
  by_share true x write row j = (refl, tt)
  by_share false x write row j = by_if (x == 0) _ _ (refl, tt) (by_if (x == 1) _ _ (refl, tt) (refl, tt))

  by_again : (others own : Bool) (x j : ℕ) → AllBy u.p (again_events u others own x j)
  by_again true own x j = tt
  by_again false true x j = (refl, tt)
  by_again false false x j = by_if (x == 0) _ _ (refl, tt) (refl, tt)

  by_send : (flushed home : Bool) → AllBy u.p (send_events u flushed home)
  by_send true home = (refl, tt)
  by_send false true = (refl, tt)
  by_send false false = tt

  by_lowered : (flushed : Bool) → AllBy u.p (lowered_events u flushed)
  by_lowered true = (refl, tt)
  by_lowered false = (refl, tt)

  by_drop : (unwritten free : Bool) (x q : ℕ) → AllBy u.p (drop_events u unwritten free x q)
  by_drop true free x q = by_if (x == 2) _ _ (refl, tt) (by_if (x == 0) _ _ (refl, tt) (refl, tt))
  by_drop false free x q = tt

  by_empty : (free : Bool) (x q : ℕ) → AllBy u.p (empty_events u free x q)
  by_empty true x q = by_if (x == 0) _ _ (refl, tt) (refl, tt)
  by_empty false x q = tt

  by_row : (write : Bool) (row : Row) → AllBy u.p (row_events u write row)
  by_row write row = by_if (row.busy == 0) _ _ (refl, by_if (write && not row.others) _ _ tt (refl, tt)) (refl, tt)

  module _ {maps : List ℕ} {dirty : List Bool} where
    by_step : {w : Work} {a : Act} {x : ℕ} {v : Work} (step : Step u maps dirty w a x v) → AllBy u.p (step_events u step)
    by_step (sees_dir {x = x}) = by_if (x == 2) _ _ (refl, tt) (refl, tt)
    by_step (seeks {x = x} {a = a}) = by_seek a x
    by_step (settles {x = x} {a = a}) = by_settle a x
    by_step clears = (refl, tt)
    by_step registers = (refl, tt)
    by_step (shares {j = j} {x = x} {write = write} {row = row}) = by_share (j == node_of u) x write row j
    by_step (wants e) = (refl, tt)
    by_step parts = (refl, tt)
    by_step (looks {x = x}) = by_if (x == 2) _ _ (refl, tt) (refl, tt)
    by_step (marks lo hi) = (refl, tt)
    by_step (twins_broken e) = (refl, tt)
    by_step breaks = (refl, tt)
    by_step departs = (refl, tt)
    by_step (sees_again {x = x}) = by_if (x == 2) _ _ (refl, tt) (refl, tt)
    by_step (tests {x = x}) = by_if (x == 1) _ _ (refl, tt) (refl, tt)
    by_step claims = (refl, tt)
    by_step (looks_again {j = j} {x = x} {row = row}) = by_again row.others (j == node_of u) x j
    by_step withdraws = (refl, tt)
    by_step draws_enter = (refl, tt)
    by_step stamps_enter = (refl, tt)
    by_step enters = (refl, tt)
    by_step (compares e) = (refl, tt)
    by_step (judges {y = y} {x = x}) = by_if (y == 0 || nat_lt y x) _ _ (refl, tt) (refl, tt)
    by_step draws = (refl, tt)
    by_step stamps = (refl, tt)
    by_step (has_twin {x = x}) = by_if (x == 1) _ _ (refl, tt) (refl, tt)
    by_step made = (refl, tt)
    by_step sets = (refl, tt)
    by_step gives = (refl, tt)
    by_step (sees_release {x = x}) = by_if (x == 2) _ _ (refl, tt) (refl, tt)
    by_step (lasts {t0 = t0} {x = x}) = by_if (nat_lt t0 x) _ _ (refl, tt) tt
    by_step (tests_flush {x = x} e) = by_if (x == 1) _ _ (refl, tt) (refl, tt)
    by_step (stamps_flush {h = h} {flushed = flushed}) = by_send flushed (node_of u == h)
    by_step (posts v e) = (refl, tt)
    by_step (lowers {flushed = flushed} e) = (refl, by_lowered flushed)
    by_step (drops {q = q} {x = x} {unwritten = unwritten} {free = free} lo hi) = by_drop unwritten free x q
    by_step (untwins {free = true}) = (refl, tt)
    by_step (untwins {free = false}) = (refl, tt)
    by_step unlists = (refl, tt)
    by_step finishes = (refl, tt)
    by_step (sees_acquire {x = x}) = by_if (x == 2) _ _ (refl, tt) (refl, tt)
    by_step (judges_own {y = y} {x = x}) = by_if (y == 0 || nat_lt y x) _ _ tt (refl, tt)
    by_step unmaps = (refl, tt)
    by_step (empties {q = q} {x = x} {free = free} lo hi) = by_empty free x q
    by_step (sees_bare {x = x}) = by_if (x == 0) _ _ (refl, tt) (refl, tt)
    by_step leaves = (refl, tt)
    by_step gives_over = (refl, tt)
    by_step collects = (refl, tt)
    by_step stops = (refl, tt)
    by_step step = tt

    by_win : {w v : Work} {t : TurnId} (win : Wins u maps dirty w t v) → AllBy u.p (win_events u win)
    by_win (faults e) = (refl, tt)
    by_win (visits j lo is none) = (refl, tt)
    by_win (returns none) = (refl, tt)
    by_win (releases e) = (refl, tt)
    by_win (acquires e) = (refl, tt)
    by_win closes = (refl, tt)
    by_win hears = tt

    by_slip : {w v : Work} (slip : Slip u maps dirty w v) → AllBy u.p (slip_events u slip)
    by_slip (shared {write = write} {row = row}) = by_row write row
    by_slip (unwanted e) = (refl, tt)
    by_slip (marked {h = h} {j = j}) = by_if (j == h) _ _ (refl, tt) tt
    by_slip (claimed {h = h} {row = row}) = by_if row.others _ _ tt (by_if (node_of u == h) _ _ (refl, tt) (refl, tt))
    by_slip (at_home e) = (refl, tt)
    by_slip read_only = (refl, tt)
    by_slip posted = (refl, tt)
    by_slip (unlowered {flushed = flushed} e) = (refl, by_lowered flushed)
    by_slip ends = (refl, tt)
    by_slip forsaken = (refl, tt)
    by_slip slip = tt

    -- so are those of each page
    pub by_events : (g : ℕ) {w : Work} {a : Act} {x : ℕ} {v : Work} (step : Step u maps dirty w a x v) → AllBy u.p (events_at g u step)
    by_events g {w = w} step = by_if (is_of g w) _ _ (by_step step) tt

    pub by_won : (g : ℕ) {w v : Work} {t : TurnId} (win : Wins u maps dirty w t v) → AllBy u.p (won_at g u win)
    by_won g {v = v} win = by_if (is_of g v) _ _ (by_win win) tt

    pub by_slipped : (g : ℕ) {w v : Work} (slip : Slip u maps dirty w v) → AllBy u.p (slipped_at g u slip)
    by_slipped g {w = w} slip = by_if (is_of g w) _ _ (by_slip slip) tt
