-- The examples are computed, and go by the table.
use Rattle.std.proofs.Common.{◌≡◌, ℕ, zero, suc, ◌<◌, ◌≤◌, false, refl, arith}
use Rattle.dsm_entry.specs.declared.entry.Entry.TheVariants.{Store, Signal, Pass}
use Rattle.dsm_entry.specs.declared.entry.Obj.TheVariants.{Lock}
use Rattle.dsm_clock.specs.declared.turns.TurnId.TheVariants.{Page, Notices}
use Rattle.dsm_directory.specs.Directory.{is_busy}
use Rattle.dsm_protocol.specs.Own.{Write_faults, Overwrites, Twins, Flushes, Notices as Notice_counts, Unmaps, Breaks}
use Rattle.dsm_protocol.specs.Jobs.{Give, Move, Append, Map_own, Soil, Clean, Join, Count, Happen, Passed, Acquired, Sent, Told, Began, Fetched}
use Rattle.dsm_protocol.specs.Rows.{stores, sees_dir, seeks, clears, registers, shares, wants, parts, looks, reads_map, marks, saves, saves_twin, saves_home, twins_broken, breaks, departs, sees_again, compares, judges, draws, sees_twin, copies, copies_over, stamps, has_twin, makes, makes_twin, made, sets, gives, sees_release, lasts, draws_send, tests_flush, flushes, flushes_same, flushes_twin, flushes_home, stamps_flush, reads_dir, posts, lowers, drops, untwins, finishes, sees_acquire, compares_own, judges_own, unmaps, empties, sees_bare, leaves, gives_over, draws_release, collects, drains, draws_notice, notices, flags, gives_notices, takes, faults, visits, returns, releases, hears, acquires, accesses, waits, finished, shared, marked, flushed_all, posted, dropped, emptied, released, unheard, heard, flagged, next_node, drained, taken, passed_over, maps, soils, cleans, joins, appends_store, signals, admits, moves, passes, acquired, begins_copy, fetched, broken, broadcast, sent, told, counts}
use Rattle.dsm_protocol.specs.Standing.{Stay, Decides, Notes, Row, Won, Lost, Aside}
use Rattle.dsm_protocol.specs.Examples.{Makes, Follows, Arrived, Then, who, code, no_pages, at_first, locked, written, unlocked, locking, faulting, unlocking, locking_again}

-- nodes, the page and words
n0 : 0 < 3
n0 = omega arith

n1 : 1 < 3
n1 = omega arith

n2 : 2 < 3
n2 = omega arith

g0 : 0 < 1
g0 = omega arith

w0 : 0 < 2
w0 = omega arith

w1 : 1 < 2
w1 = omega arith

-- of the nodes below 2 none is busy, and there is none from 3 on
idle_below : (k : ℕ) → 0 ≤ k → k < 2 → is_busy 4 k ≡ false
idle_below zero lo hi = refl
idle_below (suc zero) lo hi = refl
idle_below (suc (suc k)) lo hi = absurd (omega (arith, hi))

none_behind : (k : ℕ) → 3 ≤ k → k < 3 → is_busy 4 k ≡ false
none_behind k lo hi = absurd (omega (arith, lo, hi))

pub locks : Makes who code at_first locking
locks = (refl, refl, refl)

pub locks_by_rows : Follows who locking
locks_by_rows =
    Then (Aside tt tt) (Decides finished (Notes (Give 1 7) (gives refl) (Decides waits Stay))) (
    Then (Aside tt tt) Stay (
    Then (Aside tt tt) (Notes (Append (Pass (Lock 0) 0)) (admits refl refl) (Notes (Happen (Passed 1)) (passes refl) Stay)) (
    Then (Won (Notices 1) n1 hears refl) Stay (
    Then (Row (n1, n0, g0) drains) (Decides (unheard refl) (Decides heard (Decides next_node Stay))) (
    Then (Row (n1, n1, g0) drains) (Decides (unheard refl) (Decides heard (Decides next_node Stay))) (
    Then (Row (n1, n2, g0) drains) (Decides (unheard refl) (Decides heard (Decides next_node (Decides drained Stay)))) (
    Then (Row n1 gives_notices) Stay (
    Then (Row (n1, g0) takes) (Decides taken (Decides (passed_over refl) (Notes (Happen (Acquired 1)) acquired (Notes Move (moves refl) (Decides accesses Stay))))) Arrived))))))))

pub faults_and_stores : Makes who code locked faulting
faults_and_stores = (refl, refl, refl)

pub faults_and_stores_by_rows : Follows who faulting
faults_and_stores_by_rows =
    Then (Won (Page 1 0) (n1, g0) (faults refl) refl) Stay (
    Then (Row (n1, g0) sees_dir) Stay (
    Then (Row g0 seeks) Stay (
    Then (Row (n1, g0) clears) Stay (
    Then (Row (n1, g0) registers) Stay (
    Then (Row (n0, g0) shares) Stay (
    Then (Row (n1, g0) shares) Stay (
    Then (Row (n2, g0) shares) (Decides shared Stay) (
    Then (Row (n1, g0) (wants refl)) (Notes (Map_own 0 3) maps Stay) (
    Then (Row (n1, g0) parts) Stay (
    Then (Lost (Page 2 0) (n2, g0) (visits 2 (omega arith) refl idle_below) (λ e. omega (arith, e))) Stay (
    Then (Won (Page 2 0) (n2, g0) (visits 2 (omega arith) refl idle_below) refl) Stay (
    Then (Row (n2, g0) looks) Stay (
    Then (Row (n2, g0) reads_map) Stay (
    Then (Row (n2, g0) (marks (omega arith) (omega arith))) (Decides marked Stay) (
    Then (Row (n2, g0, w0) saves) Stay (
    Then (Row (n2, g0, w0) saves_twin) Stay (
    Then (Row (n0, g0, w0) saves_home) Stay (
    Then (Row (n2, g0, w1) saves) Stay (
    Then (Row (n2, g0, w1) saves_twin) Stay (
    Then (Row (n0, g0, w1) saves_home) Stay (
    Then (Row (n2, g0) (twins_broken refl)) Stay (
    Then (Row (n2, g0) breaks) (Notes (Count Breaks) (counts tt) (Notes (Happen (Sent 2 0)) broken (Notes (Happen (Told 2 0)) broadcast Stay))) (
    Then (Row (n2, g0) departs) Stay (
    Then (Won (Page 1 0) (n1, g0) (returns none_behind) refl) Stay (
    Then (Row (n1, g0) sees_again) Stay (
    Then (Row (n1, g0) (compares refl)) Stay (
    Then (Row (n1, g0) judges) Stay (
    Then (Row n1 draws) Stay (
    Then (Row (n1, g0) sees_twin) Stay (
    Then (Row (n0, g0, w0) copies) (Notes (Happen (Began 1 0)) begins_copy Stay) (
    Then (Row (n1, g0, w0) copies_over) Stay (
    Then (Row (n0, g0, w1) copies) Stay (
    Then (Row (n1, g0, w1) copies_over) (Notes (Count Overwrites) (counts tt) (Notes (Happen (Fetched 1 0)) fetched Stay)) (
    Then (Row (n1, g0) stamps) Stay (
    Then (Row (n1, g0) has_twin) Stay (
    Then (Row (n1, g0, w0) makes) Stay (
    Then (Row (n1, g0, w0) makes_twin) Stay (
    Then (Row (n1, g0, w1) makes) Stay (
    Then (Row (n1, g0, w1) makes_twin) Stay (
    Then (Row (n1, g0) made) (Notes (Count Twins) (counts tt) Stay) (
    Then (Row (n1, g0) sets) (Notes (Map_own 0 2) maps (Notes (Count Write_faults) (counts tt) (Notes (Soil 0) soils Stay))) (
    Then (Row (n1, g0) gives) Stay (
    Then (Row (n1, g0, w0) (stores (λ i. refl))) (Notes (Append (Store 0 7)) (appends_store refl) (Notes Move (moves refl) Stay)) Arrived)))))))))))))))))))))))))))))))))))))))))))

pub unlocks : Makes who code written unlocking
unlocks = (refl, refl, refl)

pub unlocks_by_rows : Follows who unlocking
unlocks_by_rows =
    Then (Row n1 draws_release) Stay (
    Then (Row (n1, g0) collects) (Notes (Join no_pages) joins Stay) (
    Then (Won (Page 1 0) (n1, g0) (releases refl) refl) Stay (
    Then (Row (n1, g0) sees_release) Stay (
    Then (Row g0 seeks) Stay (
    Then (Row (n1, g0) lasts) Stay (
    Then (Row n1 draws_send) Stay (
    Then (Row (n1, g0) (tests_flush refl)) Stay (
    Then (Row (n1, g0, w0) flushes) Stay (
    Then (Row (n1, g0, w0) flushes_same) Stay (
    Then (Row (n1, g0, w0) flushes_twin) Stay (
    Then (Row (n0, g0, w0) flushes_home) Stay (
    Then (Row (n1, g0, w1) flushes) Stay (
    Then (Row (n1, g0, w1) flushes_same) (Decides flushed_all (Notes (Count Flushes) (counts tt) Stay)) (
    Then (Row (n1, g0) stamps_flush) (Notes (Happen (Sent 1 0)) (sent refl) Stay) (
    Then (Row (n0, g0) reads_dir) Stay (
    Then (Row (n1, g0) reads_dir) Stay (
    Then (Row (n2, g0) reads_dir) Stay (
    Then (Row (n2, n1, g0) (posts 1 refl)) (Notes (Count Notice_counts) (counts tt) (Decides posted (Notes (Happen (Told 1 0)) (told refl) Stay))) (
    Then (Row (n1, g0) (lowers refl)) (Notes (Map_own 0 1) maps Stay) (
    Then (Row (n1, g0) (drops (omega arith) (omega arith))) (Decides dropped Stay) (
    Then (Row (n1, g0) untwins) Stay (
    Then (Row (n1, g0) finishes) (Notes (Clean 0) cleans (Decides released Stay)) (
    Then (Aside tt tt) (Notes (Append (Signal (Lock 0) 0)) (signals refl refl) (Decides finished (Notes Move (moves refl) (Decides waits Stay)))) Arrived)))))))))))))))))))))))

pub locks_again : Makes who code unlocked locking_again
locks_again = (refl, refl, refl)

pub locks_again_by_rows : Follows who locking_again
locks_again_by_rows =
    Then (Aside tt tt) Stay (
    Then (Aside tt tt) (Notes (Append (Pass (Lock 0) 2)) (admits refl refl) (Notes (Happen (Passed 1)) (passes refl) Stay)) (
    Then (Won (Notices 1) n1 hears refl) Stay (
    Then (Row (n1, n0, g0) drains) (Decides (unheard refl) (Decides heard (Decides next_node Stay))) (
    Then (Row (n1, n1, g0) drains) (Decides (unheard refl) (Decides heard (Decides next_node Stay))) (
    Then (Row (n1, n2, g0) drains) Stay (
    Then (Row n1 (draws_notice refl (omega arith) (omega arith))) Stay (
    Then (Row (n1, g0) notices) Stay (
    Then (Row (n1, g0) (flags refl (omega arith) (omega arith))) (Decides flagged (Decides heard (Decides next_node (Decides drained Stay)))) (
    Then (Row n1 gives_notices) Stay (
    Then (Row (n1, g0) takes) (Decides taken Stay) (
    Then (Won (Page 1 0) (n1, g0) (acquires refl) refl) Stay (
    Then (Row (n1, g0) sees_acquire) Stay (
    Then (Row (n1, g0) compares_own) Stay (
    Then (Row (n1, g0) judges_own) Stay (
    Then (Row (n1, g0) unmaps) (Notes (Map_own 0 0) maps (Notes (Count Unmaps) (counts tt) Stay)) (
    Then (Row (n1, g0) (empties (omega arith) (omega arith))) (Decides emptied Stay) (
    Then (Row (n1, g0) sees_bare) Stay (
    Then (Row (n1, g0) leaves) Stay (
    Then (Row (n1, g0) gives_over) (Notes (Happen (Acquired 1)) acquired (Notes Move (moves refl) Stay)) Arrived)))))))))))))))))))
