-- All rows, turns, decisions and notes, for what a node owes.
use Rattle.std.proofs.Common.{ℕ, None}
use Rattle.dsm_words.specs.Script.{Act}
use Rattle.dsm_clock.specs.declared.turns.TurnId.{TurnId}
use Rattle.dsm_protocol.specs.Own.{Own}
use Rattle.dsm_protocol.specs.Jobs.{Note}
use Rattle.dsm_protocol.specs.Stages.{Work}
use Rattle.dsm_protocol.specs.Rows.{Step, Wins, Slip, Noted, loads, stores, sees_dir, seeks, settles, clears, registers, shares, wants, parts, looks, reads_map, marks, saves, saves_twin, saves_home, twins_broken, breaks, departs, sees_again, tests, claims, looks_again, withdraws, draws_enter, fills, fills_own, stamps_enter, enters, compares, judges, draws, sees_twin, copies, copies_over, merges, merges_own, merges_twin, stamps, has_twin, makes, makes_twin, made, sets, gives, sees_release, lasts, draws_send, tests_flush, flushes, flushes_same, flushes_twin, flushes_home, stamps_flush, reads_dir, posts, lowers, drops, untwins, unlists, finishes, sees_acquire, compares_own, judges_own, unmaps, empties, sees_bare, leaves, gives_over, draws_release, collects, drains, draws_notice, notices, flags, gives_notices, takes, seeks_holder, stops, faults, visits, returns, releases, hears, acquires, closes, accesses, waits, tells, finished, ends, forsaken, despairs, shared, unwanted, marked, claimed, at_home, read_only, flushed_all, unsent, posted, untold, unlowered, dropped, emptied, clean, released, unheard, heard, flagged, next_node, drained, taken, passed_over, closing, unclosing, unheld, closed, maps, soils, cleans, joins, appends_load, appends_store, signals, admits, arrives, dismisses, goes, moves, passes, quits, acquired, begins_copy, begins_fill, fetched, filled, broken, broadcast, sent, told, counts}
use Rattle.dsm_releases.proofs.Words.{Scene}
use Rattle.dsm_releases.proofs.Frame.{RowActs, WinActs, SlipActs, NoteActs}
use Rattle.dsm_releases.proofs.Following.{EachActs}
use Rattle.dsm_releases.proofs.AcquireRows.{note_acquired, row_compares_own, row_drains, row_draws_notice, row_empties, row_flags, row_gives_notices, row_gives_over, row_judges_own, row_leaves, row_notices, row_sees_acquire, row_sees_bare, row_takes, row_unmaps, slip_drained, slip_emptied, slip_flagged, slip_heard, slip_next_node, slip_passed_over, slip_taken, slip_unheard, win_acquires, win_hears}
use Rattle.dsm_releases.proofs.FaultRows.{row_claims, row_clears, row_gives, row_loads, row_looks_again, row_parts, row_registers, row_seeks, row_sees_again, row_settles, row_shares, row_tests, row_wants, row_withdraws, slip_accesses, slip_at_home, slip_claimed, slip_read_only, slip_shared, slip_unwanted, win_faults, win_returns}
use Rattle.dsm_releases.proofs.FetchRows.{note_appends_load, note_appends_store, note_begins_copy, note_begins_fill, note_fetched, row_compares, row_copies, row_copies_over, row_draws, row_draws_enter, row_enters, row_fills, row_fills_own, row_has_twin, row_judges, row_made, row_makes, row_makes_twin, row_merges, row_merges_own, row_merges_twin, row_sees_twin, row_stamps, row_stamps_enter}
use Rattle.dsm_releases.proofs.Models.{note_arrives, note_cleans, note_filled, note_joins, note_maps, note_signals, note_soils, row_breaks, row_collects, row_draws_send, row_drops, row_finishes, row_flushes_same, row_reads_map, row_saves, row_sees_dir, row_sets, row_stamps_flush, row_stores, slip_clean, slip_marked, slip_released, win_releases, win_visits}
use Rattle.dsm_releases.proofs.PlainRows.{note_admits, note_counts, note_dismisses, note_gives, note_goes, note_moves, note_passes, note_quits, row_draws_release, slip_despairs, slip_ends, slip_finished, slip_forsaken, slip_tells, slip_waits}
use Rattle.dsm_releases.proofs.SendRows.{note_sent, note_told, row_flushes, row_flushes_home, row_flushes_twin, row_lasts, row_lowers, row_posts, row_reads_dir, row_sees_release, row_tests_flush, row_unlists, row_untwins, slip_dropped, slip_flushed_all, slip_posted, slip_unlowered, slip_unsent, slip_untold}
use Rattle.dsm_releases.proofs.VisitRows.{note_broadcast, note_broken, row_departs, row_looks, row_marks, row_saves_home, row_saves_twin, row_seeks_holder, row_stops, row_twins_broken, slip_closed, slip_closing, slip_unclosing, slip_unheld, win_closes}

rows : (c : Scene) (o : Own) {w : Work} {a : Act} {x : ℕ} {v : Work} (step : Step c.u o.maps o.dirty w a x v) → RowActs c o step
rows c o (loads d) = row_loads c o d
rows c o (stores d) = row_stores c o d
rows c o sees_dir = row_sees_dir c o
rows c o seeks = row_seeks c o
rows c o settles = row_settles c o
rows c o clears = row_clears c o
rows c o registers = row_registers c o
rows c o shares = row_shares c o
rows c o (wants d) = row_wants c o d
rows c o parts = row_parts c o
rows c o looks = row_looks c o
rows c o reads_map = row_reads_map c o
rows c o (marks d e) = row_marks c o d e
rows c o saves = row_saves c o
rows c o saves_twin = row_saves_twin c o
rows c o saves_home = row_saves_home c o
rows c o (twins_broken d) = row_twins_broken c o d
rows c o breaks = row_breaks c o
rows c o departs = row_departs c o
rows c o sees_again = row_sees_again c o
rows c o tests = row_tests c o
rows c o claims = row_claims c o
rows c o looks_again = row_looks_again c o
rows c o withdraws = row_withdraws c o
rows c o draws_enter = row_draws_enter c o
rows c o fills = row_fills c o
rows c o fills_own = row_fills_own c o
rows c o stamps_enter = row_stamps_enter c o
rows c o enters = row_enters c o
rows c o (compares d) = row_compares c o d
rows c o judges = row_judges c o
rows c o draws = row_draws c o
rows c o sees_twin = row_sees_twin c o
rows c o copies = row_copies c o
rows c o copies_over = row_copies_over c o
rows c o merges = row_merges c o
rows c o merges_own = row_merges_own c o
rows c o merges_twin = row_merges_twin c o
rows c o stamps = row_stamps c o
rows c o has_twin = row_has_twin c o
rows c o makes = row_makes c o
rows c o makes_twin = row_makes_twin c o
rows c o made = row_made c o
rows c o sets = row_sets c o
rows c o gives = row_gives c o
rows c o sees_release = row_sees_release c o
rows c o lasts = row_lasts c o
rows c o draws_send = row_draws_send c o
rows c o (tests_flush d) = row_tests_flush c o d
rows c o flushes = row_flushes c o
rows c o flushes_same = row_flushes_same c o
rows c o flushes_twin = row_flushes_twin c o
rows c o flushes_home = row_flushes_home c o
rows c o stamps_flush = row_stamps_flush c o
rows c o reads_dir = row_reads_dir c o
rows c o (posts d e) = row_posts c o d e
rows c o (lowers d) = row_lowers c o d
rows c o (drops d e) = row_drops c o d e
rows c o untwins = row_untwins c o
rows c o unlists = row_unlists c o
rows c o finishes = row_finishes c o
rows c o sees_acquire = row_sees_acquire c o
rows c o compares_own = row_compares_own c o
rows c o judges_own = row_judges_own c o
rows c o unmaps = row_unmaps c o
rows c o (empties d e) = row_empties c o d e
rows c o sees_bare = row_sees_bare c o
rows c o leaves = row_leaves c o
rows c o gives_over = row_gives_over c o
rows c o draws_release = row_draws_release c o
rows c o collects = row_collects c o
rows c o drains = row_drains c o
rows c o (draws_notice d e f) = row_draws_notice c o d e f
rows c o notices = row_notices c o
rows c o (flags d e f) = row_flags c o d e f
rows c o gives_notices = row_gives_notices c o
rows c o takes = row_takes c o
rows c o seeks_holder = row_seeks_holder c o
rows c o stops = row_stops c o

wins : (c : Scene) (o : Own) {w : Work} {t : TurnId} {v : Work} (win : Wins c.u o.maps o.dirty w t v) → WinActs c o win
wins c o (faults d) = win_faults c o d
wins c o (visits d e f h) = win_visits c o d e f h
wins c o (returns d) = win_returns c o d
wins c o (releases d) = win_releases c o d
wins c o hears = win_hears c o
wins c o (acquires d) = win_acquires c o d
wins c o closes = win_closes c o

slips : (c : Scene) (o : Own) {w v : Work} (slip : Slip c.u o.maps o.dirty w v) → SlipActs c o slip
slips c o accesses = slip_accesses c o
slips c o waits = slip_waits c o
slips c o tells = slip_tells c o
slips c o finished = slip_finished c o
slips c o ends = slip_ends c o
slips c o forsaken = slip_forsaken c o
slips c o despairs = slip_despairs c o
slips c o shared = slip_shared c o
slips c o (unwanted d) = slip_unwanted c o d
slips c o marked = slip_marked c o
slips c o claimed = slip_claimed c o
slips c o (at_home d) = slip_at_home c o d
slips c o read_only = slip_read_only c o
slips c o flushed_all = slip_flushed_all c o
slips c o (unsent d) = slip_unsent c o d
slips c o posted = slip_posted c o
slips c o (untold d) = slip_untold c o d
slips c o (unlowered d) = slip_unlowered c o d
slips c o dropped = slip_dropped c o
slips c o emptied = slip_emptied c o
slips c o (clean d) = slip_clean c o d
slips c o released = slip_released c o
slips c o (unheard d) = slip_unheard c o d
slips c o heard = slip_heard c o
slips c o flagged = slip_flagged c o
slips c o next_node = slip_next_node c o
slips c o drained = slip_drained c o
slips c o taken = slip_taken c o
slips c o (passed_over d) = slip_passed_over c o d
slips c o (closing d) = slip_closing c o d
slips c o (unclosing d) = slip_unclosing c o d
slips c o unheld = slip_unheld c o
slips c o closed = slip_closed c o

notes : (c : Scene) (o : Own) {w : Work} {i : Note} {v : Work} (noted : Noted c.u None w i v) → NoteActs c o noted
notes c o maps = note_maps c o
notes c o soils = note_soils c o
notes c o cleans = note_cleans c o
notes c o joins = note_joins c o
notes c o (appends_load d) = note_appends_load c o d
notes c o (appends_store d) = note_appends_store c o d
notes c o (signals {of = of} {j = j} d other) = note_signals c o of j d other
notes c o (admits {of = of} {c = k} d other) = note_admits c o of k d other
notes c o (arrives {j = j} d) = note_arrives c o j d
notes c o (dismisses {c = k} d) = note_dismisses c o k d
notes c o (gives {d = q} {v = v} d) = note_gives c o q v d
notes c o (goes {to = to} d) = note_goes c o to d
notes c o (moves d) = note_moves c o d
notes c o (passes d) = note_passes c o d
notes c o (quits d) = note_quits c o d
notes c o acquired = note_acquired c o
notes c o begins_copy = note_begins_copy c o
notes c o begins_fill = note_begins_fill c o
notes c o fetched = note_fetched c o
notes c o filled = note_filled c o
notes c o broken = note_broken c o
notes c o broadcast = note_broadcast c o
notes c o (sent d) = note_sent c o d
notes c o (told d) = note_told c o d
notes c o (counts {n = i} d) = note_counts c o i d

-- of each page and processor
pub each_acts : EachActs
each_acts = record { row = λ c o step. rows c o step; win = λ c o win. wins c o win; slip = λ c o slip. slips c o slip; note = λ c o noted. notes c o noted }
