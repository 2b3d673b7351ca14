-- All rows, turns, decisions and notes of a page.
use Rattle.std.proofs.Common.{◌≡◌, ◌≢◌, ◌⊎◌, inl, inr, ℕ, ◌+◌, ◌<◌, ◌==◌, Bool, List, [], ◌∷◌, None, length, refl, sym, subst, if◌then◌else◌, ◌%◌, ◌^◌}
use Rattle.std.specs.Prelude.{slice_set}
use Rattle.std.proofs.lemmas.Bool.{cases_eq, eq-eqb, ne_eqb}
use Rattle.dsm_words.specs.Place.{total}
use Rattle.dsm_words.specs.Script.{Act, Swap}
use Rattle.dsm_words.specs.declared.item.Item.TheVariants.{Nle}
use Rattle.dsm_words.specs.Pages.{group_of, pages_in}
use Rattle.dsm_words.specs.Words.{done}
use Rattle.dsm_clock.specs.declared.turns.TurnId.{TurnId}
use Rattle.dsm_protocol.specs.Own.{Own, Who}
use Rattle.dsm_protocol.specs.Jobs.{Note, Clean, own_after}
use Rattle.dsm_protocol.specs.Stages.{Round, Collecting, Cleaning, Releasing, Stage, Work, Off, On}
use Rattle.dsm_protocol.specs.Rows.{Step, Wins, Slip, Noted, sees_dir, seeks, settles, clears, registers, shares, wants, parts, looks, reads_map, marks, saves, saves_twin, saves_home, twins_broken, breaks, departs, sees_again, tests, claims, looks_again, withdraws, draws_enter, fills, fills_own, stamps_enter, enters, compares, judges, draws, sees_twin, copies, copies_over, merges, merges_own, merges_twin, stamps, has_twin, makes, makes_twin, made, sets, gives, sees_release, lasts, draws_send, tests_flush, flushes, flushes_same, flushes_twin, flushes_home, stamps_flush, reads_dir, posts, lowers, drops, untwins, unlists, finishes, sees_acquire, compares_own, judges_own, unmaps, empties, sees_bare, leaves, gives_over, loads, stores, draws_release, collects, drains, draws_notice, notices, flags, gives_notices, takes, seeks_holder, stops, faults, visits, returns, releases, acquires, closes, hears, shared, unwanted, marked, claimed, at_home, read_only, flushed_all, unsent, posted, untold, unlowered, dropped, emptied, accesses, waits, tells, finished, ends, forsaken, despairs, clean, released, unheard, heard, flagged, next_node, drained, taken, passed_over, closing, unclosing, unheld, closed, maps, soils, begins_copy, begins_fill, fetched, filled, broken, broadcast, sent, told, counts, cleans, joins, appends_load, appends_store, signals, admits, arrives, dismisses, quits, goes, moves, passes, acquired}
use Rattle.dsm_protocol.proofs.Placed.{IsPlaced}
use Rattle.dsm_owners.specs.Acts.{Collect}
use Rattle.dsm_owners.specs.Directory.{State, Do}
use Rattle.dsm_ties.specs.Events.{events_at}
use Rattle.dsm_ties.specs.Tied.{Match}
use Rattle.dsm_ties.proofs.Frame.{Acted, Meets, Now, RowActs, WinActs, SlipActs, NoteActs}
use Rattle.dsm_ties.proofs.Elsewhere.{cleans_elsewhere}
use Rattle.dsm_ties.proofs.Following.{EachActs}
use Rattle.dsm_ties.proofs.AcquireRows.{row_compares_own, row_empties, row_gives_over, row_judges_own, row_leaves, row_sees_acquire, row_sees_bare, row_unmaps, slip_emptied, win_acquires}
use Rattle.dsm_ties.proofs.ClaimRows.{note_begins_fill, note_filled, row_claims, row_draws_enter, row_enters, row_fills, row_fills_own, row_looks_again, row_stamps_enter, row_tests, row_withdraws, slip_claimed}
use Rattle.dsm_ties.proofs.DropRows.{note_cleans, note_counts, note_joins, row_drops, row_finishes, row_lowers, row_unlists, row_untwins, slip_dropped, slip_unlowered}
use Rattle.dsm_ties.proofs.FaultRows.{row_clears, row_parts, row_registers, row_seeks, row_sees_dir, row_settles, row_shares, row_wants}
use Rattle.dsm_ties.proofs.FaultSlips.{note_maps, slip_shared, slip_unwanted, win_faults}
use Rattle.dsm_ties.proofs.FetchRows.{note_begins_copy, note_fetched, note_soils, row_compares, row_copies, row_copies_over, row_draws, row_gives, row_has_twin, row_judges, row_made, row_makes, row_makes_twin, row_merges, row_merges_own, row_merges_twin, row_sees_twin, row_sets, row_stamps, slip_at_home, slip_read_only}
use Rattle.dsm_ties.proofs.OffEvents.{row_collects, row_stops, slip_ends, slip_forsaken}
use Rattle.dsm_ties.proofs.OffRows.{row_collects_off, row_drains, row_draws_notice, row_draws_release, row_flags, row_gives_notices, row_loads, row_notices, row_seeks_holder, row_stores, row_takes}
use Rattle.dsm_ties.proofs.OffSlips.{note_acquired, note_appends_load, note_appends_store, note_gives, note_goes, note_moves, note_passes, note_signals, note_admits, note_arrives, note_dismisses, note_quits, slip_despairs, slip_accesses, slip_clean, slip_closed, slip_closing, slip_drained, slip_finished, slip_flagged, slip_heard, slip_next_node, slip_passed_over, slip_released, slip_taken, slip_tells, slip_unclosing, slip_unheard, slip_unheld, slip_waits, win_hears}
use Rattle.dsm_ties.proofs.ReleaseRows.{note_sent, note_told, row_draws_send, row_flushes, row_flushes_home, row_flushes_same, row_flushes_twin, row_lasts, row_posts, row_reads_dir, row_sees_release, row_stamps_flush, row_tests_flush, slip_flushed_all, slip_posted, slip_unsent, slip_untold, win_releases}
use Rattle.dsm_ties.proofs.VisitRows.{note_broadcast, note_broken, row_breaks, row_departs, row_looks, row_marks, row_reads_map, row_saves, row_saves_home, row_saves_twin, row_sees_again, row_twins_broken, slip_marked, win_closes, win_returns, win_visits}

rows : (u : Who) (at : IsPlaced u) (g : ℕ) (g_in : g < u.lay.pages) (ws : List ℕ) (long : length ws ≡ total u.lay) (b : State) (m : Match u g ws b) (o : Own) {r : Round} {s : Stage} {a : Act} {x : ℕ} {v : Work} (step : Step u o.maps o.dirty (On r g s) a x v) → RowActs u at g g_in ws long b m o step
rows u at g g_in ws long b m o sees_dir = row_sees_dir u at g g_in ws long b m o
rows u at g g_in ws long b m o seeks = row_seeks u at g g_in ws long b m o
rows u at g g_in ws long b m o settles = row_settles u at g g_in ws long b m o
rows u at g g_in ws long b m o clears = row_clears u at g g_in ws long b m o
rows u at g g_in ws long b m o registers = row_registers u at g g_in ws long b m o
rows u at g g_in ws long b m o shares = row_shares u at g g_in ws long b m o
rows u at g g_in ws long b m o (wants c) = row_wants u at g g_in ws long b m o c
rows u at g g_in ws long b m o parts = row_parts u at g g_in ws long b m o
rows u at g g_in ws long b m o looks = row_looks u at g g_in ws long b m o
rows u at g g_in ws long b m o reads_map = row_reads_map u at g g_in ws long b m o
rows u at g g_in ws long b m o (marks c d) = row_marks u at g g_in ws long b m o c d
rows u at g g_in ws long b m o saves = row_saves u at g g_in ws long b m o
rows u at g g_in ws long b m o saves_twin = row_saves_twin u at g g_in ws long b m o
rows u at g g_in ws long b m o saves_home = row_saves_home u at g g_in ws long b m o
rows u at g g_in ws long b m o (twins_broken c) = row_twins_broken u at g g_in ws long b m o c
rows u at g g_in ws long b m o breaks = row_breaks u at g g_in ws long b m o
rows u at g g_in ws long b m o departs = row_departs u at g g_in ws long b m o
rows u at g g_in ws long b m o sees_again = row_sees_again u at g g_in ws long b m o
rows u at g g_in ws long b m o tests = row_tests u at g g_in ws long b m o
rows u at g g_in ws long b m o claims = row_claims u at g g_in ws long b m o
rows u at g g_in ws long b m o looks_again = row_looks_again u at g g_in ws long b m o
rows u at g g_in ws long b m o withdraws = row_withdraws u at g g_in ws long b m o
rows u at g g_in ws long b m o draws_enter = row_draws_enter u at g g_in ws long b m o
rows u at g g_in ws long b m o fills = row_fills u at g g_in ws long b m o
rows u at g g_in ws long b m o fills_own = row_fills_own u at g g_in ws long b m o
rows u at g g_in ws long b m o stamps_enter = row_stamps_enter u at g g_in ws long b m o
rows u at g g_in ws long b m o enters = row_enters u at g g_in ws long b m o
rows u at g g_in ws long b m o (compares c) = row_compares u at g g_in ws long b m o c
rows u at g g_in ws long b m o judges = row_judges u at g g_in ws long b m o
rows u at g g_in ws long b m o draws = row_draws u at g g_in ws long b m o
rows u at g g_in ws long b m o sees_twin = row_sees_twin u at g g_in ws long b m o
rows u at g g_in ws long b m o copies = row_copies u at g g_in ws long b m o
rows u at g g_in ws long b m o copies_over = row_copies_over u at g g_in ws long b m o
rows u at g g_in ws long b m o merges = row_merges u at g g_in ws long b m o
rows u at g g_in ws long b m o merges_own = row_merges_own u at g g_in ws long b m o
rows u at g g_in ws long b m o merges_twin = row_merges_twin u at g g_in ws long b m o
rows u at g g_in ws long b m o stamps = row_stamps u at g g_in ws long b m o
rows u at g g_in ws long b m o has_twin = row_has_twin u at g g_in ws long b m o
rows u at g g_in ws long b m o makes = row_makes u at g g_in ws long b m o
rows u at g g_in ws long b m o makes_twin = row_makes_twin u at g g_in ws long b m o
rows u at g g_in ws long b m o made = row_made u at g g_in ws long b m o
rows u at g g_in ws long b m o sets = row_sets u at g g_in ws long b m o
rows u at g g_in ws long b m o gives = row_gives u at g g_in ws long b m o
rows u at g g_in ws long b m o sees_release = row_sees_release u at g g_in ws long b m o
rows u at g g_in ws long b m o lasts = row_lasts u at g g_in ws long b m o
rows u at g g_in ws long b m o draws_send = row_draws_send u at g g_in ws long b m o
rows u at g g_in ws long b m o (tests_flush c) = row_tests_flush u at g g_in ws long b m o c
rows u at g g_in ws long b m o flushes = row_flushes u at g g_in ws long b m o
rows u at g g_in ws long b m o flushes_same = row_flushes_same u at g g_in ws long b m o
rows u at g g_in ws long b m o flushes_twin = row_flushes_twin u at g g_in ws long b m o
rows u at g g_in ws long b m o flushes_home = row_flushes_home u at g g_in ws long b m o
rows u at g g_in ws long b m o stamps_flush = row_stamps_flush u at g g_in ws long b m o
rows u at g g_in ws long b m o reads_dir = row_reads_dir u at g g_in ws long b m o
rows u at g g_in ws long b m o (posts c d) = row_posts u at g g_in ws long b m o c d
rows u at g g_in ws long b m o (lowers c) = row_lowers u at g g_in ws long b m o c
rows u at g g_in ws long b m o (drops c d) = row_drops u at g g_in ws long b m o c d
rows u at g g_in ws long b m o untwins = row_untwins u at g g_in ws long b m o
rows u at g g_in ws long b m o unlists = row_unlists u at g g_in ws long b m o
rows u at g g_in ws long b m o finishes = row_finishes u at g g_in ws long b m o
rows u at g g_in ws long b m o sees_acquire = row_sees_acquire u at g g_in ws long b m o
rows u at g g_in ws long b m o compares_own = row_compares_own u at g g_in ws long b m o
rows u at g g_in ws long b m o judges_own = row_judges_own u at g g_in ws long b m o
rows u at g g_in ws long b m o unmaps = row_unmaps u at g g_in ws long b m o
rows u at g g_in ws long b m o (empties c d) = row_empties u at g g_in ws long b m o c d
rows u at g g_in ws long b m o sees_bare = row_sees_bare u at g g_in ws long b m o
rows u at g g_in ws long b m o leaves = row_leaves u at g g_in ws long b m o
rows u at g g_in ws long b m o gives_over = row_gives_over u at g g_in ws long b m o

rounds : (u : Who) (at : IsPlaced u) (g : ℕ) (g_in : g < u.lay.pages) (ws : List ℕ) (long : length ws ≡ total u.lay) (b : State) (m : Match u g ws b) (o : Own) {r : Round} {a : Act} {x : ℕ} {v : Work} (step : Step u o.maps o.dirty (Off r) a x v) → Meets u at g g_in ws long b m o a x → Now u at g g_in ws long b m (Off r) o → Acted u at g g_in ws long b m o v (done u.lay ws a) (events_at g u step)
rounds u at g g_in ws long b m o (loads c) = row_loads u at g g_in ws long b m o c
rounds u at g g_in ws long b m o (stores c) = row_stores u at g g_in ws long b m o c
rounds u at g g_in ws long b m o draws_release = row_draws_release u at g g_in ws long b m o
rounds u at g g_in ws long b m o (collects {t0 = t0} {k = k} {x = x} {set = set}) = go (cases_eq k (group_of g))
  where
    Shown : Bool → Type 0
    Shown c = Acted u at g g_in ws long b m o (Off (Collecting t0 (k + 1) (slice_set set k (x % 2 ^ pages_in u.lay k)))) (done u.lay ws (Swap (Nle u.p k) 0)) (if c then Do u.p Collect ∷ [] else [])

    go : (k ≡ group_of g) ⊎ (k ≢ group_of g) → Meets u at g g_in ws long b m o (Swap (Nle u.p k) 0) x → Now u at g g_in ws long b m (Off (Collecting t0 k set)) o → Shown (k == group_of g)
    go (inl e) f h = rw (eq-eqb k (group_of g) e) (row_collects u at g g_in ws long b m o e f h)
    go (inr ne) f h = rw (ne_eqb k (group_of g) ne) (row_collects_off u at g g_in ws long b m o ne f h)
rounds u at g g_in ws long b m o drains = row_drains u at g g_in ws long b m o
rounds u at g g_in ws long b m o (draws_notice c d e) = row_draws_notice u at g g_in ws long b m o c d e
rounds u at g g_in ws long b m o notices = row_notices u at g g_in ws long b m o
rounds u at g g_in ws long b m o (flags c d e) = row_flags u at g g_in ws long b m o c d e
rounds u at g g_in ws long b m o gives_notices = row_gives_notices u at g g_in ws long b m o
rounds u at g g_in ws long b m o takes = row_takes u at g g_in ws long b m o
rounds u at g g_in ws long b m o seeks_holder = row_seeks_holder u at g g_in ws long b m o
rounds u at g g_in ws long b m o stops = row_stops u at g g_in ws long b m o

wins : (u : Who) (at : IsPlaced u) (g : ℕ) (g_in : g < u.lay.pages) (ws : List ℕ) (long : length ws ≡ total u.lay) (b : State) (m : Match u g ws b) (o : Own) {w : Work} {t : TurnId} {r : Round} {s : Stage} (win : Wins u o.maps o.dirty w t (On r g s)) → WinActs u at g g_in ws long b m o win
wins u at g g_in ws long b m o (faults c) = win_faults u at g g_in ws long b m o c refl
wins u at g g_in ws long b m o (visits c d e f) = win_visits u at g g_in ws long b m o c d e f
wins u at g g_in ws long b m o (returns c) = win_returns u at g g_in ws long b m o c
wins u at g g_in ws long b m o (releases c) = win_releases u at g g_in ws long b m o c
wins u at g g_in ws long b m o (acquires c) = win_acquires u at g g_in ws long b m o c
wins u at g g_in ws long b m o closes = win_closes u at g g_in ws long b m o

hearing : (u : Who) (at : IsPlaced u) (g : ℕ) (g_in : g < u.lay.pages) (ws : List ℕ) (long : length ws ≡ total u.lay) (b : State) (m : Match u g ws b) (o : Own) {w : Work} {t : TurnId} {r : Round} (win : Wins u o.maps o.dirty w t (Off r)) → WinActs u at g g_in ws long b m o win
hearing u at g g_in ws long b m o hears = win_hears u at g g_in ws long b m o

slips : (u : Who) (at : IsPlaced u) (g : ℕ) (g_in : g < u.lay.pages) (ws : List ℕ) (long : length ws ≡ total u.lay) (b : State) (m : Match u g ws b) (o : Own) {r : Round} {s : Stage} {v : Work} (slip : Slip u o.maps o.dirty (On r g s) v) → SlipActs u at g g_in ws long b m o slip
slips u at g g_in ws long b m o shared = slip_shared u at g g_in ws long b m o
slips u at g g_in ws long b m o (unwanted c) = slip_unwanted u at g g_in ws long b m o c
slips u at g g_in ws long b m o marked = slip_marked u at g g_in ws long b m o
slips u at g g_in ws long b m o claimed = slip_claimed u at g g_in ws long b m o
slips u at g g_in ws long b m o (at_home c) = slip_at_home u at g g_in ws long b m o c
slips u at g g_in ws long b m o read_only = slip_read_only u at g g_in ws long b m o
slips u at g g_in ws long b m o flushed_all = slip_flushed_all u at g g_in ws long b m o
slips u at g g_in ws long b m o (unsent c) = slip_unsent u at g g_in ws long b m o c
slips u at g g_in ws long b m o posted = slip_posted u at g g_in ws long b m o
slips u at g g_in ws long b m o (untold c) = slip_untold u at g g_in ws long b m o c
slips u at g g_in ws long b m o (unlowered c) = slip_unlowered u at g g_in ws long b m o c
slips u at g g_in ws long b m o dropped = slip_dropped u at g g_in ws long b m o
slips u at g g_in ws long b m o emptied = slip_emptied u at g g_in ws long b m o

passes_on : (u : Who) (at : IsPlaced u) (g : ℕ) (g_in : g < u.lay.pages) (ws : List ℕ) (long : length ws ≡ total u.lay) (b : State) (m : Match u g ws b) (o : Own) {r : Round} {v : Work} (slip : Slip u o.maps o.dirty (Off r) v) → SlipActs u at g g_in ws long b m o slip
passes_on u at g g_in ws long b m o accesses = slip_accesses u at g g_in ws long b m o
passes_on u at g g_in ws long b m o waits = slip_waits u at g g_in ws long b m o
passes_on u at g g_in ws long b m o tells = slip_tells u at g g_in ws long b m o
passes_on u at g g_in ws long b m o finished = slip_finished u at g g_in ws long b m o
passes_on u at g g_in ws long b m o ends = slip_ends u at g g_in ws long b m o
passes_on u at g g_in ws long b m o forsaken = slip_forsaken u at g g_in ws long b m o
passes_on u at g g_in ws long b m o despairs = slip_despairs u at g g_in ws long b m o
passes_on u at g g_in ws long b m o (clean c) = slip_clean u at g g_in ws long b m o c
passes_on u at g g_in ws long b m o released = slip_released u at g g_in ws long b m o
passes_on u at g g_in ws long b m o (unheard c) = slip_unheard u at g g_in ws long b m o c
passes_on u at g g_in ws long b m o heard = slip_heard u at g g_in ws long b m o
passes_on u at g g_in ws long b m o flagged = slip_flagged u at g g_in ws long b m o
passes_on u at g g_in ws long b m o next_node = slip_next_node u at g g_in ws long b m o
passes_on u at g g_in ws long b m o drained = slip_drained u at g g_in ws long b m o
passes_on u at g g_in ws long b m o taken = slip_taken u at g g_in ws long b m o
passes_on u at g g_in ws long b m o (passed_over c) = slip_passed_over u at g g_in ws long b m o c
passes_on u at g g_in ws long b m o (closing c) = slip_closing u at g g_in ws long b m o c
passes_on u at g g_in ws long b m o (unclosing c) = slip_unclosing u at g g_in ws long b m o c
passes_on u at g g_in ws long b m o unheld = slip_unheld u at g g_in ws long b m o
passes_on u at g g_in ws long b m o closed = slip_closed u at g g_in ws long b m o

notes : (u : Who) (at : IsPlaced u) (g : ℕ) (g_in : g < u.lay.pages) (ws : List ℕ) (long : length ws ≡ total u.lay) (b : State) (m : Match u g ws b) (o : Own) {r : Round} {s : Stage} {i : Note} {v : Work} (noted : Noted u None (On r g s) i v) → NoteActs u at g g_in ws long b m o noted
notes u at g g_in ws long b m o maps = note_maps u at g g_in ws long b m o
notes u at g g_in ws long b m o soils = note_soils u at g g_in ws long b m o
notes u at g g_in ws long b m o begins_copy = note_begins_copy u at g g_in ws long b m o
notes u at g g_in ws long b m o begins_fill = note_begins_fill u at g g_in ws long b m o
notes u at g g_in ws long b m o fetched = note_fetched u at g g_in ws long b m o
notes u at g g_in ws long b m o filled = note_filled u at g g_in ws long b m o
notes u at g g_in ws long b m o broken = note_broken u at g g_in ws long b m o
notes u at g g_in ws long b m o broadcast = note_broadcast u at g g_in ws long b m o
notes u at g g_in ws long b m o (sent c) = note_sent u at g g_in ws long b m o c
notes u at g g_in ws long b m o (told c) = note_told u at g g_in ws long b m o c
notes u at g g_in ws long b m o (counts {n = i} c) = note_counts u at g g_in ws long b m o i c

entries : (u : Who) (at : IsPlaced u) (g : ℕ) (g_in : g < u.lay.pages) (ws : List ℕ) (long : length ws ≡ total u.lay) (b : State) (m : Match u g ws b) (o : Own) {r : Round} {i : Note} {v : Work} (noted : Noted u None (Off r) i v) → NoteActs u at g g_in ws long b m o noted
entries u at g g_in ws long b m o (cleans {t0 = t0} {g = h}) = go (cases_eq h g)
  where
    Shown : ℕ → Type 0
    Shown q = Now u at g g_in ws long b m (Off (Cleaning t0 q)) o → Now u at g g_in ws long b m (Off (Releasing t0 (q + 1))) (own_after o (Clean q))

    go : (h ≡ g) ⊎ (h ≢ g) → Now u at g g_in ws long b m (Off (Cleaning t0 h)) o → Now u at g g_in ws long b m (Off (Releasing t0 (h + 1))) (own_after o (Clean h))
    go (inl e) = subst Shown (sym e) (note_cleans u at g g_in ws long b m o {t0 = t0})
    go (inr ne) = cleans_elsewhere u at g g_in ws long b m ne
entries u at g g_in ws long b m o joins = note_joins u at g g_in ws long b m o
entries u at g g_in ws long b m o (appends_load c) = note_appends_load u at g g_in ws long b m o c
entries u at g g_in ws long b m o (appends_store c) = note_appends_store u at g g_in ws long b m o c
entries u at g g_in ws long b m o (signals {of = of} {j = j} c other) = note_signals u at g g_in ws long b m o of j c other
entries u at g g_in ws long b m o (admits {of = of} {c = k} c other) = note_admits u at g g_in ws long b m o of k c other
entries u at g g_in ws long b m o (arrives {j = j} c) = note_arrives u at g g_in ws long b m o j c
entries u at g g_in ws long b m o (dismisses {c = k} c) = note_dismisses u at g g_in ws long b m o k c
entries u at g g_in ws long b m o (gives {d = d} {v = v} c) = note_gives u at g g_in ws long b m o d v c
entries u at g g_in ws long b m o (goes {to = to} c) = note_goes u at g g_in ws long b m o to c
entries u at g g_in ws long b m o (moves c) = note_moves u at g g_in ws long b m o c
entries u at g g_in ws long b m o (passes c) = note_passes u at g g_in ws long b m o c
entries u at g g_in ws long b m o (quits c) = note_quits u at g g_in ws long b m o c
entries u at g g_in ws long b m o acquired = note_acquired u at g g_in ws long b m o
entries u at g g_in ws long b m o (counts {n = i} c) = note_counts u at g g_in ws long b m o i c

-- of each page and processor
pub each_acts : (u : Who) (at : IsPlaced u) (g : ℕ) (g_in : g < u.lay.pages) → EachActs u at g g_in
each_acts u at g g_in =
    record {
      row = λ ws long b m o step. rows u at g g_in ws long b m o step;
      round = λ ws long b m o step. rounds u at g g_in ws long b m o step;
      win = λ ws long b m o win. wins u at g g_in ws long b m o win;
      hear = λ ws long b m o win. hearing u at g g_in ws long b m o win;
      slip = λ ws long b m o slip. slips u at g g_in ws long b m o slip;
      pass = λ ws long b m o slip. passes_on u at g g_in ws long b m o slip;
      note = λ ws long b m o noted. notes u at g g_in ws long b m o noted;
      entry = λ ws long b m o noted. entries u at g g_in ws long b m o noted;
    }
