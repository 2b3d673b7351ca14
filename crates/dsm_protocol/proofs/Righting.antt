-- What the table types as protocol work is protocol work by its rights: each row, each turn that is won, each decision and each note.
use Rattle.std.proofs.Common.{◌≡◌, ℕ, ◌+◌, ◌-◌, ◌%◌, ◌==◌, Bool, true, false, Option, None, Some, refl, sym, subst, ap, if◌then◌else◌}
use Rattle.std.specs.Prelude.{◌<◌, [], ◌&&◌, ◌||◌, not, nat_lt, List}
use Rattle.std.proofs.lemmas.Option.{none-some}
use Rattle.dsm_entry.specs.declared.entry.Entry.TheVariants.{Load, Store, Signal, Pass}
use Rattle.dsm_words.specs.declared.item.Item.TheVariants.{Map, Turn, NoticeTurn}
use Rattle.dsm_words.specs.Place.{IsWithin}
use Rattle.dsm_words.specs.Script.{Act, Put, Change, item_of}
use Rattle.dsm_clock.specs.declared.turns.TurnId.{TurnId}
use Rattle.dsm_clock.specs.declared.turns.TurnId.TheVariants.{Page, Notices}
use Rattle.dsm_clock.specs.Turns.{turn_item}
use Rattle.dsm_protocol.specs.Own.{new_own, Own, Who, Unready, node_of}
use Rattle.dsm_protocol.specs.Jobs.{Job, Make, Again, Mark, Note, Give, Go, Move, Append, Map_own, Soil, Clean, Join, Count, Happen}
use Rattle.dsm_protocol.specs.Steps.{allows, page_of, fault_job, release_job, acquire_job, closing_job}
use Rattle.dsm_protocol.specs.Rights.{IsInner, May, Plain, Maps, Gives, Works as Working, Over as Rested, Makes as Made, Takes as Taken, Marks_map, Marks as Marked, Asks as Asked_of}
use Rattle.dsm_protocol.specs.Stages.{Cause, Fault, Closing, Seeker, For_fault, For_release, For_closing, Stage, Mapped, Soiling, Giving, Round, Idle, Waiting, Signalling, Quitting, Passing, Finished, Closed, Access, Loaded, Stored, Work, Off, On, Gone, registered, found, held_alone, departed, lowered, stage_turn, seeker_node, turn_at}
use Rattle.dsm_protocol.specs.Rows.{IsPlain, Step, Wins, Slip, Noted, loads, stores, sees_dir, seeks, settles, clears, registers, shares, wants, parts, looks, reads_map, marks, saves, saves_twin, saves_home, twins_broken, breaks, departs, sees_again, tests, claims, looks_again, withdraws, draws_enter, fills, fills_own, stamps_enter, enters, compares, judges, draws, sees_twin, copies, copies_over, merges, merges_own, merges_twin, stamps, has_twin, makes, makes_twin, made, sets, gives, sees_release, lasts, draws_send, tests_flush, flushes, flushes_same, flushes_twin, flushes_home, stamps_flush, reads_dir, posts, lowers, drops, untwins, unlists, finishes, sees_acquire, compares_own, judges_own, unmaps, empties, sees_bare, leaves, gives_over, draws_release, collects, drains, draws_notice, notices, flags, gives_notices, takes, seeks_holder, stops, faults, visits, returns, releases, hears, acquires, closes, accesses, waits, tells, finished, ends, forsaken, despairs, shared, unwanted, marked, claimed, at_home, read_only, flushed_all, unsent, posted, untold, unlowered, dropped, emptied, clean, released, unheard, heard, flagged, next_node, drained, taken, passed_over, closing, unclosing, unheld, closed, maps, soils, cleans, joins, appends_load, appends_store, signals, admits, arrives, dismisses, quits, goes, moves, passes, acquired, begins_copy, begins_fill, fetched, filled, broken, broadcast, sent, told, counts}
use Rattle.dsm_protocol.specs.Standing.{IsResting, Works, Makes, Takes, Marks, Asks, Slips, Rests, Asides, Begins, Ends, Halts}
use Rattle.dsm_protocol.proofs.Placed.{IsPlaced}
use Rattle.dsm_protocol.proofs.Faulting.{fault_typed}
use Rattle.dsm_protocol.proofs.Releasing.{release_typed}
use Rattle.dsm_protocol.proofs.Acquiring.{acquire_typed, closing_typed}

-- the mapping of which it still has to know there
abbrev pub stage_owed : ℕ → Stage → Option (ℕ × ℕ)
stage_owed g (Mapped k s) = Some (g, k)
stage_owed g s = None

abbrev pub owed : Work → Option (ℕ × ℕ)
owed (Off r) = None
owed (On r g s) = stage_owed g s
owed Gone = None

-- once it knows of it, it holds the turn of its node's copy, and has no other to know of
abbrev IsHeld : Who → ℕ → Stage → Type 0
IsHeld u g (Mapped k s) = (stage_turn u g s ≡ Some (Page (node_of u) g)) × (stage_owed g s ≡ None) × IsHeld u g s
IsHeld u g s = Unit {0}

abbrev pub IsSettled : Who → Work → Type 0
IsSettled u (Off r) = Unit {0}
IsSettled u (On r g s) = IsHeld u g s
IsSettled u Gone = Unit {0}

-- operations, turns and decisions begin there
abbrev IsStart : Work → Type 0
IsStart (Off (Loaded a x)) = ⊥
IsStart (Off (Stored a v)) = ⊥
IsStart (Off r) = Unit {0}
IsStart (On r g (Mapped k s)) = ⊥
IsStart (On r g s) = Unit {0}
IsStart Gone = ⊥

-- no protocol work leads from there to its rest: behind an access, and at the end
abbrev pub IsStuck : Work → Type 0
IsStuck (Off (Loaded a x)) = Unit {0}
IsStuck (Off (Stored a v)) = Unit {0}
IsStuck Gone = Unit {0}
IsStuck w = ⊥

nothing_owed : (w : Work) → IsStart w → owed w ≡ None
nothing_owed (Off r) h = refl
nothing_owed (On r g (Mapped k s)) h = absurd h
nothing_owed (On r g s) h = refl
nothing_owed Gone h = absurd h

not_stuck : (w : Work) → IsStart w → IsStuck w → ⊥
not_stuck (Off (Loaded a x)) h e = h
not_stuck (Off (Stored a v)) h e = h
not_stuck (Off r) h e = e
not_stuck (On r g s) h e = e
not_stuck Gone h e = h

resting_goes_on : (r : Round) → IsResting r → IsStuck (Off r) → ⊥
resting_goes_on (Loaded a x) h e = h
resting_goes_on (Stored a v) h e = h
resting_goes_on r h e = e

-- the turn behind an operation, and the mapping of which it then has to know
abbrev turn_after : Option TurnId → Act → Option TurnId
turn_after t (Put (Turn n g) v) = None
turn_after t (Put (NoticeTurn n) v) = None
turn_after t a = t

abbrev owed_after : Act → Option (ℕ × ℕ)
owed_after (Put (Map p g) v) = Some (g, v)
owed_after a = None

-- it holds this turn there, and this mapping is owed
record At (u : Who) (t : Option TurnId) (m : Option (ℕ × ℕ)) (w : Work) : Type 0 where
  turn : turn_at u w ≡ t
  owes : owed w ≡ m
  settled : IsSettled u w

here : {u : Who} {t : Option TurnId} {m : Option (ℕ × ℕ)} {w : Work} → turn_at u w ≡ t → owed w ≡ m → IsSettled u w → At u t m w
here e f h = record { turn = e; owes = f; settled = h }

-- a row is an operation that protocol work may make
abbrev Goes : Who → Work → Act → Work → Type 0
Goes u w a w' = IsStart w × May u (turn_at u w) a (turn_after (turn_at u w) a) (owed_after a) × At u (turn_after (turn_at u w) a) (owed_after a) w'

-- a note is inner, or tells it of its mapping
data Told_of (u : Who) : Work → Note → Work → Type 0 where
  Owed : {r : Round} {g k : ℕ} {s : Stage} → Told_of u (On r g (Mapped k s)) (Map_own g k) (On r g s)
  Inner : {w w' : Work} {n : Note} → IsInner n → turn_at u w' ≡ turn_at u w → owed w' ≡ owed w → (IsSettled u w → IsSettled u w') → (IsStuck w → IsStuck w') → Told_of u w n w'

-- there is a rest, and only one
pub some_rest : (j : Job) → Some j ≡ None → ⊥
some_rest j e = none-some j (sym e)

pub same_rest : (i j : Job) → Some i ≡ Some j → i ≡ j
same_rest i j e = ap the e
  where
    the : Option Job → Job
    the (Some k) = k
    the None = i

module _ (u : Who) where
  pick : {t : Option TurnId} {m : Option (ℕ × ℕ)} {r : Round} {g : ℕ} {s s' : Stage} (c : Bool) → At u t m (On r g s) → At u t m (On r g s') → At u t m (On r g (if c then s else s'))
  pick true a b = a
  pick false a b = b

  pick_off : {t : Option TurnId} {m : Option (ℕ × ℕ)} {r r' : Round} (c : Bool) → At u t m (Off r) → At u t m (Off r') → At u t m (Off (if c then r else r'))
  pick_off true a b = a
  pick_off false a b = b

  held : (g : ℕ) (s : Stage) → At u (Some (Page (node_of u) g)) None (On Idle g s) → (stage_turn u g s ≡ Some (Page (node_of u) g)) × (stage_owed g s ≡ None) × IsHeld u g s
  held g s h = (h.turn, h.owes, h.settled)

  -- the places that are computed
  module _ {r : Round} {g : ℕ} where
    registered_at : (write : Bool) (h : ℕ) (b : Bool) → At u (Some (Page (node_of u) g)) None (On r g (registered write h b))
    registered_at write h true = here refl refl tt
    registered_at write h false = here refl refl tt

    found_at : (a : Seeker) (h : ℕ) → At u (Some (Page (seeker_node u a) g)) None (On r g (found u a h))
    found_at (For_fault write d) h = registered_at write h (d == 0)
    found_at For_release h = here refl refl tt
    found_at (For_closing j) h = here refl refl tt

    alone_at : (c : Cause) (j : ℕ) → At u (Some (Page j g)) None (On r g (held_alone u c j))
    alone_at (Fault write h busy) j = here refl refl tt
    alone_at Closing j = here refl refl tt

    lowers_at : (flushed : Bool) → At u (Some (Page (node_of u) g)) None (On r g (lowered u flushed))
    lowers_at true = here refl refl tt
    lowers_at false = here refl refl tt

  departed_at : (r : Round) (g : ℕ) (c : Cause) (j : ℕ) → At u None None (departed r g c j)
  departed_at r g (Fault write h busy) j = here refl refl tt
  departed_at r g Closing j = here refl refl tt

  row : {maps : List ℕ} {dirty : List Bool} {w : Work} {a : Act} {x : ℕ} {w' : Work} → Step u maps dirty w a x w' → IsWithin u.lay (item_of a) → (IsStuck w' → ⊥) → Goes u w a w'
  row (loads e) within on = (tt, Plain tt, here refl refl tt)
  row (stores e) within on = (tt, Plain (within, tt), here refl refl tt)
  row (sees_dir {x = x}) within on = (tt, Plain tt, pick (x == 2) (here refl refl tt) (here refl refl tt))
  row (seeks {x = x} {a = a}) within on = (tt, Plain tt, pick (x == 0) (here refl refl tt) (found_at a ((x - 1) % u.lay.nodes)))
  row (settles {x = x} {a = a}) within on = (tt, Plain (within, (refl, refl)), found_at a (if x == 0 then node_of u else (x - 1) % u.lay.nodes))
  row clears within on = (tt, Plain (within, refl), here refl refl tt)
  row registers within on = (tt, Plain (within, refl), here refl refl tt)
  row shares within on = (tt, Plain tt, here refl refl tt)
  row (wants e) within on = (tt, Maps within.1, here refl refl (refl, refl, tt))
  row parts within on = (tt, Gives (Page (node_of u) _) within, here refl refl tt)
  row (looks {x = x} {c = c}) within on = (tt, Plain tt, pick (x == 2) (alone_at c _) (here refl refl tt))
  row (reads_map {x = x}) within on = (tt, Plain tt, pick (x == 2) (here refl refl tt) (here refl refl tt))
  row (marks from to) within on = (tt, Plain (within, tt), here refl refl tt)
  row saves within on = (tt, Plain tt, here refl refl tt)
  row saves_twin within on = (tt, Plain (within, refl), here refl refl tt)
  row saves_home within on = (tt, Plain (within, tt), here refl refl tt)
  row (twins_broken e) within on = (tt, Plain (within, refl), here refl refl tt)
  row breaks within on = (tt, Plain (within, refl), here refl refl tt)
  row (departs {j = j} {c = c}) within on = (tt, Gives (Page j _) within, departed_at _ _ c j)
  row (sees_again {x = x}) within on = (tt, Plain tt, pick (x == 2) (here refl refl tt) (here refl refl tt))
  row (tests {x = x}) within on = (tt, Plain tt, pick (x == 1) (here refl refl tt) (here refl refl tt))
  row claims within on = (tt, Plain (within, refl), here refl refl tt)
  row looks_again within on = (tt, Plain tt, here refl refl tt)
  row withdraws within on = (tt, Plain (within, refl), here refl refl tt)
  row draws_enter within on = (tt, Plain (within, (refl, refl)), here refl refl tt)
  row fills within on = (tt, Plain tt, here refl refl tt)
  row fills_own within on = (tt, Plain (within, tt), here refl refl tt)
  row stamps_enter within on = (tt, Plain (within, refl), here refl refl tt)
  row enters within on = (tt, Plain (within, refl), here refl refl tt)
  row (compares e) within on = (tt, Plain tt, here refl refl tt)
  row (judges {y = y} {x = x}) within on = (tt, Plain tt, pick (y == 0 || nat_lt y x) (here refl refl tt) (here refl refl tt))
  row draws within on = (tt, Plain (within, (refl, refl)), here refl refl tt)
  row sees_twin within on = (tt, Plain tt, here refl refl tt)
  row copies within on = (tt, Plain tt, here refl refl tt)
  row copies_over within on = (tt, Plain (within, tt), here refl refl tt)
  row (merges {v = v} {x = x}) within on = (tt, Plain tt, pick (v == x) (here refl refl tt) (here refl refl tt))
  row merges_own within on = (tt, Plain (within, tt), here refl refl tt)
  row merges_twin within on = (tt, Plain (within, refl), here refl refl tt)
  row stamps within on = (tt, Plain (within, refl), here refl refl tt)
  row (has_twin {x = x}) within on = (tt, Plain tt, pick (x == 1) (here refl refl tt) (here refl refl tt))
  row makes within on = (tt, Plain tt, here refl refl tt)
  row makes_twin within on = (tt, Plain (within, refl), here refl refl tt)
  row made within on = (tt, Plain (within, refl), here refl refl tt)
  row (sets {write = write} {alone = alone}) within on = (tt, Maps within.1, here refl refl (held _ (if write && not alone then Soiling else Giving) (pick (write && not alone) (here refl refl tt) (here refl refl tt))))
  row gives within on = (tt, Gives (Page (node_of u) _) within, here refl refl tt)
  row (sees_release {x = x}) within on = (tt, Plain tt, pick (x == 2) (here refl refl tt) (here refl refl tt))
  row (lasts {t0 = t0} {x = x}) within on = (tt, Plain tt, pick (nat_lt t0 x) (here refl refl tt) (here refl refl tt))
  row (draws_send {h = h}) within on = (tt, Plain (within, (refl, refl)), pick (node_of u == h) (here refl refl tt) (here refl refl tt))
  row (tests_flush {x = x} e) within on = (tt, Plain tt, pick (x == 1) (here refl refl tt) (here refl refl tt))
  row flushes within on = (tt, Plain tt, here refl refl tt)
  row (flushes_same {v = v} {x = x}) within on = (tt, Plain tt, pick (v == x) (here refl refl tt) (here refl refl tt))
  row flushes_twin within on = (tt, Plain (within, refl), here refl refl tt)
  row flushes_home within on = (tt, Plain (within, tt), here refl refl tt)
  row stamps_flush within on = (tt, Plain (within, refl), here refl refl tt)
  row (reads_dir {h = h} {j = j} {x = x}) within on = (tt, Plain tt, pick (x == 0 || j == node_of u || j == h) (here refl refl tt) (here refl refl tt))
  row (posts v e) within on = (tt, Plain (within, refl), here refl refl tt)
  row (lowers {flushed = flushed} e) within on = (tt, Maps within.1, here refl refl (held _ (lowered u flushed) (lowers_at flushed)))
  row (drops from to) within on = (tt, Plain tt, here refl refl tt)
  row (untwins {free = free}) within on = (tt, Plain (within, refl), pick free (here refl refl tt) (here refl refl tt))
  row unlists within on = (tt, Plain (within, refl), here refl refl tt)
  row finishes within on = (tt, Gives (Page (node_of u) _) within, here refl refl tt)
  row (sees_acquire {x = x}) within on = (tt, Plain tt, pick (x == 2) (here refl refl tt) (here refl refl tt))
  row compares_own within on = (tt, Plain tt, here refl refl tt)
  row (judges_own {y = y} {x = x}) within on = (tt, Plain tt, pick (y == 0 || nat_lt y x) (here refl refl tt) (here refl refl tt))
  row unmaps within on = (tt, Maps within.1, here refl refl (refl, refl, tt))
  row (empties from to) within on = (tt, Plain tt, here refl refl tt)
  row (sees_bare {x = x}) within on = (tt, Plain tt, pick (x == 0) (here refl refl tt) (here refl refl tt))
  row leaves within on = (tt, Plain (within, refl), here refl refl tt)
  row gives_over within on = (tt, Gives (Page (node_of u) _) within, here refl refl tt)
  row draws_release within on = (tt, Plain (within, (refl, refl)), here refl refl tt)
  row collects within on = (tt, Plain (within, (refl, refl)), here refl refl tt)
  row drains within on = (tt, Plain (within, (refl, refl)), here refl refl tt)
  row (draws_notice e from to) within on = (tt, Plain (within, (refl, refl)), here refl refl tt)
  row notices within on = (tt, Plain (within, refl), here refl refl tt)
  row (flags e from to) within on = (tt, Plain (within, refl), here refl refl tt)
  row gives_notices within on = (tt, Gives (Notices (node_of u)) within, here refl refl tt)
  row takes within on = (tt, Plain (within, (refl, refl)), here refl refl tt)
  row (seeks_holder {x = x}) within on = (tt, Plain tt, pick_off (x == 2) (here refl refl tt) (here refl refl tt))
  row stops within on = absurd (on tt)

  win : {maps : List ℕ} {dirty : List Bool} {w : Work} {turn : TurnId} {w' : Work} → Wins u maps dirty w turn w' → IsStart w × (turn_at u w ≡ None) × (owed w ≡ None) × At u (Some turn) None w'
  win (faults e) = (tt, refl, refl, (here refl refl tt))
  win (visits j a b c) = (tt, refl, refl, (here refl refl tt))
  win (returns e) = (tt, refl, refl, (here refl refl tt))
  win (releases e) = (tt, refl, refl, (here refl refl tt))
  win hears = (tt, refl, refl, (here refl refl tt))
  win (acquires e) = (tt, refl, refl, (here refl refl tt))
  win closes = (tt, refl, refl, (here refl refl tt))

  slip : {maps : List ℕ} {dirty : List Bool} {w w' : Work} → Slip u maps dirty w w' → IsStart w × At u (turn_at u w) None w'
  slip accesses = (tt, here refl refl tt)
  slip waits = (tt, here refl refl tt)
  slip tells = (tt, here refl refl tt)
  slip finished = (tt, here refl refl tt)
  slip ends = (tt, here refl refl tt)
  slip forsaken = (tt, here refl refl tt)
  slip despairs = (tt, here refl refl tt)
  slip (shared {write = write} {row = row}) = (tt, pick (row.busy == 0) (pick (write && not row.others) (here refl refl tt) (here refl refl tt)) (here refl refl tt))
  slip (unwanted e) = (tt, here refl refl tt)
  slip (marked {h = h} {j = j}) = (tt, pick (j == h) (here refl refl tt) (here refl refl tt))
  slip (claimed {h = h} {row = row}) = (tt, pick row.others (here refl refl tt) (pick (node_of u == h) (here refl refl tt) (here refl refl tt)))
  slip (at_home e) = (tt, here refl refl tt)
  slip read_only = (tt, here refl refl tt)
  slip flushed_all = (tt, here refl refl tt)
  slip (unsent e) = (tt, here refl refl tt)
  slip posted = (tt, here refl refl tt)
  slip (untold e) = (tt, here refl refl tt)
  slip (unlowered {flushed = flushed} e) = (tt, lowers_at flushed)
  slip (dropped {unwritten = unwritten}) = (tt, pick unwritten (here refl refl tt) (here refl refl tt))
  slip (emptied {free = free}) = (tt, pick free (here refl refl tt) (here refl refl tt))
  slip (clean e) = (tt, here refl refl tt)
  slip released = (tt, here refl refl tt)
  slip (unheard e) = (tt, here refl refl tt)
  slip heard = (tt, here refl refl tt)
  slip flagged = (tt, here refl refl tt)
  slip next_node = (tt, here refl refl tt)
  slip drained = (tt, here refl refl tt)
  slip taken = (tt, here refl refl tt)
  slip (passed_over e) = (tt, here refl refl tt)
  slip (closing e) = (tt, here refl refl tt)
  slip (unclosing e) = (tt, here refl refl tt)
  slip unheld = (tt, here refl refl tt)
  slip closed = (tt, here refl refl tt)

  module _ (last : Job) where
    plain : (n : Note) → IsPlain (Some last) n → IsInner n
    plain (Give d v) h = h
    plain (Go to) h = h
    plain Move h = h
    plain (Append (Load w v)) h = h
    plain (Append (Store w v)) h = h
    plain (Append (Signal of j)) h = h
    plain (Append (Pass of c)) h = h
    plain (Append e) h = absurd (some_rest last h)
    plain (Map_own g k) h = h
    plain (Soil g) h = absurd h
    plain (Clean g) h = absurd h
    plain (Join set) h = absurd h
    plain (Happen d) h = absurd h
    plain (Count Unready) h = absurd (some_rest last h)
    plain (Count t) h = tt

    noted : {w w' : Work} {n : Note} → Noted u (Some last) w n w' → Told_of u w n w'
    noted maps = Owed
    noted soils = Inner tt refl refl (λ h. tt) (λ h. h)
    noted cleans = Inner tt refl refl (λ h. tt) (λ h. h)
    noted joins = Inner tt refl refl (λ h. tt) (λ h. h)
    noted acquired = Inner tt refl refl (λ h. tt) (λ h. h)
    noted begins_copy = Inner tt refl refl (λ h. tt) (λ h. h)
    noted begins_fill = Inner tt refl refl (λ h. tt) (λ h. h)
    noted fetched = Inner tt refl refl (λ h. tt) (λ h. h)
    noted filled = Inner tt refl refl (λ h. tt) (λ h. h)
    noted broken = Inner tt refl refl (λ h. tt) (λ h. h)
    noted broadcast = Inner tt refl refl (λ h. tt) (λ h. h)
    noted (sent e) = Inner tt refl refl (λ h. tt) (λ h. h)
    noted (told e) = Inner tt refl refl (λ h. tt) (λ h. h)
    noted (appends_load e) = absurd (some_rest last e)
    noted (appends_store e) = absurd (some_rest last e)
    noted (signals e other) = absurd (some_rest last e)
    noted (admits e other) = absurd (some_rest last e)
    noted (arrives e) = absurd (some_rest last e)
    noted (dismisses e) = absurd (some_rest last e)
    noted (gives e) = absurd (some_rest last e)
    noted (goes e) = absurd (some_rest last e)
    noted (moves e) = absurd (some_rest last e)
    noted (passes e) = absurd (some_rest last e)
    noted (quits e) = absurd (some_rest last e)
    noted (counts {n = n} h) = Inner (plain n h) refl refl (λ s. s) (λ e. e)

    -- nobody goes on from there
    pub stuck : {w : Work} {o : Own} {j : Job} → Works u (Some last) w o j → IsStuck w → ⊥
    stuck (Makes within steps k) e = not_stuck _ (row (steps 0) within (stuck (k 0))).0 e
    stuck (Takes turn within wins k) e = not_stuck _ (win wins).0 e
    stuck (Marks n k) e = go (noted n) (stuck k) e
      where
        go : {w w' : Work} {n : Note} → Told_of u w n w' → (IsStuck w' → ⊥) → IsStuck w → ⊥
        go Owed h e = e
        go (Inner inner turn owes settled end) h e = h (end e)
    stuck (Asks {o = o} f) e = stuck (f o) e
    stuck (Slips s k) e = not_stuck _ (slip s).0 e
    stuck (Rests last_is resting) e = resting_goes_on _ resting e
    stuck (Asides none may is f) e = some_rest last none
    stuck (Begins none) e = some_rest last none
    stuck (Ends none other) e = some_rest last none
    stuck (Halts none) e = some_rest last none

    -- it does protocol work with this turn held, and this mapping owed
    abbrev Under : Option TurnId → Option (ℕ × ℕ) → Job → Type 0
    Under t m j = Working u last t m j

    held_at : (w : Work) {t : Option TurnId} {m : Option (ℕ × ℕ)} {j : Job} → turn_at u w ≡ t → owed w ≡ m → Under (turn_at u w) (owed w) j → Under t m j
    held_at w {t} {m} {j} e f k = subst (λ s. Under s m j) e (subst (λ s. Under (turn_at u w) s j) f k)

    back : (w : Work) {t : Option TurnId} {m : Option (ℕ × ℕ)} {j : Job} → turn_at u w ≡ t → owed w ≡ m → Under t m j → Under (turn_at u w) (owed w) j
    back w {t} {m} {j} e f k = subst (λ s. Under s (owed w) j) (sym e) (subst (λ s. Under t s j) (sym f) k)

    rested : (r : Round) → IsResting r → Under (turn_at u (Off r)) None last
    rested Idle h = Rested
    rested Waiting h = Rested
    rested (Signalling t0) h = Rested
    rested Passing h = Rested
    rested Quitting h = Rested
    rested Finished h = Rested
    rested Closed h = Rested
    rested (Access faulted write a) h = Rested
    rested r h = absurd h

    noting : {w w' : Work} {n : Note} {j : Job} → Told_of u w n w' → IsSettled u w → (IsSettled u w' → Under (turn_at u w') (owed w') j) → Under (turn_at u w) (owed w) (Mark n j)
    noting (Owed {r = r} {g = g} {s = t}) s k = Marks_map (held_at (On r g t) s.0 s.1 (k s.2))
    noting (Inner {w' = w'} inner turn owes settled end) s k = Marked _ _ inner (held_at w' turn owes (k (settled s)))

    making : (w : Work) {a : Act} {k : ℕ → Job} (next : ℕ → Work) → ((x : ℕ) → Goes u w a (next x)) → ((x : ℕ) → IsSettled u (next x) → Under (turn_at u (next x)) (owed (next x)) (k x)) → Under (turn_at u w) (owed w) (Make a k)
    making w {a} {k = j} next legal k =
        subst (λ m. Under (turn_at u w) m (Make a j)) (sym (nothing_owed w (legal 0).0)) (Made (legal 0).1 (λ x. let g = (legal x).2 in held_at (next x) g.turn g.owes (k x g.settled)))

    takes_turn : (w w' : Work) {j : Job} (turn : TurnId) → IsWithin u.lay (turn_item turn) → IsStart w × (turn_at u w ≡ None) × (owed w ≡ None) × At u (Some turn) None w' → (IsSettled u w' → Under (turn_at u w') (owed w') j) → Under (turn_at u w) (owed w) (Again (Change (turn_item turn) 0 (u.p + 1)) 0 j)
    takes_turn w w' turn within g k = back w g.1 g.2 (Taken turn within (held_at w' g.3.turn g.3.owes (k g.3.settled)))

    -- protocol work by the table is protocol work by its rights
    pub works_of : {w : Work} {o : Own} {j : Job} → Works u (Some last) w o j → IsSettled u w → Under (turn_at u w) (owed w) j
    works_of (Makes {w = w} {next = next} within steps k) s = making w next (λ x. row (steps x) within (stuck (k x))) (λ x. works_of (k x))
    works_of (Takes {w = w} {w' = w'} turn within wins k) s = takes_turn w w' turn within (win wins) (works_of k)
    works_of (Marks n k) s = noting (noted n) s (works_of k)
    works_of (Asks {o = o} f) s = Asked_of (λ p. works_of (f p) s)
    works_of (Slips {w = w} {w' = w'} x k) s = let g = slip x in back w refl (nothing_owed w g.0) (held_at w' g.1.turn g.1.owes (works_of k g.1.settled))
    works_of (Rests {r = r} is resting) s = subst (λ j. Under (turn_at u (Off r)) None j) (same_rest _ _ is) (rested r resting)
    works_of (Asides none may is f) s = absurd (some_rest last none)
    works_of (Begins none) s = absurd (some_rest last none)
    works_of (Ends none other) s = absurd (some_rest last none)
    works_of (Halts none) s = absurd (some_rest last none)

-- a processor that has no mapping
abbrev pub bare : Own
bare = record new_own { maps = [] }

pub none_allowed : (write : Bool) → allows write 0 ≡ false
none_allowed true = refl
none_allowed false = refl

-- a fault
pub fault_works : (u : Who) (j : Job) → IsPlaced u → (write : Bool) (w : ℕ) → page_of u w < u.lay.pages → Working u j None None (fault_job u write (page_of u w) j)
fault_works u j at write w inside = works_of u j (fault_typed u at write w inside bare (none_allowed write) (λ p allowed. Rests refl tt)) tt

-- a release
pub release_works : (u : Who) (j : Job) → IsPlaced u → Working u j None None (release_job u j)
release_works u j at = works_of u j (release_typed u at bare (λ t0 p. Rests refl tt)) tt

-- an acquire
pub acquire_works : (u : Who) (j : Job) → IsPlaced u → Working u j None None (acquire_job u j)
acquire_works u j at = works_of u j (acquire_typed u at bare (λ p. Rests refl tt)) tt

-- the closing work
pub closing_works : (u : Who) (j : Job) → IsPlaced u → Working u j None None (closing_job u j)
closing_works u j at = works_of u j (closing_typed u at bare (λ p. Rests refl tt)) tt
