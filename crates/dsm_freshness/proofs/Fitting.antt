-- Each row, turn, decision and note leads to a place that fits: a stage of a fault in an access, one of an acquire in an acquire.
use Rattle.std.proofs.Common.{ℕ, ◌+◌, ◌==◌, Bool, true, false, List, None, refl, ◌∙◌, if◌then◌else◌}
use Rattle.std.specs.Prelude.{◌&&◌, ◌||◌, not, nat_lt}
use Rattle.std.proofs.lemmas.List.{length-set}
use Rattle.dsm_words.specs.Script.{Act}
use Rattle.dsm_clock.specs.declared.turns.TurnId.{TurnId}
use Rattle.dsm_protocol.specs.Own.{Who, node_of}
use Rattle.dsm_protocol.specs.Jobs.{Note}
use Rattle.dsm_protocol.specs.Stages.{Cause, Fault, Closing, Seeker, For_fault, For_release, For_closing, Stage, Round, Holder, Closes, Work, Off, found, registered, held_alone, departed, lowered, Soiling, Giving}
use Rattle.dsm_protocol.specs.Rows.{Step, Wins, Slip, Noted, sees_dir, seeks, settles, looks, reads_map, departs, sees_again, tests, judges, merges, has_twin, sets, gives, sees_release, lasts, draws_send, tests_flush, flushes_same, reads_dir, lowers, untwins, finishes, sees_acquire, judges_own, sees_bare, gives_over, gives_notices, takes, seeks_holder, closes, shared, marked, claimed, unlowered, dropped, emptied, taken, maps, wants, unmaps}
use Rattle.dsm_freshness.proofs.Frame.{Fits, IsStored, cause_fits, seeker_fits, stage_fits}

-- one of two stages
picks : (r : Round) (d : Bool) (s t : Stage) → stage_fits s r → stage_fits t r → stage_fits (if d then s else t) r
picks r true s t a b = a
picks r false s t a b = b

module _ (u : Who) where
  found_fits : (r : Round) (a : Seeker) (h : ℕ) → seeker_fits a r → stage_fits (found u a h) r
  found_fits r (For_fault write d) h i = go (d == 0)
    where
      go : (c : Bool) → stage_fits (registered write h c) r
      go true = i
      go false = i
  found_fits r For_release h i = tt
  found_fits r (For_closing j) h i = i

  alone_fits : (r : Round) (c : Cause) (j : ℕ) → cause_fits c r → stage_fits (held_alone u c j) r
  alone_fits r (Fault write h busy) j i = i
  alone_fits r Closing j i = i

  departed_fits : (r : Round) (g : ℕ) (c : Cause) (j : ℕ) → cause_fits c r → Fits (departed r g c j)
  departed_fits r g (Fault write h busy) j i = i
  departed_fits r g Closing j i = tt

  lowered_fits : (r : Round) (flushed : Bool) → stage_fits (lowered u flushed) r
  lowered_fits r true = tt
  lowered_fits r false = tt

  lowered_stored : (flushed : Bool) → IsStored (lowered u flushed)
  lowered_stored true = tt
  lowered_stored false = tt

  module _ {ms : List ℕ} {ds : List Bool} where
    pub row_fits : {w : Work} {a : Act} {x : ℕ} {v : Work} → Step u ms ds w a x v → Fits w → Fits v
    row_fits (sees_dir {r = r} {x = x}) f = picks r (x == 2) _ _ f f
    row_fits (seeks {r = r} {x = x} {a = a}) f = picks r (x == 0) _ _ f (found_fits r a _ f)
    row_fits (settles {r = r} {x = x} {a = a}) f = found_fits r a _ f
    row_fits (looks {r = r} {j = j} {x = x} {c = c}) f = picks r (x == 2) _ _ (alone_fits r c j f) f
    row_fits (reads_map {r = r} {x = x}) f = picks r (x == 2) _ _ f f
    row_fits (departs {r = r} {g = g} {j = j} {c = c}) f = departed_fits r g c j f
    row_fits (sees_again {r = r} {x = x}) f = picks r (x == 2) _ _ f f
    row_fits (tests {r = r} {x = x}) f = picks r (x == 1) _ _ f f
    row_fits (judges {r = r} {y = y} {x = x}) f = picks r (y == 0 || nat_lt y x) _ _ f f
    row_fits (merges {r = r} {v = v} {x = x}) f = picks r (v == x) _ _ f f
    row_fits (has_twin {r = r} {x = x}) f = picks r (x == 1) _ _ f f
    row_fits (sets {r = r} {write = write} {alone = alone}) f = go (write && not alone)
      where
        go : (d : Bool) → IsStored (if d then Soiling else Giving) × stage_fits (if d then Soiling else Giving) r
        go true = (tt, f)
        go false = (tt, f)
    row_fits (wants e) f = (tt, f)
    row_fits unmaps f = (tt, f)
    row_fits (sees_release {r = r} {x = x}) f = picks r (x == 2) _ _ tt tt
    row_fits (lasts {t0 = t0} {x = x}) f = picks _ (nat_lt t0 x) _ _ tt tt
    row_fits (draws_send {r = r} {h = h}) f = picks r (node_of u == h) _ _ tt tt
    row_fits (tests_flush {r = r} {x = x} e) f = picks r (x == 1) _ _ tt tt
    row_fits (flushes_same {r = r} {v = v} {x = x}) f = picks r (v == x) _ _ tt tt
    row_fits (reads_dir {r = r} {h = h} {j = j} {x = x}) f = picks r (x == 0 || j == node_of u || j == h) _ _ tt tt
    row_fits (lowers {r = r} {flushed = flushed} e) f = (lowered_stored flushed, lowered_fits r flushed)
    row_fits (untwins {r = r} {free = free}) f = picks r free _ _ tt tt
    row_fits (sees_acquire {r = r} {x = x}) f = picks r (x == 2) _ _ f f
    row_fits (judges_own {r = r} {y = y} {x = x}) f = picks r (y == 0 || nat_lt y x) _ _ f f
    row_fits (sees_bare {r = r} {x = x}) f = picks r (x == 0) _ _ f f
    row_fits gives f = tt
    row_fits finishes f = tt
    row_fits gives_over f = tt
    row_fits gives_notices f = refl
    row_fits (takes {k = k} {set = set}) f = length-set set k _ ∙ f
    row_fits (seeks_holder {g = g} {j = j} {x = x}) f = go (x == 2)
      where
        go : (c : Bool) → Fits (Off (if c then Holder g j else Closes g (j + 1)))
        go true = tt
        go false = tt
    row_fits step f = f

    pub win_fits : {w : Work} {t : TurnId} {v : Work} → Wins u ms ds w t v → Fits w → Fits v
    win_fits (closes) f = tt
    win_fits win f = f

    pub slip_fits : {w v : Work} → Slip u ms ds w v → Fits w → Fits v
    slip_fits (shared {r = r} {g = g} {write = write} {row = row}) f = picks r (row.busy == 0) _ _ (picks r (write && not row.others) _ _ f f) f
    slip_fits (marked {r = r} {h = h} {j = j}) f = picks r (j == h) _ _ f f
    slip_fits (claimed {r = r} {h = h} {row = row}) f = picks r row.others _ _ f (picks r (node_of u == h) _ _ f f)
    slip_fits (unlowered {r = r} {flushed = flushed} e) f = lowered_fits r flushed
    slip_fits (dropped {r = r} {unwritten = unwritten}) f = picks r unwritten _ _ tt tt
    slip_fits (emptied {r = r} {free = free}) f = picks r free _ _ f f
    slip_fits taken f = tt
    slip_fits slip f = f

  pub note_fits : {w v : Work} {i : Note} → Noted u None w i v → Fits w → Fits v
  note_fits maps f = f.1
  note_fits noted f = f
