-- Each row, turn, decision and note leads to a place that fits its release, and keeps the lengths of what is held of each page.
use Rattle.std.proofs.Common.{◌≡◌, ◌≢◌, ◌⊎◌, inl, inr, ℕ, ◌+◌, ◌≤◌, ◌==◌, Bool, true, false, List, [], ◌∷◌, length, None, refl, ap, ◌∙◌, if◌then◌else◌}
use Rattle.std.specs.Prelude.{◌&&◌, ◌||◌, not, nat_lt, suc}
use Rattle.std.proofs.lemmas.List.{length-set}
use Rattle.dsm_words.specs.Script.{Act}
use Rattle.dsm_clock.specs.declared.turns.TurnId.{TurnId}
use Rattle.dsm_protocol.specs.Own.{Own, Who, node_of, with_pages}
use Rattle.dsm_protocol.specs.Jobs.{Note, Soil, Clean, Join, own_after}
use Rattle.dsm_protocol.specs.Stages.{Cause, Fault, Closing, Seeker, For_fault, For_release, For_closing, Stage, Missing, Seeking, Soiling, Giving, Round, Holder, Closes, Work, Off, On, Gone, found, registered, held_alone, departed, lowered}
use Rattle.dsm_protocol.specs.Rows.{Step, Wins, Slip, Noted, stops, closes, forsaken, counts, joins, draws_release, collects, sees_dir, seeks, settles, looks, reads_map, departs, sees_again, tests, judges, merges, has_twin, sets, sees_release, lasts, draws_send, tests_flush, flushes_same, reads_dir, lowers, untwins, sees_acquire, judges_own, sees_bare, seeks_holder, shared, marked, claimed, unlowered, dropped, emptied}
use Rattle.dsm_protocol.specs.Standing.{Stay, Notes}
use Rattle.dsm_ties.proofs.Storing.{path_places}
use Rattle.dsm_freshness.proofs.Frame.{Fits}
use Rattle.dsm_releases.specs.Events.{note_events}
use Rattle.dsm_releases.proofs.Frame.{IsReleasing, release_fits, FitsRelease}

-- what the rows ask of a place, whatever is owed
pub record Sits (u : Who) (w : Work) (o : Own) : Type 0 where
  pub fits : Fits w
  pub releasing : FitsRelease w
  pub maps_in : u.lay.pages ≤ length o.maps
  pub dirty_in : u.lay.pages ≤ length o.dirty

-- one of two stages
picks : (r : Round) (d : Bool) (s t : Stage) → release_fits s r → release_fits t r → release_fits (if d then s else t) r
picks r true s t a b = a
picks r false s t a b = b

module _ (u : Who) where
  -- where a search of the home, a visit or a lowering leads
  found_fits : (r : Round) (a : Seeker) (h : ℕ) → release_fits (Seeking a) r → release_fits (found u a h) r
  found_fits r (For_fault write d) h i = go (d == 0)
    where
      go : (c : Bool) → release_fits (registered write h c) r
      go true = tt
      go false = tt
  found_fits r For_release h i = i
  found_fits r (For_closing j) h i = tt

  missing_fits : (r : Round) (a : Seeker) → release_fits (Seeking a) r → release_fits (Missing a) r
  missing_fits r (For_fault write d) i = tt
  missing_fits r For_release i = i
  missing_fits r (For_closing j) i = tt

  missed_fits : (r : Round) (a : Seeker) → release_fits (Missing a) r → release_fits (Seeking a) r
  missed_fits r (For_fault write d) i = tt
  missed_fits r For_release i = i
  missed_fits r (For_closing j) i = tt

  alone_fits : (r : Round) (c : Cause) (j : ℕ) → release_fits (held_alone u c j) r
  alone_fits r (Fault write h busy) j = tt
  alone_fits r Closing j = tt

  departed_fits : (r : Round) (g : ℕ) (c : Cause) (j : ℕ) → FitsRelease (departed r g c j)
  departed_fits r g (Fault write h busy) j = tt
  departed_fits r g Closing j = tt

  lowered_fits : (r : Round) (flushed : Bool) → IsReleasing r → release_fits (lowered u flushed) r
  lowered_fits r true i = i
  lowered_fits r false i = i

  module _ {ms : List ℕ} {ds : List Bool} where
    -- each row, each turn that is won, each decision
    pub row_releases : {w : Work} {a : Act} {x : ℕ} {v : Work} → Step u ms ds w a x v → FitsRelease w → FitsRelease v
    row_releases (sees_dir {r = r} {x = x}) f = picks r (x == 2) _ _ tt tt
    row_releases (seeks {r = r} {x = x} {a = a}) f = picks r (x == 0) _ _ (missing_fits r a f) (found_fits r a _ f)
    row_releases (settles {r = r} {x = x} {a = a}) f = found_fits r a _ (missed_fits r a f)
    row_releases (looks {r = r} {j = j} {x = x} {c = c}) f = picks r (x == 2) _ _ (alone_fits r c j) tt
    row_releases (reads_map {r = r} {x = x}) f = picks r (x == 2) _ _ tt tt
    row_releases (departs {r = r} {g = g} {j = j} {c = c}) f = departed_fits r g c j
    row_releases (sees_again {r = r} {x = x}) f = picks r (x == 2) _ _ tt tt
    row_releases (tests {r = r} {x = x}) f = picks r (x == 1) _ _ tt tt
    row_releases (judges {r = r} {y = y} {x = x}) f = picks r (y == 0 || nat_lt y x) _ _ tt tt
    row_releases (merges {r = r} {v = v} {x = x}) f = picks r (v == x) _ _ tt tt
    row_releases (has_twin {r = r} {x = x}) f = picks r (x == 1) _ _ tt tt
    row_releases (sets {r = r} {write = write} {alone = alone}) f = picks r (write && not alone) Soiling Giving tt tt
    row_releases (sees_release {r = r} {x = x}) f = picks r (x == 2) _ _ f f
    row_releases (lasts {t0 = t0} {x = x}) f = picks _ (nat_lt t0 x) _ _ tt tt
    row_releases (draws_send {r = r} {h = h}) f = picks r (node_of u == h) _ _ f f
    row_releases (tests_flush {r = r} {x = x} e) f = picks r (x == 1) _ _ f f
    row_releases (flushes_same {r = r} {v = v} {x = x}) f = picks r (v == x) _ _ f f
    row_releases (reads_dir {r = r} {h = h} {j = j} {x = x}) f = picks r (x == 0 || j == node_of u || j == h) _ _ f f
    row_releases (lowers {r = r} {flushed = flushed} e) f = lowered_fits r flushed f
    row_releases (untwins {r = r} {free = free}) f = picks r free _ _ f f
    row_releases (sees_acquire {r = r} {x = x}) f = picks r (x == 2) _ _ tt tt
    row_releases (judges_own {r = r} {y = y} {x = x}) f = picks r (y == 0 || nat_lt y x) _ _ tt tt
    row_releases (sees_bare {r = r} {x = x}) f = picks r (x == 0) _ _ tt tt
    row_releases draws_release f = refl
    row_releases (collects {k = k} {set = set}) f = length-set set k _ ∙ f
    row_releases (seeks_holder {g = g} {j = j} {x = x}) f = go (x == 2)
      where
        go : (c : Bool) → FitsRelease (Off (if c then Holder g j else Closes g (j + 1)))
        go true = tt
        go false = tt
    row_releases step f = f

    pub win_releases : {w : Work} {t : TurnId} {v : Work} → Wins u ms ds w t v → FitsRelease w → FitsRelease v
    win_releases closes f = tt
    win_releases win f = f

    pub slip_releases : {w v : Work} → Slip u ms ds w v → FitsRelease w → FitsRelease v
    slip_releases (shared {r = r} {g = g} {write = write} {row = row}) f = picks r (row.busy == 0) _ _ (picks r (write && not row.others) _ _ tt tt) tt
    slip_releases (marked {r = r} {h = h} {j = j}) f = picks r (j == h) _ _ tt tt
    slip_releases (claimed {r = r} {h = h} {row = row}) f = picks r row.others _ _ tt (picks r (node_of u == h) _ _ tt tt)
    slip_releases (unlowered {r = r} {flushed = flushed} e) f = lowered_fits r flushed f
    slip_releases (dropped {r = r} {unwritten = unwritten}) f = picks r unwritten _ _ f f
    slip_releases (emptied {r = r} {free = free}) f = picks r free _ _ tt tt
    slip_releases slip f = f

    -- who has ended makes no operation, wins no turn and decides nothing
    pub row_lives : {w : Work} {a : Act} {x : ℕ} {v : Work} → Step u ms ds w a x v → w ≢ Gone
    row_lives stops e = absurd (cc e)
    row_lives step e = absurd (cc e)

    pub win_lives : {w : Work} {t : TurnId} {v : Work} → Wins u ms ds w t v → w ≢ Gone
    win_lives closes e = absurd (cc e)
    win_lives win e = absurd (cc e)

    pub slip_lives : {w v : Work} → Slip u ms ds w v → w ≢ Gone
    slip_lives forsaken e = absurd (cc e)
    slip_lives slip e = absurd (cc e)

  -- each note
  pub note_releases : {w v : Work} {i : Note} → Noted u None w i v → FitsRelease w → FitsRelease v
  note_releases joins f = tt
  note_releases noted f = f

  -- who has ended notes nothing but what is counted
  pub note_gone : (h n g i : ℕ) {w v : Work} {e : Note} (noted : Noted u None w e v) → w ≡ Gone → (v ≡ Gone) × (note_events h n g i u noted ≡ [])
  note_gone h n g i (counts plain) e = (e, refl)
  note_gone h n g i noted e = absurd (cc e)

  -- the lists of what is held of each page keep their lengths
  pub note_maps : (o : Own) {w v : Work} {i : Note} → Noted u None w i v → length (own_after o i).maps ≡ length o.maps
  note_maps o {i = i} noted = path_places u (Notes {o = o} i noted Stay)

pages_length : (ds : List Bool) (set : List ℕ) (k : ℕ) → length (with_pages ds set k) ≡ length ds
pages_length [] set k = refl
pages_length (d ∷ ds) set k = ap suc (pages_length ds set (k + 1))

pub note_dirty : (o : Own) (i : Note) → length (own_after o i).dirty ≡ length o.dirty
note_dirty o (Soil g) = length-set o.dirty g true
note_dirty o (Clean g) = length-set o.dirty g false
note_dirty o (Join set) = pages_length o.dirty set 0
note_dirty o i = refl

-- it has ended, or not
pub is_gone : (w : Work) → (w ≡ Gone) ⊎ (w ≢ Gone)
is_gone Gone = inl refl
is_gone (Off r) = inr (λ e. absurd (cc e))
is_gone (On r g s) = inr (λ e. absurd (cc e))
