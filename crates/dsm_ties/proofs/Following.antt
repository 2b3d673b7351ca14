-- What a row, a turn, a decision or a note on any page is to one page.
use Rattle.std.proofs.Common.{◌≡◌, ◌≢◌, ◌⊎◌, inl, inr, ℕ, ◌+◌, ◌/◌, ◌<◌, ◌==◌, Bool, true, false, List, [], length, Option, None, refl, sym, ap, ◌∙◌, subst, arith, if◌then◌else◌}
use Rattle.std.specs.Prelude.{slice_index, slice_index_or, ◌&&◌, not}
use Rattle.std.proofs.lemmas.Bool.{cases_eq, eq-eqb, ne_eqb}
use Rattle.dsm_words.specs.declared.item.Item.TheVariants.{Frame, Twin, Map}
use Rattle.dsm_words.specs.Place.{total}
use Rattle.dsm_words.specs.Script.{Act, Get, Put, Swap, Change, Add, Or}
use Rattle.dsm_words.specs.Words.{word, done, told}
use Rattle.dsm_clock.specs.declared.turns.TurnId.{TurnId}
use Rattle.dsm_clock.specs.Turns.{turn_item}
use Rattle.dsm_protocol.specs.Own.{Own, Who, node_of}
use Rattle.dsm_protocol.specs.Jobs.{Note, own_after}
use Rattle.dsm_protocol.specs.Stages.{Stage, Mapped, Round, Work, Off, On, Gone, lowered}
use Rattle.dsm_protocol.specs.Rows.{IsPlain, Step, Wins, Slip, Noted, sees_dir, hears, ends, shared, marked, claimed, unlowered, dropped, emptied, maps, counts}
use Rattle.dsm_protocol.specs.Standing.{Path, Stay, Decides, Notes, IsAside}
use Rattle.dsm_protocol.proofs.Placed.{IsPlaced}
use Rattle.dsm_runs.specs.Clusters.{answer}
use Rattle.dsm_runs.proofs.Mappings.{IsSparing}
use Rattle.dsm_owners.specs.Directory.{State}
use Rattle.dsm_owners.proofs.Keeps.{Holds}
use Rattle.dsm_ties.specs.Events.{is_of, events_at, won_at, slipped_at}
use Rattle.dsm_ties.specs.Tied.{Match}
use Rattle.dsm_ties.proofs.Frame.{Answers, Acted, Meets, Now, RowActs, WinActs, SlipActs, NoteActs, done_get, untouched}
use Rattle.dsm_ties.proofs.Elsewhere.{aside_off, lost_same, plain_dirty, row_elsewhere, win_elsewhere, slip_elsewhere, note_elsewhere}

-- it still has to know of a mapping that was stored
abbrev owes : Work → Bool
owes (On r g (Mapped k s)) = true
owes w = false

module _ (u : Who) where
  picks : (r : Round) (g : ℕ) (c : Bool) (s t : Stage) → owes (On r g s) ≡ false → owes (On r g t) ≡ false → owes (On r g (if c then s else t)) ≡ false
  picks r g true s t a b = a
  picks r g false s t a b = b

  lowered_free : (r : Round) (g : ℕ) (flushed : Bool) → owes (On r g (lowered u flushed)) ≡ false
  lowered_free r g true = refl
  lowered_free r g false = refl

  -- behind a decision it owes none,
  slip_free : {ms : List ℕ} {ds : List Bool} {w v : Work} → Slip u ms ds w v → owes v ≡ false
  slip_free (shared {r = r} {g = g} {write = write} {row = row}) = picks r g (row.busy == 0) _ _ (picks r g (write && not row.others) _ _ refl refl) refl
  slip_free (marked {r = r} {g = g} {h = h} {j = j}) = picks r g (j == h) _ _ refl refl
  slip_free (claimed {r = r} {g = g} {h = h} {row = row}) = picks r g row.others _ _ refl (picks r g (node_of u == h) _ _ refl refl)
  slip_free (unlowered {r = r} {g = g} {flushed = flushed} e) = lowered_free r g flushed
  slip_free (dropped {r = r} {g = g} {unwritten = unwritten}) = picks r g unwritten _ _ refl refl
  slip_free (emptied {r = r} {g = g} {free = free}) = picks r g free _ _ refl refl
  slip_free slip = refl

  plain_maps : (i : Note) (o : Own) → IsPlain None i → (own_after o i).maps ≡ o.maps
  plain_maps i o p = grind arith

  note_free : {w v : Work} {i : Note} (o : Own) → Noted u None w i v → owes w ≡ false → (owes v ≡ false) × ((own_after o i).maps ≡ o.maps)
  note_free o maps e = absurd (cc e)
  note_free o (counts {n = i} p) e = (e, plain_maps i o p)
  note_free o noted e = (refl, refl)

  -- and from there on it comes to know of none
  path_maps : {w v : Work} {o p : Own} → Path u w o v p → owes w ≡ false → p.maps ≡ o.maps
  path_maps Stay e = refl
  path_maps (Decides slip k) e = path_maps k (slip_free slip)
  path_maps {o = o} (Notes i noted k) e = let f = note_free o noted e in path_maps k f.0 ∙ f.1

  pub slip_maps : {w w' v : Work} {o p : Own} → Slip u o.maps o.dirty w w' → Path u w' o v p → p.maps ≡ o.maps
  slip_maps slip k = path_maps k (slip_free slip)

-- one that has ended does nothing
module _ {u : Who} {ms : List ℕ} {ds : List Bool} where
  row_goes : {w : Work} {a : Act} {x : ℕ} {v : Work} → Step u ms ds w a x v → w ≡ Gone → ⊥
  row_goes sees_dir e = absurd (cc e)
  row_goes step e = absurd (cc e)

  win_goes : {w v : Work} {t : TurnId} → Wins u ms ds w t v → v ≡ Gone → ⊥
  win_goes hears e = absurd (cc e)
  win_goes win e = absurd (cc e)

  slip_goes : {w v : Work} → Slip u ms ds w v → w ≡ Gone → ⊥
  slip_goes ends e = absurd (cc e)
  slip_goes slip e = absurd (cc e)

  -- on no page each decision, and the turn of the notices, is of every page
  slip_here : (g : ℕ) {r : Round} {v : Work} → Slip u ms ds (Off r) v → is_of g (Off r) ≡ true
  slip_here g ends = refl
  slip_here g slip = refl

  hears_here : (g : ℕ) {w : Work} {t : TurnId} {r : Round} → Wins u ms ds w t (Off r) → is_of g (Off r) ≡ true
  hears_here g hears = refl

-- the answer of an event is what was there, but for the load of a frame or a twin
pub answers : (any : Option ℕ) (a : Act) (x v : ℕ) → x ≡ told a v → Answers a (answer any a x) v
answers any (Get (Frame n g i)) x v e = tt
answers any (Get (Twin n g i)) x v e = tt
answers any a x v e = e

module _ (u : Who) (at : IsPlaced u) (g : ℕ) (g_in : g < u.lay.pages) where
  abbrev node : ℕ → ℕ
  node q = q / u.lay.procs

  -- what the rows, turns, decisions and notes of page g give
  pub record EachActs : Type 0 where
    pub row : (ws : List ℕ) (long : length ws ≡ total u.lay) (b : State) (m : Match u g ws b) (o : Own) {r : Round} {s : Stage} {a : Act} {x : ℕ} {v : Work} (step : Step u o.maps o.dirty (On r g s) a x v) → RowActs u at g g_in ws long b m o step
    pub round : (ws : List ℕ) (long : length ws ≡ total u.lay) (b : State) (m : Match u g ws b) (o : Own) {r : Round} {a : Act} {x : ℕ} {v : Work} (step : Step u o.maps o.dirty (Off r) a x v)
        → Meets u at g g_in ws long b m o a x → Now u at g g_in ws long b m (Off r) o → Acted u at g g_in ws long b m o v (done u.lay ws a) (events_at g u step)
    pub win : (ws : List ℕ) (long : length ws ≡ total u.lay) (b : State) (m : Match u g ws b) (o : Own) {w : Work} {t : TurnId} {r : Round} {s : Stage} (win : Wins u o.maps o.dirty w t (On r g s)) → WinActs u at g g_in ws long b m o win
    pub hear : (ws : List ℕ) (long : length ws ≡ total u.lay) (b : State) (m : Match u g ws b) (o : Own) {w : Work} {t : TurnId} {r : Round} (win : Wins u o.maps o.dirty w t (Off r)) → WinActs u at g g_in ws long b m o win
    pub slip : (ws : List ℕ) (long : length ws ≡ total u.lay) (b : State) (m : Match u g ws b) (o : Own) {r : Round} {s : Stage} {v : Work} (slip : Slip u o.maps o.dirty (On r g s) v) → SlipActs u at g g_in ws long b m o slip
    pub pass : (ws : List ℕ) (long : length ws ≡ total u.lay) (b : State) (m : Match u g ws b) (o : Own) {r : Round} {v : Work} (slip : Slip u o.maps o.dirty (Off r) v) → SlipActs u at g g_in ws long b m o slip
    pub note : (ws : List ℕ) (long : length ws ≡ total u.lay) (b : State) (m : Match u g ws b) (o : Own) {r : Round} {s : Stage} {i : Note} {v : Work} (noted : Noted u None (On r g s) i v) → NoteActs u at g g_in ws long b m o noted
    pub entry : (ws : List ℕ) (long : length ws ≡ total u.lay) (b : State) (m : Match u g ws b) (o : Own) {r : Round} {i : Note} {v : Work} (noted : Noted u None (Off r) i v) → NoteActs u at g g_in ws long b m o noted

  module _ (each : EachActs) (ws : List ℕ) (long : length ws ≡ total u.lay) where
    module _ (b : State) (m : Match u g ws b) (o : Own) where
      abbrev Is : Work → Own → Type 0
      Is w p = Now u at g g_in ws long b m w p

      -- a row, on whatever page
      pub row_any : (w : Work) {a : Act} {x : ℕ} {v : Work} (step : Step u o.maps o.dirty w a x v) → Meets u at g g_in ws long b m o a x → Is w o → Acted u at g g_in ws long b m o v (done u.lay ws a) (events_at g u step)
      row_any (On r h s) {a} {x} {v} step f k = go (cases_eq h g)
        where
          Shown : ℕ → Type 0
          Shown q = (z : Step u o.maps o.dirty (On r q s) a x v) → Is (On r q s) o → Acted u at g g_in ws long b m o v (done u.lay ws a) (events_at g u z)

          here : Shown g
          here z k = rw (eq-eqb g g refl) (each.row ws long b m o z f k)

          go : (h ≡ g) ⊎ (h ≢ g) → Acted u at g g_in ws long b m o v (done u.lay ws a) (events_at g u step)
          go (inl e) = subst Shown (sym e) here step k
          go (inr ne) = rw (ne_eqb h g ne) (row_elsewhere u at g g_in ws long b m step ne f.within k)
      row_any (Off r) step f k = each.round ws long b m o step f k
      row_any Gone step f k = absurd (row_goes step refl)

      -- a turn that is won
      pub win_any : {w : Work} {t : TurnId} (v : Work) (win : Wins u o.maps o.dirty w t v) → Meets u at g g_in ws long b m o (Change (turn_item t) 0 (u.p + 1)) 0 → Is w o → Acted u at g g_in ws long b m o v (done u.lay ws (Change (turn_item t) 0 (u.p + 1))) (won_at g u win)
      win_any {w} {t} (On r h s) win f k = go (cases_eq h g)
        where
          Shown : ℕ → Type 0
          Shown q = (z : Wins u o.maps o.dirty w t (On r q s)) → Acted u at g g_in ws long b m o (On r q s) (done u.lay ws (Change (turn_item t) 0 (u.p + 1))) (won_at g u z)

          here : Shown g
          here z = rw (eq-eqb g g refl) (each.win ws long b m o z f k)

          go : (h ≡ g) ⊎ (h ≢ g) → Acted u at g g_in ws long b m o (On r h s) (done u.lay ws (Change (turn_item t) 0 (u.p + 1))) (won_at g u win)
          go (inl e) = subst Shown (sym e) here win
          go (inr ne) = rw (ne_eqb h g ne) (win_elsewhere u at g g_in ws long b m win ne f.within k)
      win_any (Off r) win f k = rw (hears_here g win) (each.hear ws long b m o win f k)
      win_any Gone win f k = absurd (win_goes win refl)

      -- a decision
      pub slip_any : (w : Work) {v : Work} (slip : Slip u o.maps o.dirty w v) → word u.lay ws (Map u.p g) ≡ slice_index o.maps g → Holds u.lay.nodes node b → Is w o → Acted u at g g_in ws long b m o v ws (slipped_at g u slip)
      slip_any (On r h s) {v} slip own all k = go (cases_eq h g)
        where
          Shown : ℕ → Type 0
          Shown q = (z : Slip u o.maps o.dirty (On r q s) v) → Is (On r q s) o → Acted u at g g_in ws long b m o v ws (slipped_at g u z)

          here : Shown g
          here z k = rw (eq-eqb g g refl) (each.slip ws long b m o z own all k)

          go : (h ≡ g) ⊎ (h ≢ g) → Acted u at g g_in ws long b m o v ws (slipped_at g u slip)
          go (inl e) = subst Shown (sym e) here slip k
          go (inr ne) = rw (ne_eqb h g ne) (record { runs = tt; match = m; knows = slip_elsewhere u at g g_in ws long b m slip ne k })
      slip_any (Off r) slip own all k = rw (slip_here g slip) (each.pass ws long b m o slip own all k)
      slip_any Gone slip own all k = absurd (slip_goes slip refl)

      -- a turn that is not won changes nothing
      pub lost_any : {w : Work} (t : TurnId) → word u.lay ws (turn_item t) ≢ 0 → Is w o → Acted u at g g_in ws long b m o w (done u.lay ws (Change (turn_item t) 0 (u.p + 1))) []
      lost_any t held k = record { runs = tt; match = subst (λ z. Match u g z b) (sym (lost_same u ws (turn_item t) (u.p + 1) held)) m; knows = k }

      -- nor does an operation aside change a word of the page
      aside_words : (a : Act) → IsAside a → IsSparing u a → Match u g (done u.lay ws a) b
      aside_words (Get it) i z = subst (λ y. Match u g y b) (sym (done_get u ws it)) m
      aside_words (Put it y) i z = untouched u at g g_in ws long b m (Put it y) z.0 (aside_off g (Put it y) i)
      aside_words (Swap it y) i z = untouched u at g g_in ws long b m (Swap it y) z.0 (aside_off g (Swap it y) i)
      aside_words (Change it y y') i z = untouched u at g g_in ws long b m (Change it y y') z.0 (aside_off g (Change it y y') i)
      aside_words (Add it y) i z = untouched u at g g_in ws long b m (Add it y) z.0 (aside_off g (Add it y) i)
      aside_words (Or it y) i z = untouched u at g g_in ws long b m (Or it y) z.0 (aside_off g (Or it y) i)

      pub aside_any : {w : Work} (a : Act) → IsAside a → IsSparing u a → Is w o → Acted u at g g_in ws long b m o w (done u.lay ws a) []
      aside_any a aside spares k = record { runs = tt; match = aside_words a aside spares; knows = k }

      -- a note
      pub note_any : (w : Work) {i : Note} {v : Work} (noted : Noted u None w i v) → Is w o → Is v (own_after o i)
      note_any (On r h s) {i} {v} noted k = go (cases_eq h g)
        where
          Shown : ℕ → Type 0
          Shown q = Noted u None (On r q s) i v → Is (On r q s) o → Is v (own_after o i)

          here : Shown g
          here z k = each.note ws long b m o z k

          go : (h ≡ g) ⊎ (h ≢ g) → Is v (own_after o i)
          go (inl e) = subst Shown (sym e) here noted k
          go (inr ne) = note_elsewhere u at g g_in ws long b m noted ne k
      note_any (Off r) noted k = each.entry ws long b m o noted k
      note_any Gone (counts {n = i} p) k = record { at = k.at; round = tt; met = tt; dirty = λ c e. k.dirty refl (ap (λ z. slice_index_or z g false) (sym (plain_dirty i o p)) ∙ e); soils = tt; joins = tt; told = tt; heard = tt; homes = tt; times = tt }
