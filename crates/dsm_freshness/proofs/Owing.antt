-- Who owes the note of a send of page g by node m came there by the send's last operation, and does nothing else before the note.
use Rattle.std.proofs.Common.{◌≡◌, ◌≢◌, ◌⊎◌, inl, inr, ℕ, ◌==◌, Bool, true, false, List, [], ◌∷◌, None, refl, sym, ◌∙◌, if◌then◌else◌}
use Rattle.std.specs.Prelude.{◌||◌, ◌&&◌, not, nat_lt}
use Rattle.std.proofs.lemmas.Bool.{eq-eqb, ne_eqb}
use Rattle.dsm_words.specs.Script.{Act}
use Rattle.dsm_clock.specs.declared.turns.TurnId.{TurnId}
use Rattle.dsm_protocol.specs.Own.{Own, Who, node_of}
use Rattle.dsm_protocol.specs.Jobs.{Note}
use Rattle.dsm_protocol.specs.Stages.{Cause, Fault, Closing, Seeker, For_fault, For_release, For_closing, Round, Stage, Mapped, Stamped, Broken, Broadcast, Work, Off, On, Gone, registered, found, held_alone, departed, lowered}
use Rattle.dsm_protocol.specs.Rows.{Step, sees_dir, seeks, settles, looks, reads_map, breaks, departs, sees_again, tests, judges, merges, has_twin, sets, sees_release, lasts, draws_send, tests_flush, flushes_same, stamps_flush, reads_dir, lowers, untwins, sees_acquire, judges_own, sees_bare, Wins, faults, Slip, shared, marked, claimed, unlowered, dropped, emptied, Noted, maps, broken, counts}
use Rattle.dsm_protocol.specs.Standing.{Does, Row, Won, Lost, Aside}
use Rattle.dsm_runs.specs.Setups.{Setup, who_at}
use Rattle.dsm_ties.proofs.Trails.{Position, Piece, Decides, Acts, Notes, Starves, is_noting}
use Rattle.dsm_fresh.specs.Pages.{Event, Share, Send, Break}
use Rattle.dsm_freshness.specs.Events.{step_events, note_events}
use Rattle.dsm_freshness.proofs.Trailing.{does_fresh, piece_fresh, left}

module _ (m g : ℕ) (u : Who) where
  -- a processor owes the note that node m has sent page g, or that this is told by a break; or it will, behind the note of a mapping
  abbrev pub OwesAt : ℕ → Stage → Type 0
  OwesAt h (Mapped k s) = OwesAt h s
  OwesAt h (Stamped home flushed) = (h ≡ g) × (node_of u ≡ m) × ((flushed || node_of u == home) ≡ true)
  OwesAt h (Broken c j) = (h ≡ g) × (j ≡ m)
  OwesAt h (Broadcast c j) = (h ≡ g) × (j ≡ m)
  OwesAt h s = ⊥

  abbrev pub Owes : Work → Type 0
  Owes (On r h s) = OwesAt h s
  Owes w = ⊥

  -- the send is a break, which is told at once
  abbrev pub TellsAt : ℕ → Stage → Type 0
  TellsAt h (Broken c j) = (h ≡ g) × (j ≡ m)
  TellsAt h (Broadcast c j) = (h ≡ g) × (j ≡ m)
  TellsAt h s = ⊥

  abbrev pub Tells : Work → Type 0
  Tells (On r h s) = TellsAt h s
  Tells w = ⊥

  -- it does not stand before the note of a mapping
  abbrev pub IsTop : Work → Type 0
  IsTop (On r h (Mapped k s)) = ⊥
  IsTop w = Unit {0}

  -- these events are the send that it owes the note of
  abbrev pub Sends : List Event → Work → Type 0
  Sends es v = IsTop v × (((es ≡ Send ∷ []) × (Tells v → ⊥)) ⊎ (es ≡ Break ∷ []))

  -- then that note is the next thing that it does
  pub owes_noting : (w : Work) → Owes w → IsTop w → is_noting u w ≡ true
  owes_noting (On r h (Mapped k s)) o t = absurd t
  owes_noting (On r h (Stamped home flushed)) o t = o.2
  owes_noting (On r h (Broken c j)) o t = refl
  owes_noting (On r h (Broadcast c j)) o t = refl
  owes_noting (On r h s) o t = absurd o
  owes_noting (Off r) o t = absurd o
  owes_noting Gone o t = absurd o

  -- of two stages that owe nothing
  none_if : (h : ℕ) (c : Bool) (s s' : Stage) → (OwesAt h s → ⊥) → (OwesAt h s' → ⊥) → OwesAt h (if c then s else s') → ⊥
  none_if h true s s' a b o = a o
  none_if h false s s' a b o = b o

  none_registered : (h : ℕ) (write : Bool) (k : ℕ) (c : Bool) → OwesAt h (registered write k c) → ⊥
  none_registered h write k true o = o
  none_registered h write k false o = o

  none_found : (h : ℕ) (a : Seeker) (k : ℕ) → OwesAt h (found u a k) → ⊥
  none_found h (For_fault write d) k o = none_registered h write k (d == 0) o
  none_found h For_release k o = o
  none_found h (For_closing j) k o = o

  none_alone : (h : ℕ) (c : Cause) (j : ℕ) → OwesAt h (held_alone u c j) → ⊥
  none_alone h (Fault write k busy) j o = o
  none_alone h Closing j o = o

  none_departed : (r : Round) (h : ℕ) (c : Cause) (j : ℕ) → Owes (departed r h c j) → ⊥
  none_departed r h (Fault write k busy) j o = o
  none_departed r h Closing j o = o

  none_lowered : (h : ℕ) (flushed : Bool) → OwesAt h (lowered u flushed) → ⊥
  none_lowered h true o = o
  none_lowered h false o = o

module _ (m n g : ℕ) (apart : m ≢ n) where
  module _ (u : Who) where
    -- the last operation of a break, and of a send
    broke : (h j : ℕ) → h ≡ g → j ≡ m → (if h == g then (if j == n then Share ∷ [] else (if j == m then Break ∷ [] else [])) else []) ≡ Break ∷ []
    broke h j d e = rw (eq-eqb h g d) (rw (ne_eqb j n (λ z. apart (sym e ∙ z))) (rw (eq-eqb j m e) refl))

    sent_it : (h home : ℕ) (flushed : Bool) → h ≡ g → node_of u ≡ m → (flushed || node_of u == home) ≡ true → (if h == g && (node_of u == m) && (flushed || node_of u == home) then Send ∷ [] else []) ≡ Send ∷ []
    sent_it h home flushed d e f = rw (eq-eqb h g d) (rw (eq-eqb (node_of u) m e) (rw f refl))

    module _ {ms : List ℕ} {ds : List Bool} where
      -- an operation behind which it owes the note is the send's last one; no turn and no decision leads there
      pub step_owes : {w : Work} {a : Act} {x : ℕ} {v : Work} (step : Step u ms ds w a x v) → Owes m g u v → Sends m g u (step_events m n g u step) v
      step_owes (sees_dir {g = h} {x = x}) o = absurd (none_if m g u h (x == 2) _ _ (λ z. z) (λ z. z) o)
      step_owes (seeks {g = h} {x = x} {a = a}) o = absurd (none_if m g u h (x == 0) _ _ (λ z. z) (none_found m g u h a _) o)
      step_owes (settles {g = h} {a = a}) o = absurd (none_found m g u h a _ o)
      step_owes (looks {g = h} {j = j} {x = x} {c = c}) o = absurd (none_if m g u h (x == 2) _ _ (none_alone m g u h c j) (λ z. z) o)
      step_owes (reads_map {g = h} {x = x}) o = absurd (none_if m g u h (x == 2) _ _ (λ z. z) (λ z. z) o)
      step_owes (breaks {g = h} {j = j}) o = (tt, inr (broke h j o.0 o.1))
      step_owes (departs {r = r} {g = h} {j = j} {c = c}) o = absurd (none_departed m g u r h c j o)
      step_owes (sees_again {g = h} {x = x}) o = absurd (none_if m g u h (x == 2) _ _ (λ z. z) (λ z. z) o)
      step_owes (tests {g = h} {x = x}) o = absurd (none_if m g u h (x == 1) _ _ (λ z. z) (λ z. z) o)
      step_owes (judges {g = h} {y = y} {x = x}) o = absurd (none_if m g u h (y == 0 || nat_lt y x) _ _ (λ z. z) (λ z. z) o)
      step_owes (merges {g = h} {v = v} {x = x}) o = absurd (none_if m g u h (v == x) _ _ (λ z. z) (λ z. z) o)
      step_owes (has_twin {g = h} {x = x}) o = absurd (none_if m g u h (x == 1) _ _ (λ z. z) (λ z. z) o)
      step_owes (sets {g = h} {write = write} {alone = alone}) o = absurd (none_if m g u h (write && not alone) _ _ (λ z. z) (λ z. z) o)
      step_owes (sees_release {g = h} {x = x}) o = absurd (none_if m g u h (x == 2) _ _ (λ z. z) (λ z. z) o)
      step_owes (lasts {t0 = t0} {g = h} {x = x}) o = absurd (none_if m g u h (nat_lt t0 x) _ _ (λ z. z) (λ z. z) o)
      step_owes (draws_send {g = h} {h = k}) o = absurd (none_if m g u h (node_of u == k) _ _ (λ z. z) (λ z. z) o)
      step_owes (tests_flush {g = h} {x = x} away) o = absurd (none_if m g u h (x == 1) _ _ (λ z. z) (λ z. z) o)
      step_owes (flushes_same {g = h} {v = v} {x = x}) o = absurd (none_if m g u h (v == x) _ _ (λ z. z) (λ z. z) o)
      step_owes (stamps_flush {g = h} {h = home} {flushed = flushed}) o = (tt, inl (sent_it h home flushed o.0 o.1 o.2, λ z. z))
      step_owes (reads_dir {g = h} {h = k} {j = j} {x = x}) o = absurd (none_if m g u h (x == 0 || j == node_of u || j == k) _ _ (λ z. z) (λ z. z) o)
      step_owes (lowers {g = h} {flushed = flushed} written) o = absurd (none_lowered m g u h flushed o)
      step_owes (untwins {g = h} {free = free}) o = absurd (none_if m g u h free _ _ (λ z. z) (λ z. z) o)
      step_owes (sees_acquire {g = h} {x = x}) o = absurd (none_if m g u h (x == 2) _ _ (λ z. z) (λ z. z) o)
      step_owes (judges_own {g = h} {y = y} {x = x}) o = absurd (none_if m g u h (y == 0 || nat_lt y x) _ _ (λ z. z) (λ z. z) o)
      step_owes (sees_bare {g = h} {x = x}) o = absurd (none_if m g u h (x == 0) _ _ (λ z. z) (λ z. z) o)
      step_owes row o = absurd o

      pub win_owes : {w : Work} {t : TurnId} {v : Work} → Wins u ms ds w t v → Owes m g u v → ⊥
      win_owes (faults barred) o = o
      win_owes row o = o

      pub slip_owes : {w v : Work} → Slip u ms ds w v → Owes m g u v → ⊥
      slip_owes (shared {g = h} {write = write} {row = row}) o = none_if m g u h (row.busy == 0) _ _ (none_if m g u h (write && not row.others) _ _ (λ z. z) (λ z. z)) (λ z. z) o
      slip_owes (marked {g = h} {h = k} {j = j}) o = none_if m g u h (j == k) _ _ (λ z. z) (λ z. z) o
      slip_owes (claimed {g = h} {h = k} {row = row}) o = none_if m g u h row.others _ _ (λ z. z) (none_if m g u h (node_of u == k) _ _ (λ z. z) (λ z. z)) o
      slip_owes (unlowered {g = h} {flushed = flushed} unwritten) o = none_lowered m g u h flushed o
      slip_owes (dropped {g = h} {unwritten = unwritten}) o = none_if m g u h unwritten _ _ (λ z. z) (λ z. z) o
      slip_owes (emptied {g = h} {free = free}) o = none_if m g u h free _ _ (λ z. z) (λ z. z) o
      slip_owes row o = o

    -- who owes it behind a note owed it before, and the note is no event
    pub note_owes : {w : Work} {i : Note} {v : Work} (noted : Noted u None w i v) → Owes m g u v → Owes m g u w × (note_events m n g u noted ≡ [])
    note_owes maps o = (o, refl)
    note_owes broken o = (o, refl)
    note_owes (counts plain) o = (o, refl)
    note_owes row o = absurd o

    pub note_top : {w : Work} {i : Note} {v : Work} → Noted u None w i v → Owes m g u v → IsTop m g u w → IsTop m g u v × (Tells m g u v → Tells m g u w)
    note_top maps o top = absurd top
    note_top broken o top = (tt, λ t. t)
    note_top (counts plain) o top = (top, λ t. t)
    note_top row o top = absurd o

  module _ (s : Setup) where
    -- who owes the note behind a piece has sent by it; or owed it before, and the piece is no event
    abbrev pub Owed : {z : Position} {p : ℕ} → Piece s z p → Type 0
    Owed {z = z} {p = p} piece = Owes m g (who_at s p) (z.works p) × (piece_fresh s m n g piece ≡ []) × (IsTop m g (who_at s p) (z.works p) → IsTop m g (who_at s p) (left s piece) × (Tells m g (who_at s p) (left s piece) → Tells m g (who_at s p) (z.works p)))

    does_owes : (p : ℕ) {o : Own} {w : Work} {a : Act} {x : ℕ} {v : Work} (does : Does (who_at s p) o w a x v) → Owes m g (who_at s p) v
        → (Owes m g (who_at s p) w × (does_fresh s m n g p does ≡ []) × (IsTop m g (who_at s p) w → IsTop m g (who_at s p) v × (Tells m g (who_at s p) v → Tells m g (who_at s p) w))) ⊎ Sends m g (who_at s p) (does_fresh s m n g p does) v
    does_owes p (Row within step) o = inr (step_owes (who_at s p) step o)
    does_owes p (Won turn within win is) o = absurd (win_owes (who_at s p) win o)
    does_owes p (Lost turn within win is) o = inl (o, refl, λ t. (t, λ y. y))
    does_owes p (Aside may is) o = absurd o

    pub piece_owes : {z : Position} {p : ℕ} (piece : Piece s z p) → Owes m g (who_at s p) (left s piece) → Owed piece ⊎ Sends m g (who_at s p) (piece_fresh s m n g piece) (left s piece)
    piece_owes {p = p} (Decides slip) o = absurd (slip_owes (who_at s p) slip o)
    piece_owes {p = p} (Acts any does) o = does_owes p does o
    piece_owes {p = p} (Notes i noted) o = inl ((note_owes (who_at s p) noted o).0, (note_owes (who_at s p) noted o).1, λ t. note_top (who_at s p) noted o t)
    piece_owes (Starves o' none) o = absurd o
