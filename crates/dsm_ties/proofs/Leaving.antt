-- A processor that has arrived at the closing barrier makes no access any more, and lets no node have a page alone.
use Rattle.std.proofs.Common.{◌≡◌, ◌≢◌, ◌⊎◌, inl, inr, ℕ, ◌+◌, ◌<◌, ◌==◌, Bool, true, false, List, None, length, refl, sym, ap, ◌∙◌, subst, arith, if◌then◌else◌}
use Rattle.std.proofs.lemmas.Bool.{cases_eq}
use Rattle.dsm_words.specs.declared.item.Item.{Item}
use Rattle.dsm_words.specs.declared.item.Item.TheVariants.{Dir}
use Rattle.dsm_words.specs.Place.{total}
use Rattle.dsm_words.specs.Script.{Act, Get, Put, Swap, Change, Add, Or, item_of}
use Rattle.dsm_words.specs.Words.{word, done}
use Rattle.dsm_words.proofs.WordLaws.{word_same, word_other}
use Rattle.dsm_clock.specs.declared.turns.TurnId.{TurnId}
use Rattle.dsm_clock.specs.declared.turns.TurnId.TheVariants.{Page, Notices}
use Rattle.dsm_clock.specs.Turns.{turn_item}
use Rattle.dsm_protocol.specs.Own.{Own, Who}
use Rattle.dsm_protocol.specs.Jobs.{Note}
use Rattle.dsm_protocol.specs.Stages.{Cause, Fault, Closing, For_fault, For_release, For_closing, Stage, Seeking, Missing, Looking, Breaking, Marking, Saving, Whole, Ending, Broken, Broadcast, Parted, Round, Arrived, Dismissed, Quitting, Closed, Stopping, Closes, Holder, Work, Off, On, Gone}
use Rattle.dsm_protocol.specs.Rows.{Step, departs, seeks, settles, looks, reads_map, seeks_holder, breaks, Wins, closes, Slip, marked, forsaken, Noted, counts}
use Rattle.dsm_protocol.specs.Standing.{IsObject, IsAside, Does, Row as By_row, Won, Lost, Aside}
use Rattle.dsm_runs.proofs.Mappings.{IsSparing}
use Rattle.dsm_ties.proofs.Frame.{done_get}

-- the rounds behind that arrival, and that in which it tells all others to stop
abbrev pub has_left : Round → Bool
has_left Arrived = true
has_left Dismissed = true
has_left Quitting = true
has_left Closed = true
has_left Stopping = true
has_left (Closes g j) = true
has_left (Holder g j) = true
has_left r = false

-- a node is visited in the closing work
abbrev pub is_closing : Cause → Bool
is_closing Closing = true
is_closing c = false

-- the stages of such a visit
abbrev pub is_visit : Stage → Bool
is_visit (Seeking (For_closing j)) = true
is_visit (Missing (For_closing j)) = true
is_visit (Looking c j) = is_closing c
is_visit (Breaking c h j q) = is_closing c
is_visit (Marking c h j q) = is_closing c
is_visit (Saving c h j i part) = is_closing c
is_visit (Ending c j) = is_closing c
is_visit (Broken c j) = is_closing c
is_visit (Broadcast c j) = is_closing c
is_visit (Parted c j) = is_closing c
is_visit s = false

-- it stands there, on no page or amid such a visit, or is gone
abbrev pub leaver : Work → Bool
leaver (Off r) = has_left r
leaver (On r g s) = is_visit s
leaver Gone = true

-- one of two rounds, and one of two stages
either_left : (b : Bool) (r t : Round) → has_left r ≡ true → has_left t ≡ true → has_left (if b then r else t) ≡ true
either_left true r t d e = d
either_left false r t d e = e

either_visit : (b : Bool) (s t : Stage) → is_visit s ≡ true → is_visit t ≡ true → is_visit (if b then s else t) ≡ true
either_visit true s t d e = d
either_visit false s t d e = e

module _ (u : Who) {maps : List ℕ} {dirty : List Bool} where
  -- whatever comes, it stays there
  step_left : {w : Work} {a : Act} {x : ℕ} {v : Work} → Step u maps dirty w a x v → leaver w ≡ true → leaver v ≡ true
  step_left (departs {c = Closing}) e = refl
  step_left (departs {c = Fault write h busy}) e = absurd (cc e)
  step_left (seeks {x = x} {a = For_closing j}) e = either_visit (x == 0) (Missing (For_closing j)) _ refl refl
  step_left (seeks {a = For_fault write d}) e = absurd (cc e)
  step_left (seeks {a = For_release}) e = absurd (cc e)
  step_left (settles {a = For_closing j}) e = refl
  step_left (settles {a = For_fault write d}) e = absurd (cc e)
  step_left (settles {a = For_release}) e = absurd (cc e)
  step_left (looks {j = j} {x = x} {c = Closing}) e = either_visit (x == 2) (Seeking (For_closing j)) (Parted Closing j) refl refl
  step_left (looks {c = Fault write h busy}) e = absurd (cc e)
  step_left (reads_map {h = h} {j = j} {q = q} {x = x} {c = c}) e = either_visit (x == 2) (Marking c h j q) (Breaking c h j (q + 1)) e e
  step_left (seeks_holder {g = g} {j = j} {x = x}) e = either_left (x == 2) (Holder g j) (Closes g (j + 1)) refl refl
  step_left step e = grind arith

  wins_left : {w : Work} {t : TurnId} {v : Work} → Wins u maps dirty w t v → leaver w ≡ true → leaver v ≡ true
  wins_left closes e = refl
  wins_left win e = absurd (cc e)

  pub slip_left : {w v : Work} → Slip u maps dirty w v → leaver w ≡ true → leaver v ≡ true
  slip_left (marked {h = h} {j = j} {c = c}) e = either_visit (j == h) (Ending c j) (Saving c h j 0 Whole) e e
  slip_left forsaken e = refl
  slip_left slip e = grind arith

pub note_left : (u : Who) {w : Work} {i : Note} {v : Work} → Noted u None w i v → leaver w ≡ true → leaver v ≡ true
note_left u (counts p) e = e
note_left u noted e = grind arith

pub does_left : (u : Who) {o : Own} {w : Work} {a : Act} {x : ℕ} {v : Work} → Does u o w a x v → leaver w ≡ true → leaver v ≡ true
does_left u (By_row within step) e = step_left u step e
does_left u (Won turn within win is) e = wins_left u win e
does_left u (Lost turn within win held) e = e
does_left u (Aside may aside) e = e

-- whether it is the word of a node in the directory
abbrev pub is_dir : Item → Bool
is_dir (Dir n g) = true
is_dir it = false

-- the operation gives no node a page alone
abbrev pub Spares : Act → Type 0
Spares (Get it) = Unit {0}
Spares (Put (Dir n g) v) = v ≢ 2
Spares (Put it v) = Unit {0}
Spares a = is_dir (item_of a) ≡ false

-- nor does any that comes there
step_spares : (u : Who) {maps : List ℕ} {dirty : List Bool} {w : Work} {a : Act} {x : ℕ} {v : Work} → Step u maps dirty w a x v → leaver w ≡ true → Spares a
step_spares u breaks e = λ z. absurd (cc z)
step_spares u step e = grind arith

turn_spares : (t : TurnId) (old new : ℕ) → Spares (Change (turn_item t) old new)
turn_spares (Page n g) old new = refl
turn_spares (Notices n) old new = refl

object_spares : (it : Item) → IsObject it → is_dir it ≡ false
object_spares (Dir n g) h = absurd h
object_spares it h = refl

aside_spares : (a : Act) → IsAside a → Spares a
aside_spares (Get it) h = tt
aside_spares (Put (Dir n g) v) h = absurd h
aside_spares (Put it v) h = tt
aside_spares (Swap it v) h = object_spares it h
aside_spares (Change it old new) h = object_spares it h
aside_spares (Add it k) h = object_spares it h
aside_spares (Or it bits) h = object_spares it h

pub does_spares : (u : Who) {o : Own} {w : Work} {a : Act} {x : ℕ} {v : Work} → Does u o w a x v → leaver w ≡ true → Spares a
does_spares u (By_row within step) e = step_spares u step e
does_spares u (Won turn within win is) e = turn_spares turn 0 (u.p + 1)
does_spares u (Lost turn within win held) e = turn_spares turn 0 (u.p + 1)
does_spares u (Aside {a = a} may aside) e = aside_spares a aside

-- so a node that does not have a page alone does not have it behind such an operation
module _ (u : Who) (ws : List ℕ) (n g : ℕ) (n_in : n < u.lay.nodes) (g_in : g < u.lay.pages) where
  pub still_shared : length ws ≡ total u.lay → (a : Act) → IsSparing u a → Spares a → word u.lay ws (Dir n g) ≢ 2 → word u.lay (done u.lay ws a) (Dir n g) ≢ 2
  still_shared long (Get it) within spares h = subst (λ z. word u.lay z (Dir n g) ≢ 2) (sym (done_get u ws it)) h
  still_shared long (Put (Dir m k) v) within spares h = go (cases_eq n m) (cases_eq g k)
    where
      other : Dir n g ≢ Dir m k → word u.lay (done u.lay ws (Put (Dir m k) v)) (Dir n g) ≢ 2
      other ne e = h (sym (word_other u.lay ws (Put (Dir m k) v) (Dir n g) within.0 (n_in, g_in) ne) ∙ e)

      go : (n ≡ m) ⊎ (n ≡ m → ⊥) → (g ≡ k) ⊎ (g ≡ k → ⊥) → word u.lay (done u.lay ws (Put (Dir m k) v)) (Dir n g) ≢ 2
      go (inl e) (inl f) = λ z. spares (sym (word_same u.lay ws (Put (Dir m k) v) long within.0) ∙ (ap (λ i. word u.lay (done u.lay ws (Put (Dir m k) v)) i) (ap (λ i. Dir i k) (sym e) ∙ ap (Dir n) (sym f)) ∙ z))
      go (inl e) (inr ne) = other (λ z. ne (cc z))
      go (inr ne) f = other (λ z. ne (cc z))
  still_shared long (Put it v) within spares h = λ z. h (sym (word_other u.lay ws (Put it v) (Dir n g) within.0 (n_in, g_in) (λ e. cc e)) ∙ z)
  still_shared long a within spares h = λ z. h (sym (word_other u.lay ws a (Dir n g) within.0 (n_in, g_in) (λ e. let d : is_dir (item_of a) ≡ true = ap is_dir (sym e) in absurd (let f = sym d ∙ spares in cc f))) ∙ z)
