-- Which operations of the table store a frame's word, or give a page its home.
use Rattle.std.proofs.Common.{◌≡◌, ◌≢◌, ◌⊎◌, inl, inr, ℕ, suc, ◌+◌, ◌<◌, ◌==◌, Bool, true, false, List, length, length-set, Option, None, Some, refl, sym, ap, ◌∙◌, subst, if◌then◌else◌, arith}
use Rattle.std.specs.Prelude.{◌&&◌, not, slice_index, IfSome}
use Rattle.std.proofs.lemmas.Bool.{cases_eq, eqb-true, ne_eqb}
use Rattle.dsm_words.specs.declared.item.Item.{Item}
use Rattle.dsm_words.specs.declared.item.Item.TheVariants.{Frame, Home, Lock, Barrier, Flag, Close}
use Rattle.dsm_words.specs.Place.{total}
use Rattle.dsm_words.specs.Script.{Act, Get, Put, Swap, Change, Add, Or, item_of}
use Rattle.dsm_words.specs.Words.{word, done}
use Rattle.dsm_words.proofs.WordLaws.{word_same, word_other}
use Rattle.dsm_clock.specs.declared.turns.TurnId.{TurnId}
use Rattle.dsm_clock.specs.declared.turns.TurnId.TheVariants.{Page, Notices}
use Rattle.dsm_clock.specs.Turns.{turn_item}
use Rattle.dsm_protocol.specs.Own.{Own, Who, node_of}
use Rattle.dsm_protocol.specs.Jobs.{Note, Give, Go, Move, Append, Map_own, Soil, Clean, Join, Count, Happen, own_after}
use Rattle.dsm_protocol.specs.Stages.{Stage, Mapped, Wanting, Breaking, Saving, Ending, Testing, Withdrawing, Entering, Entered, Ready, Filling, Copying, Flushing, Done, Untwining, Emptied, Over, Whole, Work, Off, On, lowered}
use Rattle.dsm_protocol.specs.Rows.{Step, Slip, Noted, stores, saves_home, fills_own, copies_over, merges_own, flushes_home, shared, marked, claimed, unlowered, dropped, emptied, settles, maps as notes_map, begins_copy, begins_fill, counts}
use Rattle.dsm_protocol.specs.Standing.{IsObject, IsAside, Path, Stay, Decides, Notes, Does, Row as By_row, Won, Lost, Aside, starts_from}
use Rattle.dsm_runs.proofs.Mappings.{IsSparing, word_loaded}
use Rattle.dsm_owners.specs.Directory.{Node, Processor as Reader}
use Rattle.dsm_ties.specs.Views.{home_in, AtStage}
use Rattle.dsm_ties.specs.Tied.{Knows}

-- the stages at which words are copied, and those that lead to them: the home is found there
abbrev pub is_homed : Stage → Bool
is_homed (Mapped k s) = is_homed s
is_homed (Breaking c h j q) = true
is_homed (Saving c h j i part) = true
is_homed (Filling h t i part) = true
is_homed (Copying write h t twin i part) = true
is_homed (Flushing h t i part) = true
is_homed s = false

-- the page that is worked on, where it stands at such a stage
abbrev pub homed : Work → Option ℕ
homed (On r g s) = if is_homed s then Some g else None
homed w = None

-- neither a frame's word nor a home
abbrev pub IsQuiet : Item → Type 0
IsQuiet (Frame n g i) = ⊥
IsQuiet (Home g) = ⊥
IsQuiet it = Unit {0}

-- A store in a frame is at such a stage, or the processor's mapping allows it; and a home is exchanged from 0.
abbrev pub Fits : List ℕ → Work → Act → Type 0
Fits maps w (Get it) = Unit {0}
Fits maps w (Put (Frame n g i) v) = (homed w ≡ Some g) ⊎ (g < length maps → slice_index maps g ≡ 2)
Fits maps w (Change (Home g) old new) = old ≡ 0
Fits maps w a = IsQuiet (item_of a)

step_fits : (u : Who) {maps : List ℕ} {dirty : List Bool} {w : Work} {a : Act} {x : ℕ} {v : Work} → Step u maps dirty w a x v → Fits maps w a
step_fits u (stores h) = inr (λ l. eqb-true _ 2 (h l))
step_fits u saves_home = inl refl
step_fits u fills_own = inl refl
step_fits u copies_over = inl refl
step_fits u merges_own = inl refl
step_fits u flushes_home = inl refl
step_fits u settles = refl
step_fits u step = tt

turn_fits : (maps : List ℕ) (w : Work) (turn : TurnId) (old new : ℕ) → Fits maps w (Change (turn_item turn) old new)
turn_fits maps w (Page n g) old new = tt
turn_fits maps w (Notices n) old new = tt

object_quiet : (it : Item) → IsObject it → IsQuiet it
object_quiet (Lock l) h = tt
object_quiet (Barrier b) h = tt
object_quiet (Flag f) h = tt
object_quiet Close h = tt
object_quiet it h = absurd h

aside_fits : (maps : List ℕ) (w : Work) (a : Act) → IsAside a → Fits maps w a
aside_fits maps w (Get it) h = tt
aside_fits maps w (Put (Frame n g i) v) h = absurd h
aside_fits maps w (Put it v) h = object_quiet it h
aside_fits maps w (Swap it v) h = object_quiet it h
aside_fits maps w (Change (Home g) old new) h = absurd h
aside_fits maps w (Change it old new) h = object_quiet it h
aside_fits maps w (Add it k) h = object_quiet it h
aside_fits maps w (Or it bits) h = object_quiet it h

pub does_fits : (u : Who) {o : Own} {w : Work} {a : Act} {x : ℕ} {v : Work} → Does u o w a x v → Fits o.maps w a
does_fits u (By_row within step) = step_fits u step
does_fits u {o} {w} (Won turn within wins is) = turn_fits o.maps w turn 0 (u.p + 1)
does_fits u {o} {w} (Lost turn within wins is) = turn_fits o.maps w turn 0 (u.p + 1)
does_fits u {o} (Aside {r = r} {a = a} may aside) = aside_fits o.maps (Off r) a aside

-- Decisions and notes come to no such stage but from one of the same page.
either_none : (b : Bool) (s t : Stage) → is_homed s ≡ false → is_homed t ≡ false → is_homed (if b then s else t) ≡ false
either_none true s t h l = h
either_none false s t h l = l

lowered_none : (u : Who) (flushed : Bool) → is_homed (lowered u flushed) ≡ false
lowered_none u true = refl
lowered_none u false = refl

not_at : (g k : ℕ) (s : Stage) → is_homed s ≡ false → (if is_homed s then Some g else None) ≡ Some k → ⊥
not_at g k s h e = let z : (if false then Some g else None) ≡ Some k = ap (λ c. if c then Some g else None) (sym h) ∙ e in cc z

slip_homed : (u : Who) {maps : List ℕ} {dirty : List Bool} {w v : Work} (k : ℕ) → Slip u maps dirty w v → homed v ≡ Some k → homed w ≡ Some k
slip_homed u k (marked {g = g} {h = h} {j = j} {c = c}) e = go (j == h) e
  where
    go : (b : Bool) → (if is_homed (if b then Ending c j else Saving c h j 0 Whole) then Some g else None) ≡ Some k → Some g ≡ Some k
    go true e = absurd (cc e)
    go false e = e
slip_homed u k (shared {g = g} {h = h} {write = write} {row = row}) e =
    let ready : Stage = if write && not row.others then Testing h else Ready write h in
    absurd (not_at g k (if row.busy == 0 then ready else Wanting write h row.busy) (either_none (row.busy == 0) ready (Wanting write h row.busy) (either_none (write && not row.others) (Testing h) (Ready write h) refl refl) refl) e)
slip_homed u k (claimed {g = g} {h = h} {row = row}) e =
    let enters : Stage = if node_of u == h then Entered else Entering h in
    absurd (not_at g k (if row.others then Withdrawing h else enters) (either_none row.others (Withdrawing h) enters refl (either_none (node_of u == h) Entered (Entering h) refl refl)) e)
slip_homed u k (unlowered {g = g} {flushed = flushed} is) e = absurd (not_at g k (lowered u flushed) (lowered_none u flushed) e)
slip_homed u k (dropped {g = g} {unwritten = unwritten} {free = free}) e = absurd (not_at g k (if unwritten then Untwining free else Done) (either_none unwritten (Untwining free) Done refl refl) e)
slip_homed u k (emptied {g = g} {free = free}) e = absurd (not_at g k (if free then Emptied else Over) (either_none free Emptied Over refl refl) e)
slip_homed u k slip e = absurd (cc e)

note_homed : (u : Who) {w v : Work} {n : Note} (k : ℕ) → Noted u None w n v → homed v ≡ Some k → homed w ≡ Some k
note_homed u k notes_map e = e
note_homed u k begins_copy e = e
note_homed u k begins_fill e = e
note_homed u k (counts plain) e = e
note_homed u k noted e = absurd (cc e)

pub path_homed : (u : Who) {w v : Work} {o p : Own} (k : ℕ) → Path u w o v p → homed v ≡ Some k → homed w ≡ Some k
path_homed u k Stay e = e
path_homed u k (Decides slip path) e = slip_homed u k slip (path_homed u k path e)
path_homed u k (Notes n noted path) e = note_homed u k noted (path_homed u k path e)

pub starts_homed : (k : ℕ) (starved : Bool) (w : Work) → homed (starts_from starved w) ≡ Some k → homed w ≡ Some k
starts_homed k true w e = absurd (cc e)
starts_homed k false w e = e

-- and there the page has a home
stage_home : (home : ℕ) (s : Stage) → IfSome (home_in s) (λ h. home ≡ suc h) → is_homed s ≡ true → home ≢ 0
stage_home home (Mapped k s) f e = stage_home home s f e
stage_home home (Breaking c h j q) f e = λ z. absurd (omega (arith, f, z))
stage_home home (Saving c h j i part) f e = λ z. absurd (omega (arith, f, z))
stage_home home (Filling h t i part) f e = λ z. absurd (omega (arith, f, z))
stage_home home (Copying write h t twin i part) f e = λ z. absurd (omega (arith, f, z))
stage_home home (Flushing h t i part) f e = λ z. absurd (omega (arith, f, z))
stage_home home s f e = absurd (cc e)

work_home : (home g : ℕ) (w : Work) → AtStage (λ s. IfSome (home_in s) (λ h. home ≡ suc h)) g w → homed w ≡ Some g → home ≢ 0
work_home home g (On r h s) f e = go (is_homed s) refl e
  where
    go : (b : Bool) → is_homed s ≡ b → (if b then Some h else None) ≡ Some g → home ≢ 0
    go true is e = stage_home home s (f (cc e)) is
    go false is e = absurd (cc e)
work_home home g w f e = absurd (cc e)

pub knows_home : (u : Who) (g home : ℕ) (x : Node) (y : Reader) (w : Work) (o : Own) → Knows u g home x y w o → homed w ≡ Some g → home ≢ 0
knows_home u g home x y w o k e = work_home home g w k.homes e

-- So a home that is there stays, and where a store in a frame of the page is of neither kind, its frames stay.
module _ (u : Who) (ws : List ℕ) (maps : List ℕ) (w : Work) (g : ℕ) (g_in : g < u.lay.pages) where
  pub home_kept : length ws ≡ total u.lay → (a : Act) → IsSparing u a → Fits maps w a → word u.lay ws (Home g) ≢ 0 → word u.lay (done u.lay ws a) (Home g) ≡ word u.lay ws (Home g)
  home_kept long (Get it) spares fits some = word_loaded u.lay ws it (Home g)
  home_kept long (Put (Frame n h i) v) spares fits some = word_other u.lay ws (Put (Frame n h i) v) (Home g) spares.0 g_in (λ e. cc e)
  home_kept long (Change (Home h) old new) spares fits some = go (cases_eq h g)
    where
      go : (h ≡ g) ⊎ (h ≡ g → ⊥) → word u.lay (done u.lay ws (Change (Home h) old new)) (Home g) ≡ word u.lay ws (Home g)
      go (inr ne) = word_other u.lay ws (Change (Home h) old new) (Home g) spares.0 g_in (λ e. ne (cc e))
      go (inl e) =
          subst (λ k. word u.lay (done u.lay ws (Change (Home k) old new)) (Home g) ≡ word u.lay ws (Home g)) (sym e)
          (word_same u.lay ws (Change (Home g) old new) long g_in ∙ ap (λ b. if b then new else word u.lay ws (Home g)) (ne_eqb (word u.lay ws (Home g)) old (λ z. some (z ∙ fits))))
  home_kept long a spares fits some = word_other u.lay ws a (Home g) spares.0 g_in (λ e. subst IsQuiet (sym e) fits)

  pub frame_kept : (a : Act) → IsSparing u a → Fits maps w a → homed w ≢ Some g → g < length maps → slice_index maps g ≢ 2
      → (n i : ℕ) → n < u.lay.nodes → i < u.lay.words → word u.lay (done u.lay ws a) (Frame n g i) ≡ word u.lay ws (Frame n g i)
  frame_kept (Get it) spares fits apart short bare n i n_in i_in = word_loaded u.lay ws it (Frame n g i)
  frame_kept (Put (Frame m h j) v) spares fits apart short bare n i n_in i_in = word_other u.lay ws (Put (Frame m h j) v) (Frame n g i) spares.0 (n_in, g_in, i_in) (λ e. go fits (cc e))
    where
      go : (homed w ≡ Some h) ⊎ (h < length maps → slice_index maps h ≡ 2) → g ≡ h → ⊥
      go (inl at) e = apart (at ∙ ap Some (sym e))
      go (inr two) e = bare (ap (slice_index maps) e ∙ two (subst (λ k. k < length maps) e short))
  frame_kept (Change (Home h) old new) spares fits apart short bare n i n_in i_in = word_other u.lay ws (Change (Home h) old new) (Frame n g i) spares.0 (n_in, g_in, i_in) (λ e. cc e)
  frame_kept a spares fits apart short bare n i n_in i_in = word_other u.lay ws a (Frame n g i) spares.0 (n_in, g_in, i_in) (λ e. subst IsQuiet (sym e) fits)

-- The list of the mappings keeps its length.
note_places : (o : Own) (n : Note) → length (own_after o n).maps ≡ length o.maps
note_places o (Give d v) = refl
note_places o (Go to) = refl
note_places o Move = refl
note_places o (Append e) = refl
note_places o (Map_own g k) = length-set o.maps g k
note_places o (Soil g) = refl
note_places o (Clean g) = refl
note_places o (Join set) = refl
note_places o (Count t) = refl
note_places o (Happen d) = refl

pub path_places : (u : Who) {w v : Work} {o p : Own} → Path u w o v p → length p.maps ≡ length o.maps
path_places u Stay = refl
path_places u (Decides slip path) = path_places u path
path_places u (Notes {o = o} n noted path) = path_places u path ∙ note_places o n
