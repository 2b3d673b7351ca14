-- What a processor's place in the table is to what one node owes for a word.
use Rattle.std.specs.Prelude.{◌≡◌, ℕ, ◌<◌, ◌≤◌, ◌==◌, ◌&&◌, ◌||◌, nat_lt, nat_le, Bool, true, false, if◌then◌else◌, ◌⊎◌, Option, None, Some}
use Rattle.dsm_words.specs.Pages.{group_of, has_page}
use Rattle.dsm_protocol.specs.Own.{Own, is_dirty}
use Rattle.dsm_protocol.specs.Stages.{Part, Got, Differs, Half, For_closing, Stage, Mapped, Seeking, Missing, Breaking, Marking, Saving, Ending, Claimed, Withdrawing, Filled, Entered, Soiling, Timed, Flushing, Stamping, Stamped, Posting, Posted, Telling, Lowering, Dropping, Untwining, Unlisting, Done, Signalling, Collecting, Releasing, Cleaning, Work, Off, On}
use Rattle.dsm_debts.specs.Page as D
use Rattle.dsm_debts.specs.Page.{State}

-- where word i stands in a copying of the page that is at word k, by the part of that word
abbrev pub part_view : ℕ → ℕ → D.Part → D.Part
part_view i k part = if nat_lt k i then D.Before else (if k == i then part else D.After)

-- a part of a word in a flush, and in a break
abbrev pub flush_part : Part → D.Part
flush_part (Got v) = D.Loaded
flush_part (Differs v) = D.Differs
flush_part (Half v) = D.Sending
flush_part part = D.Before

abbrev pub break_part : Part → D.Part
break_part (Got v) = D.Loaded
break_part (Half v) = D.Sending
break_part part = D.Before

-- in its release, or not
abbrev pub release_view : ℕ → Work → D.Stage
release_view g (Off (Collecting t0 k set)) = if nat_le k (group_of g) then D.Drawn t0 else D.Releasing t0
release_view g (Off (Releasing t0 k)) = D.Releasing t0
release_view g (Off (Cleaning t0 k)) = D.Releasing t0
release_view g (Off (Signalling t0)) = D.Releasing t0
release_view g (On (Releasing t0 k) h s) = D.Releasing t0
release_view g w = D.Running

-- it is still to be noted as dirty
abbrev pub soils : Stage → Bool
soils (Mapped k s) = soils s
soils Soiling = true
soils s = false

-- the page is in its dirty set, or in its hand on the way there
abbrev pub dirty_view : ℕ → Work → Own → Bool
dirty_view g (Off (Collecting t0 k set)) o = if nat_le k (group_of g) then is_dirty o g else is_dirty o g || has_page set g
dirty_view g (Off (Cleaning t0 h)) o = if h == g then false else is_dirty o g
dirty_view g (On r h s) o = (h == g && soils s) || is_dirty o g
dirty_view g w o = is_dirty o g

-- the page to which its walk over the dirty set has come
abbrev pub walk_in : ℕ → Work → Option ℕ
walk_in pages (Off (Releasing t0 k)) = Some k
walk_in pages (Off (Cleaning t0 k)) = Some k
walk_in pages (Off (Signalling t0)) = Some pages
walk_in pages (On (Releasing t0 k) h s) = Some k
walk_in pages w = None

-- the page that it releases
abbrev pub released_in : Work → Option ℕ
released_in (On (Releasing t0 k) h s) = Some h
released_in w = None

-- For word i of the page at a node whose processors are those from `first` on and below `top`, and which is the home or not: what is
-- so of the work on the copy where processor p holds its turn at this stage.
module _ (home : Bool) (first top i : ℕ) where
  -- a flush was timed behind the begin of its release
  abbrev pub IsEarly : ℕ → State → Type 0
  IsEarly p f = (f.page.work ≡ D.Idle) × (D.opened (f.processors p).stage < f.page.flush)

  -- it has posted, and no mapping to write is left; or it leaves the page as it is
  abbrev pub HasPosted : ℕ → State → Type 0
  HasPosted p f = (b : Bool) × (j : ℕ) × (f.page.work ≡ D.Posted p b j)

  abbrev pub Leaves : ℕ → State → Type 0
  Leaves p f = ((f.page.work ≡ D.Idle) × (f.page.sole ≡ true)) ⊎ IsEarly p f × ((f.processors p).writes ≡ false)

  abbrev pub WorksAt : ℕ → Stage → State → Type 0
  WorksAt p (Mapped k s) f = WorksAt p s f
  WorksAt p (Seeking (For_closing j)) f = f.page.work ≡ D.Marking first
  WorksAt p (Missing (For_closing j)) f = f.page.work ≡ D.Marking first
  WorksAt p (Breaking c h j q) f = f.page.work ≡ D.Marking q
  WorksAt p (Marking c h j q) f = f.page.work ≡ D.Marking q
  WorksAt p (Saving c h j k part) f = f.page.work ≡ D.Copying (part_view i k (break_part part))
  WorksAt p (Ending c j) f = f.page.work ≡ (if home then D.Marking top else D.Copied)
  WorksAt p (Claimed h j row) f = (f.page.work ≡ D.Idle) × (f.page.sole ≡ false)
  WorksAt p (Withdrawing h) f = (f.page.work ≡ D.Idle) × (f.page.sole ≡ false)
  WorksAt p (Filled t) f = (f.page.work ≡ D.Idle) × (f.page.sole ≡ true)
  WorksAt p Entered f = (f.page.work ≡ D.Idle) × (home ≡ false → f.page.sole ≡ true)
  WorksAt p (Timed h t) f = f.page.work ≡ D.Ready p t
  WorksAt p (Flushing h t k part) f = f.page.work ≡ D.Flushing p t (part_view i k (flush_part part))
  WorksAt p (Stamping h t true) f = f.page.work ≡ D.Flushing p t D.After
  WorksAt p (Stamping h t false) f = (f.page.work ≡ D.Ready p t) × ((home ≡ true) ⊎ (f.page.twin ≡ false))
  WorksAt p (Stamped h b) f = f.page.work ≡ D.Posting p b
  WorksAt p (Posting h b j) f = f.page.work ≡ D.Posting p b
  WorksAt p (Telling h b j) f = f.page.work ≡ D.Posting p b
  WorksAt p (Posted h b) f = f.page.work ≡ D.Posting p b
  WorksAt p (Lowering b) f = (f.page.work ≡ D.Posted p b first) ⊎ (b ≡ false) × IsEarly p f
  WorksAt p (Dropping q unwritten free) f = (j : ℕ) × (f.page.work ≡ D.Posted p true j) × (unwritten ≡ true → j ≡ q) × ((f.processors p).writes ≡ false)
  WorksAt p (Untwining free) f = (j : ℕ) × (f.page.work ≡ D.Posted p true j) × (top ≤ j) × ((f.processors p).writes ≡ false)
  WorksAt p Unlisting f = HasPosted p f × ((f.processors p).writes ≡ false)
  WorksAt p Done f = HasPosted p f × ((f.processors p).writes ≡ false) ⊎ Leaves p f
  WorksAt p s f = f.page.work ≡ D.Idle
