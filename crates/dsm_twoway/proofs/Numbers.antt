-- Which events of a copy, as a sender sees it, leave the numbers of sends, and what else leaves them.
use Rattle.std.proofs.Common.{◌≡◌, ℕ, ◌+◌, ◌*◌, ◌==◌, Bool, true, false, List, [], ◌∷◌, None, refl, sym, ◌∙◌, if◌then◌else◌}
use Rattle.std.specs.Prelude.{◌&&◌, ◌||◌, nat_lt}
use Rattle.dsm_words.specs.Pages.{group_of}
use Rattle.dsm_words.specs.Script.{Act}
use Rattle.dsm_protocol.specs.Own.{Who, node_of}
use Rattle.dsm_protocol.specs.Jobs.{Note}
use Rattle.dsm_protocol.specs.Stages.{Work}
use Rattle.dsm_protocol.specs.Rows.{Step, Slip, Noted, sees_dir, clears, registers, breaks, sees_again, claims, withdraws, draws_enter, stamps_enter, enters, judges, draws, stamps, sets, gives, draws_send, stamps_flush, reads_dir, posts, unlists, sees_acquire, judges_own, unmaps, leaves, draws_release, drains, draws_notice, notices, flags, gives_notices, takes, flagged, passed_over, passes, quits, acquired, begins_copy, begins_fill, fetched, filled, told}
use Rattle.dsm_copies.specs.Counts.{Count}
use Rattle.dsm_fresh.specs.Stages as F
use Rattle.dsm_fresh.specs.Pages.{Page, Processor, State, Event, Reset, Register, Claim, Share, Leave, Draw, First, Last, Stamp, Enter, Current, Current_sole, Map, Done, Send, Pass_by, Post_bit, Tell, Break, Pass, Drain_none, Drain_some, Time, Notify, Flag, Flagged, Other_time, Other_notice, Other_flag, Give, Take, Skip, Unmap, Keep, Keep_sole, Settle, Tick, page_after, processor_of, processor_after, happens, after}
use Rattle.dsm_freshness.specs.Events.{only, step_events, slip_events, note_events}
use Rattle.dsm_freshness.proofs.Words.{put_kept}
use Rattle.dsm_freshness.specs.Views.{is_set}
use Rattle.dsm_twoway.specs.Tied.{spot, Counted}

-- it begins or ends no fetch and no send, tells none, and is no pass
abbrev pub is_quiet : Event → Bool
is_quiet (First q a) = false
is_quiet (Last q) = false
is_quiet Send = false
is_quiet Tell = false
is_quiet Break = false
is_quiet (Pass q) = false
is_quiet e = true

abbrev pub AllQuiet : List Event → Type 0
AllQuiet [] = Unit {0}
AllQuiet (e ∷ es) = (is_quiet e ≡ true) × AllQuiet es

-- the numbers of two states are the same, and a fetch that is open in the second is so in the first
pub record Alike (f f' : State) : Type 0 where
  pub sent_is : f'.page.sent ≡ f.page.sent
  pub told_is : f'.page.told ≡ f.page.told
  pub broken_is : f'.page.broken ≡ f.page.broken
  pub got_is : f'.page.got ≡ f.page.got
  pub known_is : (q : ℕ) → (f'.processors q).known ≡ (f.processors q).known
  pub open_is : (q e t : ℕ) (enters : Bool) → f'.page.work ≡ F.Open q enters t e → f.page.work ≡ F.Open q enters t e

pub alike : (f : State) → Alike f f
alike f = record { sent_is = refl; told_is = refl; broken_is = refl; got_is = refl; known_is = λ q. refl; open_is = λ q e t a d. d }

alike_then : (f g k : State) → Alike f g → Alike g k → Alike f k
alike_then f g k a b = record { sent_is = b.sent_is ∙ a.sent_is; told_is = b.told_is ∙ a.told_is; broken_is = b.broken_is ∙ a.broken_is; got_is = b.got_is ∙ a.got_is; known_is = λ q. b.known_is q ∙ a.known_is q; open_is = λ q e t c d. a.open_is q e t c (b.open_is q e t c d) }

-- a stamp opens no fetch
stamp_open : (w : F.Work) (q e t : ℕ) (enters : Bool) → F.stamped w ≡ F.Open q enters t e → w ≡ F.Open q enters t e
stamp_open (F.Copied p true s k) q e t b d = absurd (cc d)
stamp_open (F.Copied p false s k) q e t b d = absurd (cc d)
stamp_open w q e t b d = d

module _ (first : ℕ) (g : Page) where
  sent_kept : (e : Event) → is_quiet e ≡ true → (page_after first g e).sent ≡ g.sent
  sent_kept Send i = absurd (cc i)
  sent_kept Break i = absurd (cc i)
  sent_kept e i = refl

  told_kept : (e : Event) → is_quiet e ≡ true → (page_after first g e).told ≡ g.told
  told_kept Tell i = absurd (cc i)
  told_kept Break i = absurd (cc i)
  told_kept e i = refl

  broken_kept : (e : Event) → is_quiet e ≡ true → (page_after first g e).broken ≡ g.broken
  broken_kept Break i = absurd (cc i)
  broken_kept e i = refl

  got_kept : (e : Event) → is_quiet e ≡ true → (page_after first g e).got ≡ g.got
  got_kept (Last q) i = absurd (cc i)
  got_kept e i = refl

  open_kept : (e : Event) → is_quiet e ≡ true → (q k t : ℕ) (enters : Bool) → (page_after first g e).work ≡ F.Open q enters t k → g.work ≡ F.Open q enters t k
  open_kept (First p a) i q k t b d = absurd (cc i)
  open_kept (Last p) i q k t b d = absurd (cc i)
  open_kept (Draw p) i q k t b d = absurd (cc d)
  open_kept (Stamp p) i q k t b d = stamp_open g.work q k t b d
  open_kept (Enter p) i q k t b d = absurd (cc d)
  open_kept (Current p) i q k t b d = absurd (cc d)
  open_kept (Current_sole p) i q k t b d = absurd (cc d)
  open_kept (Done p) i q k t b d = absurd (cc d)
  open_kept e i q k t b d = d

  known_kept : (told : ℕ) (x : Processor) (e : Event) → is_quiet e ≡ true → (processor_after first told x e).known ≡ x.known
  known_kept c x (Pass q) i = absurd (cc i)
  known_kept c x e i = refl

quiet_one : (first : ℕ) (f : State) (e : Event) → is_quiet e ≡ true → Alike f (happens first f e)
quiet_one first f e i =
    let p = processor_of first f.page.hand e in
    record {
      sent_is = sent_kept first f.page e i;
      told_is = told_kept first f.page e i;
      broken_is = broken_kept first f.page e i;
      got_is = got_kept first f.page e i;
      known_is = λ q. put_kept (λ (z : Processor). z.known) f.processors p (processor_after first f.page.told (f.processors p) e) (known_kept first f.page f.page.told (f.processors p) e i) q;
      open_is = λ q k t a d. open_kept first f.page e i q k t a d;
    }

-- quiet events leave the numbers
pub quiet_alike : (first : ℕ) (f : State) (es : List Event) → AllQuiet es → Alike f (after first f es)
quiet_alike first f [] i = alike f
quiet_alike first f (e ∷ es) i = alike_then f (happens first f e) (after first (happens first f e) es) (quiet_one first f e i.0) (quiet_alike first (happens first f e) es i.1)

-- the numbers of two counts are the same
pub record Equal (c c' : Count) : Type 0 where
  pub sent_is : (k : ℕ) → c'.sent k ≡ c.sent k
  pub told_is : (k : ℕ) → c'.told k ≡ c.told k
  pub broken_is : (k : ℕ) → c'.broken k ≡ c.broken k
  pub got_is : (n k : ℕ) → c'.got n k ≡ c.got n k
  pub snap_is : (n k : ℕ) → c'.snap n k ≡ c.snap n k
  pub known_is : (q k : ℕ) → c'.known q k ≡ c.known q k

pub equal : (c : Count) → Equal c c
equal c = record { sent_is = λ k. refl; told_is = λ k. refl; broken_is = λ k. refl; got_is = λ n k. refl; snap_is = λ n k. refl; known_is = λ q k. refl }

-- so they are those of each node's copy as before
pub counted_kept : (h : ℕ) (u : Who) (fresh fresh' : (m n : ℕ) → State) (c c' : Count) → Counted h u fresh c → ((m n : ℕ) → Alike (fresh m n) (fresh' m n)) → Equal c c' → Counted h u fresh' c'
counted_kept h u fresh fresh' c c' k a e =
    record {
      sent_is = λ m n l ne i. e.sent_is (spot h u m) ∙ k.sent_is m n l ne i ∙ sym (a m n).sent_is;
      told_is = λ m n l ne i. e.told_is (spot h u m) ∙ k.told_is m n l ne i ∙ sym (a m n).told_is;
      broken_is = λ m n l ne i. e.broken_is (spot h u m) ∙ k.broken_is m n l ne i ∙ sym (a m n).broken_is;
      got_is = λ m n l ne i. e.got_is n (spot h u m) ∙ k.got_is m n l ne i ∙ sym (a m n).got_is;
      known_is = λ m n q l ne i q_in at. e.known_is q (spot h u m) ∙ k.known_is m n q l ne i q_in at ∙ sym ((a m n).known_is q);
      snap_is = λ m n q z t b l ne i d. e.snap_is n (spot h u m) ∙ k.snap_is m n q z t b l ne i ((a m n).open_is q z t b d);
      silent = λ j none. let z = k.silent j none in (e.told_is j ∙ z.0, e.broken_is j ∙ z.1, λ q. e.known_is q j ∙ z.2 q);
    }

pub only_quiet : (d : Bool) (e : Event) → is_quiet e ≡ true → AllQuiet (only d e)
only_quiet true e i = (i, tt)
only_quiet false e i = tt

pick_quiet : (d : Bool) (e e' : Event) → is_quiet e ≡ true → is_quiet e' ≡ true → is_quiet (if d then e else e') ≡ true
pick_quiet true e e' i j = i
pick_quiet false e e' i j = j

unless_quiet : (d : Bool) (es : List Event) → AllQuiet es → AllQuiet (if d then [] else es)
unless_quiet true es i = tt
unless_quiet false es i = i

module _ (m n g : ℕ) (u : Who) where
  -- the rows that end a send
  abbrev pub is_sending : {ms : List ℕ} {ds : List Bool} {w : Work} {a : Act} {x : ℕ} {v : Work} → Step u ms ds w a x v → Bool
  is_sending breaks = true
  is_sending stamps_flush = true
  is_sending step = false

  -- all other rows are quiet, and so are all decisions
  pub step_quiet : {ms : List ℕ} {ds : List Bool} {w : Work} {a : Act} {x : ℕ} {v : Work} (step : Step u ms ds w a x v) → is_sending step ≡ false → AllQuiet (step_events m n g u step)
  step_quiet breaks i = absurd (cc i)
  step_quiet stamps_flush i = absurd (cc i)
  step_quiet (sees_dir {g = h} {x = x}) i = only_quiet _ (Current_sole u.p) refl
  step_quiet clears i = only_quiet _ Reset refl
  step_quiet registers i = only_quiet _ Register refl
  step_quiet sees_again i = only_quiet _ (Current_sole u.p) refl
  step_quiet claims i = only_quiet _ Claim refl
  step_quiet withdraws i = only_quiet _ Share refl
  step_quiet (draws_enter {g = h}) i = only_quiet _ (if h == g then Draw u.p else Tick) (pick_quiet (h == g) (Draw u.p) Tick refl refl)
  step_quiet stamps_enter i = only_quiet _ (Stamp u.p) refl
  step_quiet enters i = only_quiet _ (Enter u.p) refl
  step_quiet (judges {g = h} {y = y} {x = x}) i = unless_quiet (y == 0 || nat_lt y x) (only (h == g && node_of u == n) (Current u.p)) (only_quiet _ (Current u.p) refl)
  step_quiet (draws {g = h}) i = only_quiet _ (if h == g then Draw u.p else Tick) (pick_quiet (h == g) (Draw u.p) Tick refl refl)
  step_quiet stamps i = only_quiet _ (Stamp u.p) refl
  step_quiet sets i = only_quiet _ (Map u.p) refl
  step_quiet gives i = only_quiet _ (Done u.p) refl
  step_quiet draws_send i = only_quiet _ Tick refl
  step_quiet reads_dir i = only_quiet _ Pass_by refl
  step_quiet (posts v e) i = only_quiet _ Post_bit refl
  step_quiet unlists i = only_quiet _ Leave refl
  step_quiet sees_acquire i = only_quiet _ (Keep_sole u.p) refl
  step_quiet (judges_own {g = h} {y = y} {x = x}) i = unless_quiet (y == 0 || nat_lt y x) (only (h == g && node_of u == n) (Keep u.p)) (only_quiet _ (Keep u.p) refl)
  step_quiet unmaps i = only_quiet _ (Unmap u.p) refl
  step_quiet leaves i = only_quiet _ Leave refl
  step_quiet draws_release i = only_quiet _ Tick refl
  step_quiet (drains {x = x}) i = only_quiet _ (if is_set m n g x then Drain_some u.p else Drain_none u.p) (pick_quiet (is_set m n g x) (Drain_some u.p) (Drain_none u.p) refl refl)
  step_quiet (draws_notice {j = j} {k = k} {b = b} e j_in page) i = only_quiet _ (if 64 * k + b == g then (if j == m && k == group_of g then Time else Other_time) else Tick) (pick_quiet (64 * k + b == g) (if j == m && k == group_of g then Time else Other_time) Tick (pick_quiet (j == m && k == group_of g) Time Other_time refl refl) refl)
  step_quiet (notices {j = j} {k = k} {b = b}) i = only_quiet _ (if j == m && k == group_of g then Notify else Other_notice) (pick_quiet (j == m && k == group_of g) Notify Other_notice refl refl)
  step_quiet (flags {j = j} {q = q} e lo hi) i = only_quiet _ (if j == m then Flag else Other_flag q) (pick_quiet (j == m) Flag (Other_flag q) refl refl)
  step_quiet gives_notices i = only_quiet _ (Give u.p) refl
  step_quiet takes i = only_quiet _ (Take u.p) refl
  step_quiet step i = tt

  pub slip_quiet : {ms : List ℕ} {ds : List Bool} {w v : Work} (slip : Slip u ms ds w v) → AllQuiet (slip_events m n g u slip)
  slip_quiet flagged = only_quiet _ Flagged refl
  slip_quiet (passed_over e) = only_quiet _ (Skip u.p) refl
  slip_quiet slip = tt

  -- the notes of a pass, of the begin and the end of a fetch, and of a send that is told
  abbrev pub is_numbered : {w : Work} {e : Note} {v : Work} → Noted u None w e v → Bool
  is_numbered (passes none) = true
  is_numbered (quits none) = true
  is_numbered begins_copy = true
  is_numbered begins_fill = true
  is_numbered fetched = true
  is_numbered filled = true
  is_numbered (told e) = true
  is_numbered noted = false

  pub note_quiet : {w : Work} {e : Note} {v : Work} (noted : Noted u None w e v) → is_numbered noted ≡ false → AllQuiet (note_events m n g u noted)
  note_quiet (passes none) i = absurd (cc i)
  note_quiet (quits none) i = absurd (cc i)
  note_quiet begins_copy i = absurd (cc i)
  note_quiet begins_fill i = absurd (cc i)
  note_quiet fetched i = absurd (cc i)
  note_quiet filled i = absurd (cc i)
  note_quiet (told e) i = absurd (cc i)
  note_quiet acquired i = only_quiet _ (Settle u.p) refl
  note_quiet noted i = tt
