-- Where no turn is held.
use Rattle.std.proofs.Common.{◌≡◌, inl, inr, subst, ℕ, zero, suc, ◌+◌, ◌-◌, ◌<◌, ◌==◌, Bool, true, false, List, Option, None, refl, sym, ap, ◌∙◌, if◌then◌else◌, arith}
use Rattle.std.specs.Prelude.{Result, Ok, Err, OnErr, nat_le, slice_set, replicate, ◌%◌, ◌^◌}
use Rattle.dsm_clock.specs.declared.draw.Draw.{Draw}
use Rattle.dsm_clock.specs.declared.take.TakeTurn.{TakeTurn}
use Rattle.dsm_clock.specs.declared.turns.TurnId.{TurnId}
use Rattle.dsm_clock.specs.Taking.{take_script, take_rest}
use Rattle.dsm_clock.specs.Times.{draw_script, draw_rest}
use Rattle.dsm_directory.specs.declared.holder.Holder.{Holder}
use Rattle.dsm_directory.specs.Directory.{holder_from, holder_script}
use Rattle.dsm_directory.specs.Rests.{holder_rest}
use Rattle.dsm_sync.specs.declared.counter.Counter.{Counter}
use Rattle.dsm_sync.specs.declared.counter.Counter.TheVariants.{Barrier, Flag, Close}
use Rattle.dsm_sync.specs.declared.got.Got.{Got}
use Rattle.dsm_sync.specs.declared.got.Got.TheVariants.{Ready, Unready}
use Rattle.dsm_sync.specs.declared.lock.LockTry.{LockTry}
use Rattle.dsm_sync.specs.declared.look.Look.{Look}
use Rattle.dsm_sync.specs.Counting.{look_script, look_rest, count_of}
use Rattle.dsm_sync.specs.Locks.{lock_script, lock_rest}
use Rattle.dsm_words.specs.declared.item.Item.{Item}
use Rattle.dsm_words.specs.declared.item.Item.TheVariants.{Stop, Nle}
use Rattle.dsm_words.specs.Pages.{pages_in, take_from}
use Rattle.dsm_words.specs.Place.{Lay, groups}
use Rattle.dsm_words.specs.Script.{Get}
use Rattle.dsm_local.specs.declared.end.End.TheVariants.{Looked, Halted}
use Rattle.dsm_protocol.specs.declared.head.Head.{Head}
use Rattle.dsm_protocol.specs.declared.head.Head.TheVariants.{Looking as Waiting}
use Rattle.dsm_protocol.specs.Own.{Who, is_dirty, new_own}
use Rattle.dsm_protocol.specs.Jobs.{Job, Make, Mark, Join, Ended, call, held_turn}
use Rattle.dsm_protocol.specs.Steps.{is_last, stop_job, heed_job, unready_job, looked_job, tried_job, closing_from, closing_page, release_from, release_page}
use Rattle.dsm_machine.specs.declared.any_phase.AnyPhase.TheVariants.{Draw as DrawPhase, Take as TakePhase, Holder as HolderPhase, Lock as LockPhase, Look as LookPhase}
use Rattle.dsm_machine.specs.declared.outcome.Outcome.{Outcome}
use Rattle.dsm_machine.specs.declared.point.Next.{Next}
use Rattle.dsm_machine.specs.declared.point.Signal.{Signal}
use Rattle.dsm_machine.specs.declared.point.Signal.TheVariants.{Free, Meet, Raise}
use Rattle.dsm_machine.specs.declared.point.Release.{Release}
use Rattle.dsm_machine.specs.declared.release.ReleaseAt.TheVariants.{Drawn}
use Rattle.dsm_machine.specs.declared.closing.ClosingAt.TheVariants.{Held}
use Rattle.dsm_machine.specs.declared.point.Next.TheVariants.{Release as Releasing, Closing, Try, Look as Looking}
use Rattle.dsm_machine.specs.declared.machine.Machine.{Machine}
use Rattle.dsm_machine.specs.declared.point.Point.TheVariants.{At}
use Rattle.dsm_machine.specs.Machines.{told_of, HasRoom}
use Rattle.dsm_machine.specs.Phases.{phase_job}
use Rattle.dsm_machine.specs.Points.{next_job, tells_all}
use Rattle.dsm_machine.specs.Releases.{signal_job}

-- where there is room, nothing else is asked
pub with_room : {P : Type 0} (n : ℕ) → 0 < n → n ≡ 0 → P
with_room n some none = absurd (omega arith)

-- before a turn is taken
pub held_fault : (x : TakeTurn) (turn : TurnId) (p : ℕ) (f : Outcome → Job) → take_rest x ≡ take_script turn p → held_turn (phase_job (TakePhase x) f) ≡ None
held_fault x turn p f is = ap (λ s. held_turn (call s (λ _. f Outcome.Nothing))) is

pub held_acquire : (u : Who) (x : TakeTurn) (turn : TurnId) (p : ℕ) (next : Next) → take_rest x ≡ take_script turn p → held_turn (phase_job (TakePhase x) (next_job u next)) ≡ None
held_acquire u x turn p next is = held_fault x turn p (next_job u next) is

module _ (u : Who) where
  -- the pages of a set are taken
  held_taking : (l : Lay) (word : ℕ → Item) (f : List ℕ → Job) → ((set : List ℕ) → held_turn (f set) ≡ None) → (c k : ℕ) (set : List ℕ) → held_turn (call (take_from l word k c set) f) ≡ None
  held_taking l word f none zero k set = none set
  held_taking l word f none (suc c) k set = held_taking l word f none c (k + 1) (slice_set set k (0 % 2 ^ pages_in l k))

  -- between the pages of a release
  held_page : (t0 g : ℕ) (rest : Job) → held_turn rest ≡ None → (b : Bool) → held_turn (if b then release_page u t0 g rest else rest) ≡ None
  held_page t0 g rest none true = refl
  held_page t0 g rest none false = none

  held_pages : (t0 : ℕ) (rest : Job) → held_turn rest ≡ None → (k g : ℕ) → held_turn (release_from u t0 g k rest) ≡ None
  held_pages t0 rest none zero g = none
  held_pages t0 rest none (suc k) g = held_page t0 g (release_from u t0 (g + 1) k rest) (held_pages t0 rest none k (g + 1)) (is_dirty new_own g)

  held_signal : (s : Signal) → held_turn (signal_job u s) ≡ None
  held_signal (Free l k) = refl
  held_signal (Meet (Barrier b)) = refl
  held_signal (Meet (Flag f)) = refl
  held_signal (Meet Close) = refl
  held_signal (Raise f) = refl

  -- before a release
  pub held_release : (x : Draw) (n : ℕ) (r : Release) → draw_rest x ≡ draw_script n → held_turn (phase_job (DrawPhase x) (next_job u (Releasing r Drawn))) ≡ None
  held_release x n r is =
      ap (λ s. held_turn (call s (λ t. next_job u (Releasing r Drawn) (Outcome.Number t)))) is
      ∙ held_taking u.lay (λ k. Nle u.p k) (λ set. Mark (Join set) (release_from u 0 0 u.lay.pages (signal_job u r.signal))) (λ set. held_pages 0 (signal_job u r.signal) (held_signal r.signal) u.lay.pages 0) (groups u.lay) 0 (replicate 4 0)

  -- between the pages of the closing work
  held_holding : (g : ℕ) (f : Option ℕ → Job) → held_turn (f None) ≡ None → (c m : ℕ) → held_turn (call (holder_from g m c) f) ≡ None
  held_holding g f none zero m = none
  held_holding g f none (suc c) m = held_holding g f none c (m + 1)

  held_closing : (k g : ℕ) → held_turn (closing_from u g k (Ended Halted)) ≡ None
  held_closing zero g = refl
  held_closing (suc k) g = held_holding g (λ n. closing_page u g n (closing_from u (g + 1) k (Ended Halted))) (held_closing k (g + 1)) u.lay.nodes 0

  pub held_holder : (x : Holder) (g m : ℕ) → holder_rest x ≡ holder_script u.lay g → held_turn (phase_job (HolderPhase x) (next_job u (Closing g m Held))) ≡ None
  held_holder x g m is =
      ap (λ s. held_turn (call s (λ n. next_job u (Closing g m Held) (Outcome.Holder n)))) is ∙ held_holding g (λ n. closing_page u g n (closing_from u (g + 1) (u.lay.pages - (g + 1)) (Ended Halted))) (held_closing (u.lay.pages - (g + 1)) (g + 1)) u.lay.nodes 0

  held_close : (b : Bool) → held_turn (if b then closing_from u 0 u.lay.pages (Ended Halted) else Ended Halted) ≡ None
  held_close true = held_closing u.lay.pages 0
  held_close false = refl

  -- before a try and before a look
  held_unready : (again : Head) → held_turn (unready_job u again) ≡ None
  held_unready again = go (is_last u.limits.looks new_own.counts.unready)
    where
      go : (b : Bool) → held_turn (if b then stop_job u Looked else Make (Get Stop) (heed_job again)) ≡ None
      go true = refl
      go false = refl

  held_looked : (of : Counter) (need : ℕ) (got : Got) → held_turn (looked_job u of need got) ≡ None
  held_looked (Barrier b) need (Ready c) = refl
  held_looked (Flag f) need (Ready c) = refl
  held_looked Close need (Ready c) = held_close (u.p == 0)
  held_looked of need Unready = held_unready (Waiting of need)

  pub held_lock : (x : LockTry) (l : ℕ) → lock_rest x ≡ lock_script l → held_turn (phase_job (LockPhase x) (next_job u (Try l))) ≡ None
  held_lock x l is = ap (λ s. held_turn (call s (λ got. tried_job u l got))) is

  pub held_look : (x : Look) (of : Counter) (need : ℕ) → look_rest x ≡ look_script of need → held_turn (phase_job (LookPhase x) (next_job u (Looking of need))) ≡ None
  held_look x of need is = ap (λ s. held_turn (call s (λ got. looked_job u of need got))) is ∙ held_looked of need (if nat_le need 0 then Ready (count_of of need 0) else Unready)

-- what follows from want of room holds where memory was refused for that
pub on_err : {T E : Type 0} {P Q : Type 0} (result : Result T E) → (P → Q) → OnErr result P → OnErr result Q
on_err (Ok x) f h = tt
on_err (Err e) f h = f h

-- where a head's job begins there is room, if there was
pub room_kept : (m n : Machine) (h : Head) → m.point ≡ At h → told_of n ≡ told_of m → HasRoom m → HasRoom n
room_kept m n h at same (inl some) = inl (subst (λ t. 0 < t.spare) (sym same) some)
room_kept m n h at same (inr tells) = absurd (cc (sym tells ∙ ap tells_all at))
