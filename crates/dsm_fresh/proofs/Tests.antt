-- Tests that compute: where they answer true, an event meets its premise.
use Rattle.std.proofs.Common.{◌≡◌, ◌≢◌, ◌⊎◌, ℕ, zero, suc, ◌≤◌, ◌<◌, Bool, true, false, ◌==◌, List, [], ◌∷◌, refl, ap, inl, inr, arith}
use Rattle.std.specs.Prelude.{◌||◌, ◌&&◌, not, nat_le, nat_lt}
use Rattle.std.proofs.lemmas.Bool.{cases_eq, eqb-true}
use Rattle.dsm_fresh.specs.Stages.{Work, Idle, Ready, Open, Copied, Entered, Fetched, Hand, Empty, Found, Timed, Flags, Other, Stage, Rest, Before, Drained, Given, Taken, is_open, is_entering, is_worker}
use Rattle.dsm_fresh.specs.Pages.{State, Event, Reset, Register, Claim, Share, Leave, Draw, First, Last, Stamp, Enter, Current, Current_sole, Map, Done, Send, Pass_by, Post_bit, Tell, Break, Pass, Drain_none, Drain_some, Time, Notify, Flag, Flagged, Other_time, Other_notice, Other_flag, Give, Take, Skip, Unmap, Keep, Keep_sole, Settle, Tick, happens}
use Rattle.dsm_fresh.specs.Premises.{IsOf, MayFault, May, Runs}

and_left : (a b : Bool) → (a && b) ≡ true → a ≡ true
and_left true b e = refl
and_left false b e = absurd (cc e)

and_right : (a b : Bool) → (a && b) ≡ true → b ≡ true
and_right true b e = e
and_right false b e = absurd (cc e)

is_false : (b : Bool) → not b ≡ true → b ≡ false
is_false true e = absurd (cc e)
is_false false e = refl

not_zero : (n : ℕ) → not (n == 0) ≡ true → n ≢ 0
not_zero n e = grind arith

at_most : (a b : ℕ) → nat_le a b ≡ true → a ≤ b
at_most a b e = grind arith

not_two : (n : ℕ) → not (n == 2) ≡ true → n ≢ 2
not_two n e = grind arith

either_zero : (a b : ℕ) → ((a == 0) || (b == 0)) ≡ true → (a ≡ 0) ⊎ (b ≡ 0)
either_zero a b e = grind arith

-- where a fault, the holder of the notices and a processor stand
abbrev idle_test : Work → Bool
idle_test Idle = true
idle_test _ = false

idle_passes : (x : Work) → idle_test x ≡ true → x ≡ Idle
idle_passes Idle h = refl
idle_passes x h = absurd (cc h)

abbrev ready_test : ℕ → Work → Bool
ready_test q (Ready p t) = p == q
ready_test q _ = false

ready_passes : (q : ℕ) (x : Work) → ready_test q x ≡ true → (t : ℕ) × (x ≡ Ready q t)
ready_passes q (Ready p t) h = (t, ap (λ z. Ready z t) (eqb-true p q h))
ready_passes q x h = absurd (cc h)

abbrev open_test : ℕ → Work → Bool
open_test q (Open p a t e) = p == q
open_test q _ = false

open_passes : (q : ℕ) (x : Work) → open_test q x ≡ true → (a : Bool) × (t : ℕ) × (e : ℕ) × (x ≡ Open q a t e)
open_passes q (Open p a t e) h = (a, t, e, ap (λ z. Open z a t e) (eqb-true p q h))
open_passes q x h = absurd (cc h)

abbrev copied_test : ℕ → Work → Bool
copied_test q (Copied p a t e) = p == q
copied_test q _ = false

copied_passes : (q : ℕ) (x : Work) → copied_test q x ≡ true → (a : Bool) × (t : ℕ) × (e : ℕ) × (x ≡ Copied q a t e)
copied_passes q (Copied p a t e) h = (a, t, e, ap (λ z. Copied z a t e) (eqb-true p q h))
copied_passes q x h = absurd (cc h)

abbrev entered_test : ℕ → Work → Bool
entered_test q (Entered p) = p == q
entered_test q _ = false

entered_passes : (q : ℕ) (x : Work) → entered_test q x ≡ true → x ≡ Entered q
entered_passes q (Entered p) h = ap Entered (eqb-true p q h)
entered_passes q x h = absurd (cc h)

abbrev fetched_test : ℕ → Work → Bool
fetched_test q (Fetched p) = p == q
fetched_test q _ = false

fetched_passes : (q : ℕ) (x : Work) → fetched_test q x ≡ true → x ≡ Fetched q
fetched_passes q (Fetched p) h = ap Fetched (eqb-true p q h)
fetched_passes q x h = absurd (cc h)

abbrev empty_test : Hand → Bool
empty_test Empty = true
empty_test _ = false

empty_passes : (x : Hand) → empty_test x ≡ true → x ≡ Empty
empty_passes Empty h = refl
empty_passes x h = absurd (cc h)

abbrev found_test : Hand → Bool
found_test (Found c) = true
found_test _ = false

found_passes : (x : Hand) → found_test x ≡ true → (c : ℕ) × (x ≡ Found c)
found_passes (Found c) h = (c, refl)
found_passes x h = absurd (cc h)

abbrev timed_test : Hand → Bool
timed_test (Timed c t) = true
timed_test _ = false

timed_passes : (x : Hand) → timed_test x ≡ true → (c : ℕ) × (t : ℕ) × (x ≡ Timed c t)
timed_passes (Timed c t) h = (c, t, refl)
timed_passes x h = absurd (cc h)

abbrev flags_test : Hand → Bool
flags_test (Flags j) = true
flags_test _ = false

flags_passes : (x : Hand) → flags_test x ≡ true → (j : ℕ) × (x ≡ Flags j)
flags_passes (Flags j) h = (j, refl)
flags_passes x h = absurd (cc h)

abbrev through_test : ℕ → Hand → Bool
through_test q (Flags j) = nat_le q j
through_test q _ = false

through_passes : (q : ℕ) (x : Hand) → through_test q x ≡ true → (j : ℕ) × (x ≡ Flags j) × (q ≤ j)
through_passes q (Flags j) h = (j, refl, at_most q j h)
through_passes q x h = absurd (cc h)

abbrev other_test : Hand → Bool
other_test (Other t) = true
other_test _ = false

other_passes : (x : Hand) → other_test x ≡ true → (t : ℕ) × (x ≡ Other t)
other_passes (Other t) h = (t, refl)
other_passes x h = absurd (cc h)

abbrev rest_test : Stage → Bool
rest_test Rest = true
rest_test _ = false

rest_passes : (x : Stage) → rest_test x ≡ true → x ≡ Rest
rest_passes Rest h = refl
rest_passes x h = absurd (cc h)

abbrev before_test : Stage → Bool
before_test Before = true
before_test _ = false

before_passes : (x : Stage) → before_test x ≡ true → x ≡ Before
before_passes Before h = refl
before_passes x h = absurd (cc h)

abbrev drained_test : Stage → Bool
drained_test Drained = true
drained_test _ = false

drained_passes : (x : Stage) → drained_test x ≡ true → x ≡ Drained
drained_passes Drained h = refl
drained_passes x h = absurd (cc h)

abbrev given_test : Stage → Bool
given_test Given = true
given_test _ = false

given_passes : (x : Stage) → given_test x ≡ true → x ≡ Given
given_passes Given h = refl
given_passes x h = absurd (cc h)

abbrev taken_test : Stage → Bool
taken_test (Taken b) = true
taken_test _ = false

taken_passes : (x : Stage) → taken_test x ≡ true → (b : Bool) × (x ≡ Taken b)
taken_passes (Taken b) h = (b, refl)
taken_passes x h = absurd (cc h)

abbrev settled_test : Stage → Bool
settled_test (Taken b) = not b
settled_test _ = false

settled_passes : (x : Stage) → settled_test x ≡ true → x ≡ Taken false
settled_passes (Taken b) h = ap Taken (is_false b h)
settled_passes x h = absurd (cc h)

-- all numbers below a bound pass
abbrev all_below : ℕ → (ℕ → Bool) → Bool
all_below zero f = true
all_below (suc n) f = f n && all_below n f

below_passes : (n : ℕ) (f : ℕ → Bool) → all_below n f ≡ true → (k : ℕ) → k < n → f k ≡ true
below_passes zero f e k lt = absurd (omega (arith, lt))
below_passes (suc n) f e k lt = go (cases_eq k n) (λ l. below_passes n f (and_right (f n) (all_below n f) e) k l)
  where
    go : (k ≡ n) ⊎ (k ≢ n) → (k < n → f k ≡ true) → f k ≡ true
    go (inl is) ih = rw is (and_left (f n) (all_below n f) e)
    go (inr ne) ih = ih (omega (arith, lt, ne))

module _ (first top : ℕ) where
  abbrev of_test : ℕ → Bool
  of_test q = nat_le first q && nat_lt q top

  of_passes : (q : ℕ) → of_test q ≡ true → IsOf first top q
  of_passes q e = grind arith

  abbrev fault_test : State → ℕ → Bool
  fault_test s q = of_test q && (rest_test (s.processors q).stage && idle_test s.page.work)

  fault_passes : (s : State) (q : ℕ) → fault_test s q ≡ true → MayFault first top s q
  fault_passes s q e =
      let r = and_right (of_test q) (rest_test (s.processors q).stage && idle_test s.page.work) e in (
        of_passes q (and_left (of_test q) (rest_test (s.processors q).stage && idle_test s.page.work) e),
        rest_passes (s.processors q).stage (and_left (rest_test (s.processors q).stage) (idle_test s.page.work) r),
        idle_passes s.page.work (and_right (rest_test (s.processors q).stage) (idle_test s.page.work) r),
      )

  -- no processor of the node maps the page
  abbrev pub none_test : State → Bool
  none_test s = all_below top (λ q. not (nat_le first q) || not (s.processors q).mapped)

  none_one : (a b : Bool) → (not a || not b) ≡ true → a ≡ true → b ≡ false
  none_one true true e h = absurd (cc e)
  none_one true false e h = refl
  none_one false b e h = absurd (cc h)

  le_true : (a b : ℕ) → a ≤ b → nat_le a b ≡ true
  le_true a b h = grind arith

  pub none_passes : (s : State) → none_test s ≡ true → (q : ℕ) → IsOf first top q → (s.processors q).mapped ≡ false
  none_passes s e q i = none_one (nat_le first q) (s.processors q).mapped (below_passes top (λ q. not (nat_le first q) || not (s.processors q).mapped) e q i.1) (le_true first q i.0)

  -- what is asked of an event
  abbrev may_test : State → Event → Bool
  may_test s Reset = s.page.dir == 0
  may_test s Register = s.page.update == 0
  may_test s Claim = not (s.page.dir == 0)
  may_test s Share = not (s.page.dir == 0)
  may_test s Leave = (idle_test s.page.work) && ((none_test s))
  may_test s (Draw q) = (fault_test s q) && ((not (s.page.dir == 0)))
  may_test s (First q a) = ready_test q s.page.work
  may_test s (Last q) = open_test q s.page.work
  may_test s (Stamp q) = copied_test q s.page.work
  may_test s (Enter q) = entered_test q s.page.work
  may_test s (Current q) = (fault_test s q) && ((not (s.page.dir == 0)) && ((not (s.page.update == 0)) && ((nat_le s.page.notice s.page.update))))
  may_test s (Current_sole q) = (fault_test s q) && ((s.page.dir == 2))
  may_test s (Map q) = fetched_test q s.page.work
  may_test s (Done q) = fetched_test q s.page.work
  may_test s Send = (not (s.page.dir == 2)) && ((not (is_entering s.page.work)))
  may_test s Pass_by = s.page.dir == 0
  may_test s Post_bit = true
  may_test s Tell = s.page.served
  may_test s Break = (not (is_open s.page.work)) && (((s.page.dir == 0) || (s.page.update == 0)))
  may_test s (Pass q) = (rest_test (s.processors q).stage) && ((not (is_worker q s.page.work)))
  may_test s (Drain_none q) = (before_test (s.processors q).stage) && ((not s.page.bit) && ((empty_test s.page.hand)))
  may_test s (Drain_some q) = (before_test (s.processors q).stage) && (s.page.bit && ((empty_test s.page.hand)))
  may_test s Time = found_test s.page.hand
  may_test s Notify = timed_test s.page.hand
  may_test s Flag = flags_test s.page.hand
  may_test s Flagged = through_test top s.page.hand
  may_test s Other_time = empty_test s.page.hand
  may_test s Other_notice = other_test s.page.hand
  may_test s (Other_flag q) = true
  may_test s (Give q) = (drained_test (s.processors q).stage) && ((empty_test s.page.hand))
  may_test s (Take q) = given_test (s.processors q).stage
  may_test s (Skip q) = (taken_test (s.processors q).stage) && ((not (s.processors q).mapped))
  may_test s (Unmap q) = taken_test (s.processors q).stage
  may_test s (Keep q) = (taken_test (s.processors q).stage) && ((idle_test s.page.work) && ((nat_le s.page.notice s.page.update)))
  may_test s (Keep_sole q) = (taken_test (s.processors q).stage) && ((s.page.dir == 2))
  may_test s (Settle q) = settled_test (s.processors q).stage
  may_test s Tick = true

  may_passes : (s : State) (e : Event) → may_test s e ≡ true → May first top s e
  may_passes s Reset h = eqb-true s.page.dir 0 h
  may_passes s Register h = eqb-true s.page.update 0 h
  may_passes s Claim h = not_zero s.page.dir h
  may_passes s Share h = not_zero s.page.dir h
  may_passes s Leave h = let r0 = and_right (idle_test s.page.work) ((none_test s)) h in (idle_passes s.page.work (and_left (idle_test s.page.work) ((none_test s)) h), none_passes s r0)
  may_passes s (Draw q) h = let r0 = and_right (fault_test s q) ((not (s.page.dir == 0))) h in (fault_passes s q (and_left (fault_test s q) ((not (s.page.dir == 0))) h), not_zero s.page.dir r0)
  may_passes s (First q a) h = ready_passes q s.page.work h
  may_passes s (Last q) h = open_passes q s.page.work h
  may_passes s (Stamp q) h = copied_passes q s.page.work h
  may_passes s (Enter q) h = entered_passes q s.page.work h
  may_passes s (Current q) h = let r0 = and_right (fault_test s q) ((not (s.page.dir == 0)) && ((not (s.page.update == 0)) && ((nat_le s.page.notice s.page.update)))) h in let r1 = and_right (not (s.page.dir == 0)) ((not (s.page.update == 0)) && ((nat_le s.page.notice s.page.update))) r0 in let r2 = and_right (not (s.page.update == 0)) ((nat_le s.page.notice s.page.update)) r1 in (fault_passes s q (and_left (fault_test s q) ((not (s.page.dir == 0)) && ((not (s.page.update == 0)) && ((nat_le s.page.notice s.page.update)))) h), not_zero s.page.dir (and_left (not (s.page.dir == 0)) ((not (s.page.update == 0)) && ((nat_le s.page.notice s.page.update))) r0), not_zero s.page.update (and_left (not (s.page.update == 0)) ((nat_le s.page.notice s.page.update)) r1), at_most s.page.notice s.page.update r2)
  may_passes s (Current_sole q) h = let r0 = and_right (fault_test s q) ((s.page.dir == 2)) h in (fault_passes s q (and_left (fault_test s q) ((s.page.dir == 2)) h), eqb-true s.page.dir 2 r0)
  may_passes s (Map q) h = fetched_passes q s.page.work h
  may_passes s (Done q) h = fetched_passes q s.page.work h
  may_passes s Send h = let r0 = and_right (not (s.page.dir == 2)) ((not (is_entering s.page.work))) h in (not_two s.page.dir (and_left (not (s.page.dir == 2)) ((not (is_entering s.page.work))) h), is_false (is_entering s.page.work) r0)
  may_passes s Pass_by h = eqb-true s.page.dir 0 h
  may_passes s Post_bit h = tt
  may_passes s Tell h = h
  may_passes s Break h = let r0 = and_right (not (is_open s.page.work)) (((s.page.dir == 0) || (s.page.update == 0))) h in (is_false (is_open s.page.work) (and_left (not (is_open s.page.work)) (((s.page.dir == 0) || (s.page.update == 0))) h), either_zero s.page.dir s.page.update r0)
  may_passes s (Pass q) h = let r0 = and_right (rest_test (s.processors q).stage) ((not (is_worker q s.page.work))) h in (rest_passes (s.processors q).stage (and_left (rest_test (s.processors q).stage) ((not (is_worker q s.page.work))) h), is_false (is_worker q s.page.work) r0)
  may_passes s (Drain_none q) h = let r0 = and_right (before_test (s.processors q).stage) ((not s.page.bit) && ((empty_test s.page.hand))) h in let r1 = and_right (not s.page.bit) ((empty_test s.page.hand)) r0 in (before_passes (s.processors q).stage (and_left (before_test (s.processors q).stage) ((not s.page.bit) && ((empty_test s.page.hand))) h), is_false s.page.bit (and_left (not s.page.bit) ((empty_test s.page.hand)) r0), empty_passes s.page.hand r1)
  may_passes s (Drain_some q) h = let r0 = and_right (before_test (s.processors q).stage) (s.page.bit && ((empty_test s.page.hand))) h in let r1 = and_right s.page.bit ((empty_test s.page.hand)) r0 in (before_passes (s.processors q).stage (and_left (before_test (s.processors q).stage) (s.page.bit && ((empty_test s.page.hand))) h), and_left s.page.bit ((empty_test s.page.hand)) r0, empty_passes s.page.hand r1)
  may_passes s Time h = found_passes s.page.hand h
  may_passes s Notify h = timed_passes s.page.hand h
  may_passes s Flag h = flags_passes s.page.hand h
  may_passes s Flagged h = through_passes top s.page.hand h
  may_passes s Other_time h = empty_passes s.page.hand h
  may_passes s Other_notice h = other_passes s.page.hand h
  may_passes s (Other_flag q) h = tt
  may_passes s (Give q) h = let r0 = and_right (drained_test (s.processors q).stage) ((empty_test s.page.hand)) h in (drained_passes (s.processors q).stage (and_left (drained_test (s.processors q).stage) ((empty_test s.page.hand)) h), empty_passes s.page.hand r0)
  may_passes s (Take q) h = given_passes (s.processors q).stage h
  may_passes s (Skip q) h = let r0 = and_right (taken_test (s.processors q).stage) ((not (s.processors q).mapped)) h in let z = taken_passes (s.processors q).stage (and_left (taken_test (s.processors q).stage) ((not (s.processors q).mapped)) h) in (z.0, z.1, is_false (s.processors q).mapped r0)
  may_passes s (Unmap q) h = taken_passes (s.processors q).stage h
  may_passes s (Keep q) h = let r0 = and_right (taken_test (s.processors q).stage) ((idle_test s.page.work) && ((nat_le s.page.notice s.page.update))) h in let r1 = and_right (idle_test s.page.work) ((nat_le s.page.notice s.page.update)) r0 in let z = taken_passes (s.processors q).stage (and_left (taken_test (s.processors q).stage) ((idle_test s.page.work) && ((nat_le s.page.notice s.page.update))) h) in (z.0, z.1, idle_passes s.page.work (and_left (idle_test s.page.work) ((nat_le s.page.notice s.page.update)) r0), at_most s.page.notice s.page.update r1)
  may_passes s (Keep_sole q) h = let r0 = and_right (taken_test (s.processors q).stage) ((s.page.dir == 2)) h in let z = taken_passes (s.processors q).stage (and_left (taken_test (s.processors q).stage) ((s.page.dir == 2)) h) in (z.0, z.1, eqb-true s.page.dir 2 r0)
  may_passes s (Settle q) h = settled_passes (s.processors q).stage h
  may_passes s Tick h = tt

  abbrev pub runs_test : State → List Event → Bool
  runs_test s [] = true
  runs_test s (e ∷ es) = may_test s e && runs_test (happens first s e) es

  -- a list that passes the test runs
  pub runs_pass : (s : State) (es : List Event) → runs_test s es ≡ true → Runs first top s es
  runs_pass s [] h = tt
  runs_pass s (e ∷ es) h = (may_passes s e (and_left (may_test s e) (runs_test (happens first s e) es) h), runs_pass (happens first s e) es (and_right (may_test s e) (runs_test (happens first s e) es) h))
