-- A trail as one list of marks: a page's events and the run's moments, as they came. What an event says of its moment, and a moment of its events.
use Rattle.std.proofs.Common.{◌≡◌, ◌≢◌, inl, inr, ℕ, ◌+◌, ◌*◌, ◌/◌, ◌<◌, ◌==◌, Bool, true, false, List, [], ◌∷◌, ◌++◌, refl, sym, ap, subst, if◌then◌else◌, append_assoc}
use Rattle.std.specs.Prelude.{◌||◌, ◌&&◌, nat_lt}
use Rattle.std.proofs.lemmas.List.{append-nil}
use Rattle.dsm_words.specs.Script.{Act}
use Rattle.dsm_words.specs.Pages.{group_of}
use Rattle.dsm_protocol.specs.Own.{Who}
use Rattle.dsm_protocol.specs.Jobs.{Moment, Passed, Acquired, Sent, Told, Began, Fetched}
use Rattle.dsm_protocol.specs.Stages.{Work}
use Rattle.dsm_protocol.specs.Rows.{Step, sees_dir, clears, registers, breaks, sees_again, claims, withdraws, draws_enter, stamps_enter, enters, judges, draws, stamps, sets, gives, draws_send, stamps_flush, reads_dir, posts, unlists, sees_acquire, judges_own, unmaps, leaves, draws_release, drains, draws_notice, notices, flags, gives_notices, takes, Slip, flagged, passed_over}
use Rattle.dsm_fresh.specs.Pages.{Event, Share, First, Last, Tell, Break, Pass, Settle, after, start}
use Rattle.dsm_freshness.specs.Views.{is_set}
use Rattle.dsm_freshness.specs.Events.{only, step_events, slip_events}
use Rattle.dsm_freshness.proofs.Finding.{gather, AtMostOne}

-- an event that is no moment of a processor: it begins and ends no fetch, no pass and no acquire
abbrev pub is_plain : Event → Bool
is_plain (First q a) = false
is_plain (Last q) = false
is_plain (Pass q) = false
is_plain (Settle q) = false
is_plain e = true

abbrev pub AllPlain : List Event → Type 0
AllPlain [] = Unit {0}
AllPlain (e ∷ es) = (is_plain e ≡ true) × AllPlain es

-- events of a row, where it is one or another
only_plain : (c : Bool) (e : Event) → is_plain e ≡ true → AllPlain (only c e)
only_plain true e h = (h, tt)
only_plain false e h = tt

all_if : (c : Bool) (es fs : List Event) → AllPlain es → AllPlain fs → AllPlain (if c then es else fs)
all_if true es fs h k = h
all_if false es fs h k = k

plain_if : (c : Bool) (e f : Event) → is_plain e ≡ true → is_plain f ≡ true → is_plain (if c then e else f) ≡ true
plain_if true e f h k = h
plain_if false e f h k = k

-- operations and decisions are plain events
module _ (m n g : ℕ) (u : Who) {ms : List ℕ} {ds : List Bool} where
  pub step_plain : {w : Work} {a : Act} {x : ℕ} {v : Work} (step : Step u ms ds w a x v) → AllPlain (step_events m n g u step)
  step_plain sees_dir = only_plain _ _ refl
  step_plain clears = only_plain _ _ refl
  step_plain registers = only_plain _ _ refl
  step_plain (breaks {g = h} {j = j}) = all_if (h == g) _ _ (all_if (j == n) (Share ∷ []) _ (refl, tt) (only_plain (j == m) Break refl)) tt
  step_plain sees_again = only_plain _ _ refl
  step_plain claims = only_plain _ _ refl
  step_plain withdraws = only_plain _ _ refl
  step_plain (draws_enter {g = h}) = only_plain _ _ (plain_if (h == g) _ _ refl refl)
  step_plain stamps_enter = only_plain _ _ refl
  step_plain enters = only_plain _ _ refl
  step_plain (judges {g = h} {y = y} {x = x}) = all_if (y == 0 || nat_lt y x) [] _ tt (only_plain _ _ refl)
  step_plain (draws {g = h}) = only_plain _ _ (plain_if (h == g) _ _ refl refl)
  step_plain stamps = only_plain _ _ refl
  step_plain sets = only_plain _ _ refl
  step_plain gives = only_plain _ _ refl
  step_plain draws_send = only_plain _ _ refl
  step_plain stamps_flush = only_plain _ _ refl
  step_plain reads_dir = only_plain _ _ refl
  step_plain (posts v e) = only_plain _ _ refl
  step_plain unlists = only_plain _ _ refl
  step_plain sees_acquire = only_plain _ _ refl
  step_plain (judges_own {y = y} {x = x}) = all_if (y == 0 || nat_lt y x) [] _ tt (only_plain _ _ refl)
  step_plain unmaps = only_plain _ _ refl
  step_plain leaves = only_plain _ _ refl
  step_plain draws_release = only_plain _ _ refl
  step_plain (drains {x = x}) = only_plain _ _ (plain_if (is_set m n g x) _ _ refl refl)
  step_plain (draws_notice {j = j} {k = k} {b = b} e j_in page) = only_plain _ _ (plain_if (64 * k + b == g) _ _ (plain_if (j == m && k == group_of g) _ _ refl refl) refl)
  step_plain (notices {j = j} {k = k}) = only_plain _ _ (plain_if (j == m && k == group_of g) _ _ refl refl)
  step_plain (flags {j = j} e lo hi) = only_plain _ _ (plain_if (j == m) _ _ refl refl)
  step_plain gives_notices = only_plain _ _ refl
  step_plain takes = only_plain _ _ refl
  step_plain row = tt

  pub slip_plain : {w v : Work} (slip : Slip u ms ds w v) → AllPlain (slip_events m n g u slip)
  slip_plain flagged = only_plain _ _ refl
  slip_plain (passed_over e) = only_plain _ _ refl
  slip_plain row = tt

-- An event; an event with the moment of its note; or a moment that is no event.
pub data Mark : Type 0 where
  Deed : Event → Mark
  Both : Event → Moment → Mark
  Alone : Moment → Mark

-- what a mark says of the events, and of the moments
abbrev pub event_in : Mark → List Event
event_in (Deed e) = e ∷ []
event_in (Both e d) = e ∷ []
event_in (Alone d) = []

abbrev pub moment_in : Mark → List Moment
moment_in (Deed e) = []
moment_in (Both e d) = d ∷ []
moment_in (Alone d) = d ∷ []

abbrev pub events_in : List Mark → List Event
events_in ks = gather event_in ks

abbrev pub moments_in : List Mark → List Moment
moments_in ks = gather moment_in ks

-- that is one of each at most
pub one_event : (k : Mark) → AtMostOne event_in (event_in k)
one_event (Deed e) = inr (e, refl)
one_event (Both e d) = inr (e, refl)
one_event (Alone d) = inl refl

pub one_moment : (k : Mark) → AtMostOne moment_in (moment_in k)
one_moment (Deed e) = inl refl
one_moment (Both e d) = inr (d, refl)
one_moment (Alone d) = inr (d, refl)

-- the marks of events without a moment, and of events with one
abbrev pub deeds : List Event → List Mark
deeds [] = []
deeds (e ∷ es) = Deed e ∷ deeds es

abbrev pub noted : List Event → Moment → List Mark
noted [] d = Alone d ∷ []
noted (e ∷ es) d = Both e d ∷ deeds es

-- what is gathered from them
pub deeds_events : (es : List Event) → events_in (deeds es) ≡ es
deeds_events [] = refl
deeds_events (e ∷ es) = ap (λ z. e ∷ z) (deeds_events es)

pub deeds_moments : (es : List Event) → moments_in (deeds es) ≡ []
deeds_moments [] = refl
deeds_moments (e ∷ es) = deeds_moments es

pub noted_events : (es : List Event) (d : Moment) → events_in (noted es d) ≡ es
noted_events [] d = refl
noted_events (e ∷ es) d = ap (λ z. e ∷ z) (deeds_events es)

pub noted_moments : (es : List Event) (d : Moment) → moments_in (noted es d) ≡ d ∷ []
noted_moments [] d = refl
noted_moments (e ∷ es) d = ap (λ z. d ∷ z) (deeds_moments es)

-- The node's processors are those from `first` on.
module _ (first : ℕ) where
  -- how many sends have ended behind these events, and are told
  abbrev pub sent_by : List Event → ℕ
  sent_by es = (after first start es).page.sent

  abbrev pub told_by : List Event → ℕ
  told_by es = (after first start es).page.told

  -- a send has ended, and no fetch of these has begun behind the last one
  pub record Late (es : List Event) : Type 0 where
    pub some : 0 < sent_by es
    pub later : (xs ys : List Event) (i : ℕ) (a : Bool) → es ≡ xs ++ (First i a ∷ ys) → sent_by xs < sent_by es

-- sender m, node n with `procs` processors, page g
module _ (procs m n g : ℕ) where
  -- this moment is noted with this event
  abbrev pub Pairs : Event → Moment → Type 0
  Pairs (First i a) d = d ≡ Began n g
  Pairs (Last i) d = d ≡ Fetched n g
  Pairs (Pass q) d = d ≡ Passed q
  Pairs (Settle q) d = d ≡ Acquired q
  Pairs Tell d = d ≡ Told m g
  Pairs e d = ⊥

  -- and this one without any, behind these events
  abbrev pub Lone : List Event → Moment → Type 0
  Lone es (Passed q) = q / procs ≢ n
  Lone es (Acquired q) = q / procs ≢ n
  Lone es (Sent j h) = j ≡ m → h ≡ g → Late (n * procs) es
  Lone es (Told j h) = j ≡ m → h ≡ g → told_by (n * procs) es ≡ sent_by (n * procs) es
  Lone es d = Unit {0}

  -- a mark may come behind these events; each of a list may
  abbrev pub Fit : List Event → Mark → Type 0
  Fit es (Deed e) = is_plain e ≡ true
  Fit es (Both e d) = Pairs e d
  Fit es (Alone d) = Lone es d

  abbrev pub AllFit : List Event → List Mark → Type 0
  AllFit es [] = Unit {0}
  AllFit es (k ∷ ks) = Fit es k × AllFit (es ++ event_in k) ks

  -- marks that fit, one list behind the other, and cut in two
  pub fit_append : (es : List Event) (ks js : List Mark) → AllFit es ks → AllFit (es ++ events_in ks) js → AllFit es (ks ++ js)
  fit_append es [] js h k = subst (λ z. AllFit z js) (append-nil es) k
  fit_append es (x ∷ ks) js h k = (h.0, fit_append (es ++ event_in x) ks js h.1 (subst (λ z. AllFit z js) (sym (append_assoc es (event_in x) (events_in ks))) k))

  pub fit_rest : (es : List Event) (ks js : List Mark) → AllFit es (ks ++ js) → AllFit (es ++ events_in ks) js
  fit_rest es [] js h = subst (λ z. AllFit z js) (sym (append-nil es)) h
  fit_rest es (x ∷ ks) js h = subst (λ z. AllFit z js) (append_assoc es (event_in x) (events_in ks)) (fit_rest (es ++ event_in x) ks js h.1)

  pub fit_at : (es : List Event) (ks : List Mark) (k : Mark) (js : List Mark) → AllFit es (ks ++ (k ∷ js)) → Fit (es ++ events_in ks) k
  fit_at es ks k js h = (fit_rest es ks (k ∷ js) h).0

  -- plain events fit anywhere
  pub deeds_fit : (es fs : List Event) → AllPlain fs → AllFit es (deeds fs)
  deeds_fit es [] h = tt
  deeds_fit es (f ∷ fs) h = (h.0, deeds_fit (es ++ (f ∷ [])) fs h.1)
