-- The law of one page over the marks of a trail: what is fresh by its events is fresh by the moments.
use Rattle.std.proofs.Common.{◌≡◌, ◌⊎◌, inl, inr, ℕ, ◌+◌, ◌*◌, ◌/◌, ◌≤◌, Bool, false, List, [], ◌∷◌, ◌++◌, refl, sym, ap, ◌∙◌, append_assoc, subst, arith}
use Rattle.std.proofs.lemmas.List.{append-nil}
use Rattle.dsm_protocol.specs.Jobs.{Moment, Passed, Acquired, Sent, Told, Began, Fetched}
use Rattle.dsm_fresh.specs.Pages.{Event, First, Last, Pass, Settle, Tell, after, start}
use Rattle.dsm_fresh.specs.Premises.{Runs}
use Rattle.dsm_fresh.specs.Laws.{Finished, Maps}
use Rattle.dsm_fresh.proofs.Keeps.{goes_on, starts}
use Rattle.dsm_fresh.proofs.Places as F
use Rattle.dsm_freshness.specs.Past.{Since, IsAtRest, HasFetched}
use Rattle.dsm_freshness.proofs.Following.{after_append}
use Rattle.dsm_freshness.proofs.Finding.{halves, gather_append, gather_at, find}
use Rattle.dsm_freshness.proofs.Marks.{is_plain, Mark, Deed, Both, Alone, event_in, moment_in, events_in, moments_in, one_event, one_moment, sent_by, told_by, Late, Pairs, Lone, Fit, AllFit, fit_rest}
use Rattle.dsm_freshness.proofs.Marking.{sent_prefix}
use Rattle.dsm_freshness.proofs.Resting.{Rests, HasSettle, rests, told_more, runs_split}

module _ (procs m n g : ℕ) where
  -- the node's processors: from this one on, and below that one
  abbrev first : ℕ
  first = n * procs

  abbrev top : ℕ
  top = n * procs + procs

  -- what is so at the mark of a moment, behind these events
  module _ (es : List Event) where
    -- no event carries the moment of a send: the send is over by then, and no fetch has begun since
    no_sent : (e : Event) → Pairs procs m n g e (Sent m g) → ⊥
    no_sent (First i a) h = cc h
    no_sent (Last i) h = cc h
    no_sent (Pass q) h = cc h
    no_sent (Settle q) h = cc h
    no_sent Tell h = cc h
    no_sent e h = h

    sent_at : (k : Mark) → moment_in k ≡ Sent m g ∷ [] → Fit procs m n g es k → (event_in k ≡ []) × Late first es
    sent_at (Deed e) h f = absurd (cc h)
    sent_at (Both e d) h f = absurd (no_sent e (subst (Pairs procs m n g e) (cc h) f))
    sent_at (Alone d) h f = let i : d ≡ Sent m g = cc h in let l : Lone procs m n g es (Sent m g) = subst (Lone procs m n g es) i f in (refl, l refl refl)

    -- with the moment at which a send is told, all sends are
    told_pair : (e : Event) → Pairs procs m n g e (Told m g) → e ≡ Tell
    told_pair (First i a) h = absurd (cc h)
    told_pair (Last i) h = absurd (cc h)
    told_pair (Pass q) h = absurd (cc h)
    told_pair (Settle q) h = absurd (cc h)
    told_pair Tell h = refl
    told_pair e h = absurd h

    told_at : (k : Mark) → moment_in k ≡ Told m g ∷ [] → Fit procs m n g es k → told_by first (es ++ event_in k) ≡ sent_by first es
    told_at (Deed e) h f = absurd (cc h)
    told_at (Both e d) h f =
        let i = told_pair e (subst (Pairs procs m n g e) (cc h) f) in
        ap (λ z. told_by first (es ++ (z ∷ []))) i ∙ ap (λ z. z.page.told) (after_append first top start es (Tell ∷ []))
    told_at (Alone d) h f = let i : d ≡ Told m g = cc h in let l : Lone procs m n g es (Told m g) = subst (Lone procs m n g es) i f in ap (told_by first) (append-nil es) ∙ l refl refl

    -- a pass of one of the node's processors is its event, and so is the end of its acquire
    passed_pair : (p : ℕ) (e : Event) → Pairs procs m n g e (Passed p) → e ≡ Pass p
    passed_pair p (First i a) h = absurd (cc h)
    passed_pair p (Last i) h = absurd (cc h)
    passed_pair p (Pass q) h = ap Pass (sym (cc h))
    passed_pair p (Settle q) h = absurd (cc h)
    passed_pair p Tell h = absurd (cc h)
    passed_pair p e h = absurd h

    passed_at : (p : ℕ) → p / procs ≡ n → (k : Mark) → moment_in k ≡ Passed p ∷ [] → Fit procs m n g es k → event_in k ≡ Pass p ∷ []
    passed_at p of (Deed e) h f = absurd (cc h)
    passed_at p of (Both e d) h f = ap (λ z. z ∷ []) (passed_pair p e (subst (Pairs procs m n g e) (cc h) f))
    passed_at p of (Alone d) h f = let i : d ≡ Passed p = cc h in let l : Lone procs m n g es (Passed p) = subst (Lone procs m n g es) i f in absurd (l of)

    acquired_pair : (p : ℕ) (e : Event) → Pairs procs m n g e (Acquired p) → e ≡ Settle p
    acquired_pair p (First i a) h = absurd (cc h)
    acquired_pair p (Last i) h = absurd (cc h)
    acquired_pair p (Pass q) h = absurd (cc h)
    acquired_pair p (Settle q) h = ap Settle (sym (cc h))
    acquired_pair p Tell h = absurd (cc h)
    acquired_pair p e h = absurd h

    acquired_at : (p : ℕ) → p / procs ≡ n → (k : Mark) → moment_in k ≡ Acquired p ∷ [] → Fit procs m n g es k → event_in k ≡ Settle p ∷ []
    acquired_at p of (Deed e) h f = absurd (cc h)
    acquired_at p of (Both e d) h f = ap (λ z. z ∷ []) (acquired_pair p e (subst (Pairs procs m n g e) (cc h) f))
    acquired_at p of (Alone d) h f = let i : d ≡ Acquired p = cc h in let l : Lone procs m n g es (Acquired p) = subst (Lone procs m n g es) i f in absurd (l of)

    -- and at the mark of an event that is a moment
    moment_at : (e : Event) (d : Moment) → is_plain e ≡ false → ((b : Moment) → Pairs procs m n g e b → b ≡ d) → (k : Mark) → event_in k ≡ e ∷ [] → Fit procs m n g es k → moment_in k ≡ d ∷ []
    moment_at e d no_plain pair (Deed b) h f = absurd (let a : is_plain b ≡ is_plain e = ap is_plain (cc h) in cc (a, f, no_plain))
    moment_at e d no_plain pair (Both b c) h f = ap (λ z. z ∷ []) (pair c (subst (λ z. Pairs procs m n g z c) (cc h) f))
    moment_at e d no_plain pair (Alone b) h f = absurd (cc h)

  -- a fetch among the events is one among the moments
  pub fetched_in : (es : List Event) (ks : List Mark) → AllFit procs m n g es ks → (xs ys zs : List Event) (i : ℕ) (a : Bool) → events_in ks ≡ xs ++ (First i a ∷ (ys ++ (Last i ∷ zs))) → HasFetched n g (moments_in ks)
  fetched_in es ks fits xs ys zs i a e =
      let k = find event_in one_event ks xs (First i a) (ys ++ (Last i ∷ zs)) e in
      let k_fits = fit_rest procs m n g es k.before (k.at ∷ k.behind) (subst (AllFit procs m n g es) k.is fits) in
      let began = moment_at (es ++ events_in k.before) (First i a) (Began n g) refl (λ b h. h) k.at k.gives k_fits.0 in
      let j = find event_in one_event k.behind ys (Last i) zs k.rest in
      let j_fits = fit_rest procs m n g ((es ++ events_in k.before) ++ event_in k.at) j.before (j.at ∷ j.behind) (subst (AllFit procs m n g ((es ++ events_in k.before) ++ event_in k.at)) j.is k_fits.1) in
      let finished = moment_at (((es ++ events_in k.before) ++ event_in k.at) ++ events_in j.before) (Last i) (Fetched n g) refl (λ b h. h) j.at j.gives j_fits.0 in
      (moments_in k.behind, moments_in j.behind, (moments_in k.before, gather_at moment_in ks k.before k.at k.behind (Began n g) k.is began), (moments_in j.before, gather_at moment_in k.behind j.before j.at j.behind (Fetched n g) j.is finished))

  -- at rest by the moments is at rest by the events
  pub rest_in : (ks : List Mark) → AllFit procs m n g [] ks → Runs first top start (events_in ks) → (p : ℕ) → p / procs ≡ n → IsAtRest p (moments_in ks) → Rests first top (after first start (events_in ks)) p
  rest_in ks fits runs p of rest = rests first top start (events_in ks) p runs (inl refl) each
    where
      each : (xs ys : List Event) → events_in ks ≡ xs ++ (Pass p ∷ ys) → HasSettle first top p ys
      each xs ys e =
          let k = find event_in one_event ks xs (Pass p) ys e in
          let k_fits = fit_rest procs m n g [] k.before (k.at ∷ k.behind) (subst (AllFit procs m n g []) k.is fits) in
          let passed = moment_at (events_in k.before) (Pass p) (Passed p) refl (λ b h. h) k.at k.gives k_fits.0 in
          let later = rest (moments_in k.behind) (moments_in k.before, gather_at moment_in ks k.before k.at k.behind (Passed p) k.is passed) in
          let j = find moment_in one_moment k.behind later.1.0 (Acquired p) later.0 later.1.1 in
          let j_fits = fit_rest procs m n g (events_in k.before ++ event_in k.at) j.before (j.at ∷ j.behind) (subst (AllFit procs m n g (events_in k.before ++ event_in k.at)) j.is k_fits.1) in
          let acquired = acquired_at ((events_in k.before ++ event_in k.at) ++ events_in j.before) p of j.at j.gives j_fits.0 in
          (events_in j.before, events_in j.behind, sym k.rest ∙ gather_at event_in k.behind j.before j.at j.behind (Settle p) j.is acquired)

  -- the node has fetched where a processor maps the page
  pub fetched_by : (ks : List Mark) → AllFit procs m n g [] ks → Runs first top start (events_in ks) → (p : ℕ) → Maps (after first start (events_in ks)) p → HasFetched n g (moments_in ks)
  fetched_by ks fits runs p maps =
      let d = F.since_start first top (events_in ks) p runs maps in
      fetched_in [] ks fits d.0 d.3 d.4 d.1 d.2 d.5

  -- the marks behind a send's moment
  record Behind (ks : List Mark) (sent : List Moment) : Type 0 where
    es : List Event
    rest : List Mark
    is : events_in ks ≡ es ++ events_in rest
    fits : AllFit procs m n g es rest
    moments : moments_in rest ≡ sent
    late : Late first es

  behind_sent : (ks : List Mark) → AllFit procs m n g [] ks → (sent : List Moment) → Since (Sent m g) (moments_in ks) sent → Behind ks sent
  behind_sent ks fits sent (before, e) =
      let k = find moment_in one_moment ks before (Sent m g) sent e in
      let k_fits = fit_rest procs m n g [] k.before (k.at ∷ k.behind) (subst (AllFit procs m n g []) k.is fits) in
      let here = sent_at (events_in k.before) k.at k.gives k_fits.0 in
      record {
        es = events_in k.before;
        rest = k.behind;
        is = ap events_in k.is ∙ (gather_append event_in k.before (k.at ∷ k.behind) ∙ ap (λ z. events_in k.before ++ (z ++ events_in k.behind)) here.0);
        fits = subst (λ z. AllFit procs m n g z k.behind) (ap (λ z. events_in k.before ++ z) here.0 ∙ append-nil (events_in k.before)) k_fits.1;
        moments = k.rest;
        late = here.1;
      }

  -- behind the moment at which it is told
  record Telling (es : List Event) (ks : List Mark) (told : List Moment) : Type 0 where
    fs : List Event
    rest : List Mark
    is : events_in ks ≡ fs ++ events_in rest
    fits : AllFit procs m n g (es ++ fs) rest
    moments : moments_in rest ≡ told
    known : sent_by first es ≤ told_by first (es ++ fs)

  behind_told : (es : List Event) (ks : List Mark) → AllFit procs m n g es ks → (told : List Moment) → Since (Told m g) (moments_in ks) told → Telling es ks told
  behind_told es ks fits told (before, e) =
      let k = find moment_in one_moment ks before (Told m g) told e in
      let k_fits = fit_rest procs m n g es k.before (k.at ∷ k.behind) (subst (AllFit procs m n g es) k.is fits) in
      let here = told_at (es ++ events_in k.before) k.at k.gives k_fits.0 in
      let more = sent_prefix first es (events_in k.before) in
      let same : (es ++ events_in k.before) ++ event_in k.at ≡ es ++ (events_in k.before ++ event_in k.at) = append_assoc es (events_in k.before) (event_in k.at) in
      let told_same = ap (told_by first) same in
      record {
        fs = events_in k.before ++ event_in k.at;
        rest = k.behind;
        is = ap events_in k.is ∙ (gather_append event_in k.before (k.at ∷ k.behind) ∙ sym (append_assoc (events_in k.before) (event_in k.at) (events_in k.behind)));
        fits = subst (λ z. AllFit procs m n g z k.behind) same k_fits.1;
        moments = k.rest;
        known = omega (arith, here, more, told_same);
      }

  -- and at a pass of one of the node's processors
  behind_pass : (es : List Event) (ks : List Mark) → AllFit procs m n g es ks → (p : ℕ) → p / procs ≡ n → (passed : List Moment) → Since (Passed p) (moments_in ks) passed → (fs : List Event) × (ys : List Event) × (events_in ks ≡ fs ++ (Pass p ∷ ys))
  behind_pass es ks fits p of passed (before, e) =
      let k = find moment_in one_moment ks before (Passed p) passed e in
      let k_fits = fit_rest procs m n g es k.before (k.at ∷ k.behind) (subst (AllFit procs m n g es) k.is fits) in
      (events_in k.before, events_in k.behind, gather_at event_in ks k.before k.at k.behind (Pass p) k.is (passed_at (es ++ events_in k.before) p of k.at k.gives k_fits.0))

  -- what was told before a pass stays told up to it
  told_prefix : (xs ys zs : List Event) → Runs first top start ((xs ++ ys) ++ zs) → told_by first xs ≤ told_by first (xs ++ ys)
  told_prefix xs ys zs runs =
      let a = (runs_split first top start (xs ++ ys) zs runs).0 in
      let b = runs_split first top start xs ys a in
      let c = told_more first top (after first start xs) ys (goes_on first top start xs (starts first top) b.0) b.1 in
      let d = ap (λ z. z.page.told) (after_append first top start xs ys) in
      omega (arith, c, d)

  -- a fetch that saw the send has begun behind the send's moment
  finished_behind : (ks : List Mark) (sent : List Moment) (b : Behind ks sent) → Finished first (sent_by first b.es) (events_in ks) → HasFetched n g sent
  finished_behind ks sent b d = go (halves b.es (events_in b.rest) d.0 (First d.1 d.2) (d.3 ++ (Last d.1 ∷ d.4)) (sym b.is ∙ d.5))
    where
      go : ((us : List Event) × (b.es ≡ d.0 ++ (First d.1 d.2 ∷ us)) × (d.3 ++ (Last d.1 ∷ d.4) ≡ us ++ events_in b.rest)) ⊎ ((us : List Event) × (d.0 ≡ b.es ++ us) × (events_in b.rest ≡ us ++ (First d.1 d.2 ∷ (d.3 ++ (Last d.1 ∷ d.4))))) → HasFetched n g sent
      go (inl h) = absurd (let x = b.late.later d.0 h.0 d.1 d.2 h.1 in let y = d.6 in omega (arith, x, y))
      go (inr h) = subst (HasFetched n g) b.moments (fetched_in b.es b.rest b.fits h.0 d.3 d.4 d.1 d.2 h.2)

  -- since the send, of which a processor heard that maps the page and is at rest, the node has fetched the page
  pub since_by : (ks : List Mark) → AllFit procs m n g [] ks → Runs first top start (events_in ks) → (p : ℕ) → p / procs ≡ n → Maps (after first start (events_in ks)) p → IsAtRest p (moments_in ks)
      → (sent told passed : List Moment) → Since (Sent m g) (moments_in ks) sent → Since (Told m g) sent told → Since (Passed p) told passed → HasFetched n g sent
  since_by ks fits runs p of maps rest sent told passed is_sent is_told is_passed =
      let b = behind_sent ks fits sent is_sent in
      let c = behind_told b.es b.rest b.fits told (subst (λ z. Since (Told m g) z told) (sym b.moments) is_told) in
      let d = behind_pass (b.es ++ c.fs) c.rest c.fits p of passed (subst (λ z. Since (Passed p) z passed) (sym c.moments) is_passed) in
      let whole : events_in ks ≡ ((b.es ++ c.fs) ++ d.0) ++ (Pass p ∷ d.1) =
      b.is ∙ (ap (λ z. b.es ++ z) (c.is ∙ ap (λ z. c.fs ++ z) d.2) ∙ (sym (append_assoc b.es c.fs (d.0 ++ (Pass p ∷ d.1))) ∙ sym (append_assoc (b.es ++ c.fs) d.0 (Pass p ∷ d.1)))) in
      let all : Runs first top start (((b.es ++ c.fs) ++ d.0) ++ (Pass p ∷ d.1)) = subst (Runs first top start) whole runs in
      let known = told_prefix (b.es ++ c.fs) d.0 (Pass p ∷ d.1) all in
      let some = b.late.some in
      let heard = c.known in
      let at_rest : Rests first top (after first start (((b.es ++ c.fs) ++ d.0) ++ (Pass p ∷ d.1))) p = subst (λ z. Rests first top (after first start z) p) whole (rest_in ks fits runs p of rest) in
      let mapped : Maps (after first start (((b.es ++ c.fs) ++ d.0) ++ (Pass p ∷ d.1))) p = subst (λ z. Maps (after first start z) p) whole maps in
      let finished = F.since first top ((b.es ++ c.fs) ++ d.0) d.1 p (sent_by first b.es) all at_rest mapped some (omega (arith, known, heard)) in
      finished_behind ks sent b (subst (Finished first (sent_by first b.es)) (sym whole) finished)
