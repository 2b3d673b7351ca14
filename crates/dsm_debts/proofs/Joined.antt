-- The law at every node and the home beside the copies.
use Rattle.std.proofs.Common.{◌≡◌, ◌≢◌, ℕ, ◌⊎◌, Bool, true, false, Option, None, Some, List, [], ◌∷◌, refl, sym, ap, ◌∙◌, subst, inl, inr, if◌then◌else◌}
use Rattle.std.proofs.lemmas.Bool.{cases_eq, eq-eqb, ne_eqb}
use Rattle.dsm_copies.specs.Copies as W
use Rattle.dsm_copies.specs.Debts.{Debts, owes, no_debts, debts_after, AsksOf, RunsOf}
use Rattle.dsm_copies.specs.Counts.{Count, no_count, count_after}
use Rattle.dsm_copies.specs.Premises.{Premise, Released, Drops as Drops_of, Kept}
use Rattle.dsm_copies.specs.Modes.{Flush_over, owed, told}
use Rattle.dsm_copies.specs.Joining.{onto}
use Rattle.dsm_debts.specs.Page.{Work, Stage, State, Event, Store, Signal, Enter, Begin, Load, Same, Differ, Refresh, Send, Stamp, Stamp_bare, Tell, Drop, Finish, Break, End, End_home, after_event, start, IsClock}
use Rattle.dsm_debts.specs.Premises.{May}
use Rattle.dsm_debts.specs.Joining.{mode_track, enters, has_flushed, word_event, home_event, Agrees, AgreesAt, IsOther, Move, At, Other, is_same, is_home, event_at, put_page, pages_after, event_of_move, events_of, MayMove, RunsMoves, OnDebts, OnOthers, pages_start, DebtsAreKept, Together}
use Rattle.dsm_debts.proofs.Keeps.{Holds, keeps, starts}
use Rattle.dsm_debts.proofs.Meeting.{Matches, joins}
use Rattle.dsm_debts.proofs.Others.{IsElse, others, signal_may, drop_may}
use Rattle.dsm_debts.proofs.Home.{Matches as HomeMatches, joins as home_joins, IsHomeElse, others as home_others, signal_may as home_signal_may}

module _ (place : ℕ → Option ℕ) where
  -- what the debt law at place h says of the word law
  abbrev MatchesAt : Option ℕ → W.State → Debts → State → Type 0
  MatchesAt None s d x = HomeMatches place s d x
  MatchesAt (Some n) s d x = Matches place n s d x

  -- an event of the word law that is none of place h
  abbrev ElseAt : Option ℕ → W.State → W.Event → Type 0
  ElseAt None s e = IsHomeElse place e
  ElseAt (Some n) s e = IsElse place n s e

  abbrev MaybeElse : Option ℕ → W.State → Option W.Event → Type 0
  MaybeElse h s None = Unit {0}
  MaybeElse h s (Some e) = ElseAt h s e

  others_at : (h : Option ℕ) (s : W.State) (d : Debts) (x : State) (e : W.Event) → ElseAt h s e → MatchesAt h s d x → MatchesAt h (W.after_event place s e) (owes place s e d) x
  others_at None s d x e a m = home_others place 0 0 s d x e a m
  others_at (Some n) s d x e a m = others place n s d x e a m

  maybe_others : (h : Option ℕ) (s : W.State) (d : Debts) (x : State) (o : Option W.Event) → MaybeElse h s o → MatchesAt h s d x → MatchesAt h (W.after place s (onto o [])) (debts_after place s d (onto o [])) x
  maybe_others h s d x None a m = m
  maybe_others h s d x (Some e) a m = others_at h s d x e a m

  -- what is done at a place is none of another
  apart_store : (p v : ℕ) (h k : Option ℕ) (s : W.State) → place p ≡ h → k ≢ h → ElseAt k s (W.Store p v)
  apart_store p v h None s e ne = λ i. ne (sym i ∙ e)
  apart_store p v h (Some n) s e ne = λ i. ne (sym i ∙ e)

  apart_signal : (p : ℕ) (h k : Option ℕ) (s : W.State) → place p ≡ h → k ≢ h → ElseAt k s (W.Signal p)
  apart_signal p h None s e ne = λ i. ne (sym i ∙ e)
  apart_signal p h (Some n) s e ne = λ i. ne (sym i ∙ e)

  apart_op : (n : ℕ) (k : Option ℕ) (s : W.State) → k ≢ Some n → ElseAt k s (W.Op n)
  apart_op n None s ne = tt
  apart_op n (Some k) s ne = inl (λ i. ne (ap (λ z. Some z) (sym i)))

  apart_down : (n : ℕ) (k : Option ℕ) (s : W.State) → k ≢ Some n → ElseAt k s (W.Drop n)
  apart_down n None s ne = tt
  apart_down n (Some k) s ne = λ i. ne (ap (λ z. Some z) (sym i))

  apart_begin : (n : ℕ) (kind : W.Kind) (k : Option ℕ) (s : W.State) → k ≢ Some n → ElseAt k s (W.Begin n kind)
  apart_begin n kind None s ne = tt
  apart_begin n kind (Some k) s ne = inl (λ i. ne (ap (λ z. Some z) (sym i)))

  apart_home : (e : W.Event) (k : Option ℕ) (s : W.State) → ((n : ℕ) → IsElse place n s e) → k ≢ None → ElseAt k s e
  apart_home e None s f ne = absurd (ne refl)
  apart_home e (Some n) s f ne = f n

  apart_if : (b : Bool) (n : ℕ) (k : Option ℕ) (s : W.State) → k ≢ Some n → MaybeElse k s (if b then Some (W.Op n) else None)
  apart_if true n k s ne = apart_op n k s ne
  apart_if false n k s ne = tt

  apart : (n v : ℕ) (k : Option ℕ) (s : W.State) (w : Work) (e : Event) → Agrees place n s e → k ≢ Some n → MaybeElse k s (word_event n w v e)
  apart n v k s w (Store q) a ne = apart_store q v (Some n) k s a ne
  apart n v k s w (Signal q) a ne = apart_signal q (Some n) k s a ne
  apart n v k s w Begin a ne = apart_begin n W.Flush k s ne
  apart n v k s w Load a ne = apart_op n k s ne
  apart n v k s w Same a ne = apart_op n k s ne
  apart n v k s w Differ a ne = apart_op n k s ne
  apart n v k s w Refresh a ne = apart_op n k s ne
  apart n v k s w Send a ne = apart_op n k s ne
  apart n v k s w Stamp a ne = apart_op n k s ne
  apart n v k s w Tell a ne = apart_if (has_flushed w) n k s ne
  apart n v k s w Drop a ne = apart_down n k s ne
  apart n v k s w Finish a ne = apart_if (has_flushed w) n k s ne
  apart n v k s w Break a ne = apart_begin n W.Break k s ne
  apart n v k s w End a ne = apart_op n k s ne
  apart n v k s w Enter a ne = apart_op n k s ne
  apart n v k s w e a ne = tt

  home_apart : (v : ℕ) (k : Option ℕ) (s : W.State) (e : Event) → AgreesAt place None s e → k ≢ None → MaybeElse k s (home_event v e)
  home_apart v k s (Store q) a ne = apart_store q v None k s a ne
  home_apart v k s (Signal q) a ne = apart_signal q None k s a ne
  home_apart v k s Stamp_bare a ne = apart_home W.Home_sent k s (λ n. tt) ne
  home_apart v k s Tell a ne = apart_home W.Home_told k s (λ n. tt) ne
  home_apart v k s Enter a ne = apart_home W.Home_enter k s (λ n. tt) ne
  home_apart v k s End_home a ne = apart_home W.Home_break k s (λ n. tt) ne
  home_apart v k s e a ne = tt

  -- what the three premises ask of an event
  abbrev Pays : W.State → Debts → W.Event → Type 0
  Pays s d (W.Signal p) = (d.debt p ≡ told) ⊎ ((W.exclusive_at s (place p) ≡ true) × (d.debt p ≢ owed))
  Pays s d (W.Drop n) = ((s.nodes n).mode ≡ Flush_over) × ((q : ℕ) → place q ≡ Some n → d.debt q ≢ owed)
  Pays s d e = Unit {0}

  abbrev MaybePays : W.State → Debts → Option W.Event → Type 0
  MaybePays s d None = Unit {0}
  MaybePays s d (Some e) = Pays s d e

  pays_asks : (s : W.State) (c : Count) (d : Debts) (e : W.Event) → Pays s d e → (r : Premise) → OnDebts r → AsksOf place r s c d e
  pays_asks s c d (W.Signal p) a Released o = a
  pays_asks s c d e a Released o = tt
  pays_asks s c d (W.Drop n) a Drops_of o = a.0
  pays_asks s c d e a Drops_of o = tt
  pays_asks s c d (W.Drop n) a Kept o = a.1
  pays_asks s c d e a Kept o = tt
  pays_asks s c d e a r o = absurd o

  pays_if : (b : Bool) (n : ℕ) (s : W.State) (d : Debts) → MaybePays s d (if b then Some (W.Op n) else None)
  pays_if true n s d = tt
  pays_if false n s d = tt

  pays_other : (s : W.State) (d : Debts) (e : W.Event) → IsOther place s e → Pays s d e
  pays_other s d (W.Signal p) a = absurd a
  pays_other s d (W.Drop n) a = absurd a
  pays_other s d e a = tt

  module _ (first top : Option ℕ → ℕ) where
    record All (f : Option ℕ → State) (s : W.State) (d : Debts) : Type 0 where
      holds : (h : Option ℕ) → Holds (is_home h) (first h) (top h) (f h)
      matches : (h : Option ℕ) → MatchesAt h s d (f h)

    apart_at : (h k : Option ℕ) (v : ℕ) (s : W.State) (w : Work) (e : Event) → AgreesAt place h s e → k ≢ h → MaybeElse k s (event_at h w v e)
    apart_at None k v s w e a ne = home_apart v k s e a ne
    apart_at (Some n) k v s w e a ne = apart n v k s w e a ne

    joins_at : (h : Option ℕ) (v : ℕ) (s : W.State) (d : Debts) (x : State) (e : Event) → May (is_home h) (first h) (top h) x e → AgreesAt place h s e → Holds (is_home h) (first h) (top h) x → MatchesAt h s d x → MatchesAt h (W.after place s (onto (event_at h x.page.work v e) [])) (debts_after place s d (onto (event_at h x.page.work v e) [])) (after_event (is_home h) (first h) x e)
    joins_at None v s d x e m a i k = home_joins place (first None) (top None) s d v x e m a i k
    joins_at (Some n) v s d x e m a i k = joins place n (first (Some n)) (top (Some n)) s d v x e m a i k

    same_is : (k h : Option ℕ) → (k ≡ h) ⊎ (k ≢ h)
    same_is None None = inl refl
    same_is None (Some n) = inr (λ e. absurd (cc e))
    same_is (Some k) None = inr (λ e. absurd (cc e))
    same_is (Some k) (Some n) = go (cases_eq k n)
      where
        go : (k ≡ n) ⊎ (k ≢ n) → (Some k ≡ Some n) ⊎ (Some k ≢ Some n)
        go (inl e) = inl (ap (λ z. Some z) e)
        go (inr ne) = inr (λ e. ne (cc e))

    is_same_refl : (h : Option ℕ) → is_same h h ≡ true
    is_same_refl None = refl
    is_same_refl (Some n) = eq-eqb n n refl

    is_same_ne : (k h : Option ℕ) → k ≢ h → is_same k h ≡ false
    is_same_ne None None ne = absurd (ne refl)
    is_same_ne None (Some n) ne = refl
    is_same_ne (Some k) None ne = refl
    is_same_ne (Some k) (Some n) ne = ne_eqb k n (λ e. ne (ap (λ z. Some z) e))

    put_all : (P : Option ℕ → State → Type 0) (f : Option ℕ → State) (h : Option ℕ) (x : State) → P h x → ((k : Option ℕ) → k ≢ h → P k (f k)) → (k : Option ℕ) → P k (put_page f h x k)
    put_all P f h x a b k = go (same_is k h)
      where
        go : (k ≡ h) ⊎ (k ≢ h) → P k (put_page f h x k)
        go (inl e) = subst (λ z. P z (put_page f h x z)) (sym e) (rw (is_same_refl h) a)
        go (inr ne) = rw (is_same_ne k h ne) (b k ne)

    other_at : (h : Option ℕ) (s : W.State) (e : W.Event) → IsOther place s e → ElseAt h s e
    other_at None s (W.Load p v) a = tt
    other_at None s (W.Pass p) a = tt
    other_at None s (W.Begin k kind) a = tt
    other_at None s (W.Op k) a = tt
    other_at None s (W.Enter k) a = tt
    other_at None s (W.Store p v) a = absurd a
    other_at None s (W.Signal p) a = absurd a
    other_at None s (W.Drop k) a = absurd a
    other_at None s W.Home_sent a = absurd a
    other_at None s W.Home_told a = absurd a
    other_at None s W.Home_enter a = absurd a
    other_at None s W.Home_break a = absurd a
    other_at (Some n) s (W.Load p v) a = tt
    other_at (Some n) s (W.Pass p) a = tt
    other_at (Some n) s (W.Begin k kind) a = go (cases_eq n k)
      where
        go : (n ≡ k) ⊎ (n ≢ k) → IsElse place n s (W.Begin k kind)
        go (inl e) = inr (a.0, ap (λ z. mode_track (s.nodes z).mode) e ∙ a.1)
        go (inr ne) = inl (λ z. ne (sym z))
    other_at (Some n) s (W.Op k) a = go (cases_eq n k)
      where
        go : (n ≡ k) ⊎ (n ≢ k) → IsElse place n s (W.Op k)
        go (inl e) = inr (ap (λ z. enters (s.nodes z).mode) e ∙ a.0, ap (λ z. mode_track (s.nodes z).mode) e ∙ a.1)
        go (inr ne) = inl (λ z. ne (sym z))
    other_at (Some n) s (W.Enter k) a = go (cases_eq n k)
      where
        go : (n ≡ k) ⊎ (n ≢ k) → IsElse place n s (W.Enter k)
        go (inl e) = inr (ap (λ z. mode_track (s.nodes z).mode) e ∙ a)
        go (inr ne) = inl (λ z. ne (sym z))
    other_at (Some n) s (W.Store p v) a = absurd a
    other_at (Some n) s (W.Signal p) a = absurd a
    other_at (Some n) s (W.Drop k) a = absurd a
    other_at (Some n) s W.Home_sent a = absurd a
    other_at (Some n) s W.Home_told a = absurd a
    other_at (Some n) s W.Home_enter a = absurd a
    other_at (Some n) s W.Home_break a = absurd a

    -- both laws behind what happens at a place
    step : (f : Option ℕ → State) (s : W.State) (d : Debts) (h : Option ℕ) (v : ℕ) (e : Event) → MayMove place first top f s (At h v e) → All f s d → let o = event_at h (f h).page.work v e in
        All (put_page f h (after_event (is_home h) (first h) (f h) e)) (W.after place s (onto o [])) (debts_after place s d (onto o []))
    step f s d h v e m a =
        let o = event_at h (f h).page.work v e in
        let x = after_event (is_home h) (first h) (f h) e in
        record {
          holds = put_all (λ k x. Holds (is_home k) (first k) (top k) x) f h x (keeps (is_home h) (first h) (top h) (f h) e (a.holds h) m.0) (λ k ne. a.holds k);
          matches = put_all (λ k x. MatchesAt k (W.after place s (onto o [])) (debts_after place s d (onto o [])) x) f h x
              (joins_at h v s d (f h) e m.0 m.1 (a.holds h) (a.matches h))
              (λ k ne. maybe_others k s d (f k) o (apart_at h k v s (f h).page.work e m.1 ne) (a.matches k));
        }

    pays_home : (f : Option ℕ → State) (s : W.State) (d : Debts) (v : ℕ) (e : Event) → May true (first None) (top None) (f None) e → AgreesAt place None s e → All f s d → MaybePays s d (home_event v e)
    pays_home f s d v (Signal q) m i a = home_signal_may place (first None) (top None) s d (f None) (a.holds None) (a.matches None) q i m
    pays_home f s d v e m i a = tt

    pays_away : (f : Option ℕ → State) (s : W.State) (d : Debts) (n v : ℕ) (e : Event) → May false (first (Some n)) (top (Some n)) (f (Some n)) e → AgreesAt place (Some n) s e → All f s d → MaybePays s d (word_event n (f (Some n)).page.work v e)
    pays_away f s d n v (Signal q) m i a = signal_may place n (first (Some n)) (top (Some n)) s d (f (Some n)) (a.holds (Some n)) (a.matches (Some n)) q i m
    pays_away f s d n v Drop m i a = drop_may place n (first (Some n)) (top (Some n)) s d (f (Some n)) (a.holds (Some n)) (a.matches (Some n)) m
    pays_away f s d n v Tell m i a = pays_if (has_flushed (f (Some n)).page.work) n s d
    pays_away f s d n v Finish m i a = pays_if (has_flushed (f (Some n)).page.work) n s d
    pays_away f s d n v e m i a = tt

    pays_move : (f : Option ℕ → State) (s : W.State) (d : Debts) (m : Move) → MayMove place first top f s m → All f s d → MaybePays s d (event_of_move place first top f m)
    pays_move f s d (At None v e) m a = pays_home f s d v e m.0 m.1 a
    pays_move f s d (At (Some n) v e) m a = pays_away f s d n v e m.0 m.1 a
    pays_move f s d (Other e) m a = pays_other s d e m

    module _ (f : Option ℕ → State) (s : W.State) where
      onto_all : (g : Option ℕ → State) (o : Option W.Event) (es : List W.Event) → All g (W.after place (W.after place s es) (onto o [])) (debts_after place (W.after place s es) (debts_after place s no_debts es) (onto o [])) → All g (W.after place s (onto o es)) (debts_after place s no_debts (onto o es))
      onto_all g None es a = a
      onto_all g (Some e) es a = a

      all_behind : (ms : List Move) → RunsMoves place first top f s ms → All f s no_debts → All (pages_after place first top f ms) (W.after place s (events_of place first top f ms)) (debts_after place s no_debts (events_of place first top f ms))
      all_behind [] r a = a
      all_behind (At h v e ∷ older) r a =
          let g = pages_after place first top f older in
          let es = events_of place first top f older in
          onto_all (put_page g h (after_event (is_home h) (first h) (g h) e)) (event_at h (g h).page.work v e) es (step g (W.after place s es) (debts_after place s no_debts es) h v e r.0 (all_behind older r.1 a))
      all_behind (Other e ∷ older) r a =
          let g = pages_after place first top f older in
          let es = events_of place first top f older in
          let b = all_behind older r.1 a in
          record { holds = b.holds; matches = λ k. others_at k (W.after place s es) (debts_after place s no_debts es) (g k) e (other_at k (W.after place s es) e r.0) (b.matches k) }

      onto_runs : (o : Option W.Event) (es : List W.Event) → MaybePays (W.after place s es) (debts_after place s no_debts es) o → RunsOf place OnDebts s no_count no_debts es → RunsOf place OnDebts s no_count no_debts (onto o es)
      onto_runs None es p r = r
      onto_runs (Some e) es p r = (λ q o. pays_asks (W.after place s es) (count_after place s no_count es) (debts_after place s no_debts es) e p q o, r)

      runs_behind : (ms : List Move) → RunsMoves place first top f s ms → All f s no_debts → RunsOf place OnDebts s no_count no_debts (events_of place first top f ms)
      runs_behind [] r a = tt
      runs_behind (m ∷ older) r a =
          let g = pages_after place first top f older in
          let es = events_of place first top f older in
          onto_runs (event_of_move place first top g m) es (pays_move g (W.after place s es) (debts_after place s no_debts es) m r.0 (all_behind older r.1 a)) (runs_behind older r.1 a)

    begins : (init : ℕ) (frames twins : ℕ → ℕ) (clock : Option ℕ → ℕ) (stages : Option ℕ → ℕ → Stage) → ((h : Option ℕ) → IsClock (clock h) (stages h)) → All (pages_start clock stages) (W.start init frames twins) no_debts
    begins init frames twins clock stages c = record { holds = λ h. starts (is_home h) (first h) (top h) (clock h) (stages h) (c h); matches = matching }
      where
        matching : (h : Option ℕ) → MatchesAt h (W.start init frames twins) no_debts (start (clock h) (stages h))
        matching None = record { debt = λ q e. refl; sole = refl }
        matching (Some n) = record { debt = λ q e. refl; seen = λ q e. refl; track = refl }

pub debts_are_kept : DebtsAreKept
debts_are_kept place first top init frames twins clock stages ms c r =
    runs_behind place first top (pages_start clock stages) (W.start init frames twins) ms r (begins place first top init frames twins clock stages c)

either : (r : Premise) → OnDebts r ⊎ OnOthers r
either Released = inl tt
either Drops_of = inl tt
either Kept = inl tt
either r = inr tt

both : (place : ℕ → Option ℕ) (s : W.State) (asked : Premise → Type 0) (es : List W.Event) → RunsOf place OnDebts s no_count no_debts es → RunsOf place (λ r. asked r × OnOthers r) s no_count no_debts es → RunsOf place asked s no_count no_debts es
both place s asked [] a b = tt
both place s asked (e ∷ older) a b = (each, both place s asked older a.1 b.1)
  where
    each : (r : Premise) → asked r → AsksOf place r (W.after place s older) (count_after place s no_count older) (debts_after place s no_debts older) e
    each r i = go (either r)
      where
        go : OnDebts r ⊎ OnOthers r → AsksOf place r (W.after place s older) (count_after place s no_count older) (debts_after place s no_debts older) e
        go (inl o) = a.0 r o
        go (inr o) = b.0 r (i, o)

pub together : (asked : Premise → Type 0) → Together asked
together asked place first top init frames twins clock stages ms c r q =
    both place (W.start init frames twins) asked (events_of place first top (pages_start clock stages) ms) (debts_are_kept place first top init frames twins clock stages ms c r) q
