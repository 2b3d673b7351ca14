-- What is known of the other processors stays under an event of one.
use Rattle.std.proofs.Common.{◌≡◌, ◌≢◌, ◌⊎◌, inl, inr, ℕ, ◌*◌, ◌+◌, ◌<◌, ◌==◌, Bool, true, false, List, [], ◌∷◌, Option, None, Some, refl, sym, ap, ◌∙◌, subst, arith}
use Rattle.std.proofs.lemmas.Bool.{ne_eqb}
use Rattle.dsm_words.specs.Place.{IsWithin}
use Rattle.dsm_clock.specs.Turns.{turn_item}
use Rattle.dsm_clock.specs.declared.turns.TurnId.{TurnId}
use Rattle.dsm_clock.specs.declared.turns.TurnId.TheVariants.{Page}
use Rattle.dsm_protocol.specs.Own.{Own, Who}
use Rattle.dsm_protocol.specs.Stages.{For_closing, Stage, Mapped, Seeking, Missing, Claimed, Withdrawing, Filled, Entered, Stamping, Lowering, Dropping, Untwining, Unlisting, Done, Work, Off, On, Gone, turn_at}
use Rattle.dsm_ties.specs.Views.{AtStage}
use Rattle.dsm_debts.specs.Page as D
use Rattle.dsm_debts.specs.Page.{State, Event, Tick, Store, Open, Take, Signal, Keep, Early, Map_write, Finish, worker, opened, page_after, after_event, after}
use Rattle.dsm_releases.specs.Views.{IsEarly, HasPosted, Leaves, WorksAt}
use Rattle.dsm_releases.specs.Tied.{Knows}
use Rattle.dsm_releases.proofs.Words.{writes_kept, stage_kept, dirty_kept}
use Rattle.dsm_releases.proofs.Making.{IsBy, need, Made, AllMade}

-- two states are alike for the work of processor q on the copy
record Alike (q : ℕ) (f f' : State) : Type 0 where
  pub work : f'.page.work ≡ f.page.work
  pub sole : f'.page.sole ≡ f.page.sole
  pub flush : f'.page.flush ≡ f.page.flush
  pub twin : f'.page.twin ≡ f.page.twin
  pub stage : (f'.processors q).stage ≡ (f.processors q).stage
  pub writes : (f'.processors q).writes ≡ (f.processors q).writes

module _ (home : Bool) (first top i q : ℕ) (f f' : State) (a : Alike q f f') where
  -- a page that is left early, one that is posted, one that is left as it is
  early_alike : IsEarly home first top i q f → IsEarly home first top i q f'
  early_alike k = (a.work ∙ k.0, subst (λ z. opened z < f'.page.flush) (sym a.stage) (subst (λ z. opened (f.processors q).stage < z) (sym a.flush) k.1))

  posted_alike : HasPosted home first top i q f → HasPosted home first top i q f'
  posted_alike k = (k.0, k.1, a.work ∙ k.2)

  leaves_alike : Leaves home first top i q f → Leaves home first top i q f'
  leaves_alike (inl k) = inl (a.work ∙ k.0, a.sole ∙ k.1)
  leaves_alike (inr k) = inr (early_alike k.0, a.writes ∙ k.1)

  -- so what is so of its work in one is so in the other
  works_alike : (s : Stage) → WorksAt home first top i q s f → WorksAt home first top i q s f'
  works_alike (Mapped k s) w = works_alike s w
  works_alike (Seeking (For_closing j)) w = a.work ∙ w
  works_alike (Missing (For_closing j)) w = a.work ∙ w
  works_alike (Claimed h j row) w = (a.work ∙ w.0, a.sole ∙ w.1)
  works_alike (Withdrawing h) w = (a.work ∙ w.0, a.sole ∙ w.1)
  works_alike (Filled t) w = (a.work ∙ w.0, a.sole ∙ w.1)
  works_alike Entered w = (a.work ∙ w.0, λ e. a.sole ∙ w.1 e)
  works_alike (Stamping h t true) w = a.work ∙ w
  works_alike (Stamping h t false) w = (a.work ∙ w.0, subst (λ z. (home ≡ true) ⊎ (z ≡ false)) (sym a.twin) w.1)
  works_alike (Lowering b) (inl w) = inl (a.work ∙ w)
  works_alike (Lowering b) (inr w) = inr (w.0, early_alike w.1)
  works_alike (Dropping k unwritten free) w = (w.0, a.work ∙ w.1, w.2, a.writes ∙ w.3)
  works_alike (Untwining free) w = (w.0, a.work ∙ w.1, w.2, a.writes ∙ w.3)
  works_alike Unlisting w = (posted_alike w.0, a.writes ∙ w.1)
  works_alike Done (inl w) = inl (posted_alike w.0, a.writes ∙ w.1)
  works_alike Done (inr w) = inr (leaves_alike w)
  works_alike s w = a.work ∙ w

-- an event under no turn of the page leaves the page but for the clock
module _ (n g : ℕ) (home : Bool) (first : ℕ) where
  page_left : (p : D.Page) (e : Event) → need n g e ≢ Some (Page n g) → page_after home first p e ≡ record p { clock = (page_after home first p e).clock }
  page_left p Tick ne = refl
  page_left p (Store k) ne = refl
  page_left p (Open k) ne = refl
  page_left p (Take k) ne = refl
  page_left p (Signal k) ne = refl
  page_left p e ne = absurd (ne refl)

  -- and each mapping
  writes_left : (f : State) (e : Event) → need n g e ≢ Some (Page n g) → (q : ℕ) → ((after_event home first f e).processors q).writes ≡ (f.processors q).writes
  writes_left f Tick ne q = writes_kept home first f Tick (λ t. absurd (omega (arith, t))) q
  writes_left f (Store k) ne q = writes_kept home first f (Store k) (λ t. absurd (omega (arith, t))) q
  writes_left f (Open k) ne q = writes_kept home first f (Open k) (λ t. absurd (omega (arith, t))) q
  writes_left f (Take k) ne q = writes_kept home first f (Take k) (λ t. absurd (omega (arith, t))) q
  writes_left f (Signal k) ne q = writes_kept home first f (Signal k) (λ t. absurd (omega (arith, t))) q
  writes_left f e ne q = absurd (ne refl)

-- where another processor stands in its release, and its dirty set
module _ (home : Bool) (first : ℕ) (f : State) (p q : ℕ) (ne : q ≢ p) where
  stage_left : (e : Event) → IsBy p f e → ((after_event home first f e).processors q).stage ≡ (f.processors q).stage
  stage_left (Open k) by = rw (ne_eqb q k (λ d. ne (d ∙ by))) refl
  stage_left (Take k) by = rw (ne_eqb q k (λ d. ne (d ∙ by))) refl
  stage_left (Signal k) by = rw (ne_eqb q k (λ d. ne (d ∙ by))) refl
  stage_left e by = stage_kept home first f e refl q

  dirty_left : (e : Event) → IsBy p f e → ((after_event home first f e).processors q).dirty ≡ (f.processors q).dirty
  dirty_left (Take k) by = rw (ne_eqb q k (λ d. ne (d ∙ by))) refl
  dirty_left (Keep k) by = rw (ne_eqb q k (λ d. ne (d ∙ by))) refl
  dirty_left (Early k) by = rw (ne_eqb q k (λ d. ne (d ∙ by))) refl
  dirty_left (Map_write k) by = rw (ne_eqb q k (λ d. ne (d ∙ by))) refl
  dirty_left Finish by = rw (ne_eqb q (worker f.page.work) (λ d. ne (d ∙ by))) refl
  dirty_left e by = dirty_kept home first f e refl q

-- processor u stands at w and holds o, and the events are made by another one, p, that holds t
module _ (h n g i : ℕ) (u : Who) (w : Work) (o : Own) (p : ℕ) (t : Option TurnId) (ne : u.p ≢ p) (n_in : n < u.lay.nodes) (g_in : g < u.lay.pages) (apart : (x : TurnId) → IsWithin u.lay (turn_item x) → turn_at u w ≡ Some x → t ≢ Some x) where
  abbrev home : Bool
  home = n == h

  abbrev first : ℕ
  first = n * u.lay.procs

  abbrev top : ℕ
  top = n * u.lay.procs + u.lay.procs

  -- the other one's event is not made under the turn that this one holds
  needs_not : (f : State) (e : Event) → Made n g p t f e → turn_at u w ≡ Some (Page n g) → need n g e ≢ Some (Page n g)
  needs_not f e made at d = go made.1
    where
      none_some : None ≡ Some (Page n g) → ⊥
      none_some z = absurd (cc z)

      go : (need n g e ≡ None) ⊎ (need n g e ≡ t) → ⊥
      go (inl z) = none_some (sym z ∙ d)
      go (inr z) = apart (Page n g) (n_in, g_in) at (sym z ∙ d)

  -- under one event, and under each of a list, newest first
  other_one : (f : State) (e : Event) → Made n g p t f e → Knows h n g i u f w o → Knows h n g i u (after_event home first f e) w o
  other_one f e made k =
      record {
        works = λ d. at_work w (k.works d) (needs_not f e made d);
        stage = λ d lives. stage_left home first f p u.p ne e made.0 ∙ k.stage d lives;
        dirty = λ d lives. dirty_left home first f p u.p ne e made.0 ∙ k.dirty d lives;
        walked = k.walked;
        released = k.released;
      }
    where
      alike : need n g e ≢ Some (Page n g) → Alike u.p f (after_event home first f e)
      alike free =
          let same = page_left n g home first f.page e free in
          record {
            work = ap (λ z. z.work) same;
            sole = ap (λ z. z.sole) same;
            flush = ap (λ z. z.flush) same;
            twin = ap (λ z. z.twin) same;
            stage = stage_left home first f p u.p ne e made.0;
            writes = writes_left n g home first f e free u.p;
          }

      at_work : (w : Work) → AtStage (λ s. WorksAt home first top i u.p s f) g w → need n g e ≢ Some (Page n g) → AtStage (λ s. WorksAt home first top i u.p s (after_event home first f e)) g w
      at_work (On r k s) y free = λ d. works_alike home first top i u.p f (after_event home first f e) (alike free) s (y d)
      at_work (Off r) y free = tt
      at_work Gone y free = tt

  pub others_stay : (f : State) (es : List Event) → AllMade n g home first p t f es → Knows h n g i u f w o → Knows h n g i u (after home first f es) w o
  others_stay f [] made k = k
  others_stay f (e ∷ older) made k = other_one (after home first f older) e made.0 (others_stay f older made.1 k)
