-- What each row of the table is to give, and what all rows need for it.
use Rattle.std.proofs.Common.{◌≡◌, ◌≢◌, ◌⊎◌, inl, inr, ℕ, zero, suc, ◌+◌, ◌*◌, ◌^◌, ◌<◌, ◌≤◌, ◌==◌, Bool, true, false, List, [], ◌∷◌, length, Option, None, Some, refl, sym, ap, ◌∙◌, subst, arith, mod-eq_of_lt, if◌then◌else◌}
use Rattle.std.specs.Prelude.{IfSome, ◌&&◌, ◌||◌, slice_index, ◌%◌, nat_le}
use Rattle.std.proofs.Math.Nat.{div-eq_of_lt-le, div-mul-le_self, lt-div-mul-add}
use Rattle.std.proofs.lemmas.Bool.{eq-eqb, ne_eqb, eqb-true}
use Rattle.dsm_words.specs.declared.item.Item.{Item}
use Rattle.dsm_words.specs.declared.item.Item.TheVariants.{Map, Dir, Clock, Turn, Home}
use Rattle.dsm_words.specs.Place.{IsWithin}
use Rattle.dsm_words.specs.Pages.{group_of, has_page}
use Rattle.dsm_words.specs.Script.{Act, Get, Change, Add, item_of}
use Rattle.dsm_words.specs.Words.{word, done}
use Rattle.dsm_clock.specs.declared.turns.TurnId.{TurnId}
use Rattle.dsm_clock.specs.declared.turns.TurnId.TheVariants.{Page}
use Rattle.dsm_clock.specs.Turns.{turn_item}
use Rattle.dsm_protocol.specs.Own.{Own, node_of, is_dirty}
use Rattle.dsm_protocol.specs.Jobs.{Note, own_after}
use Rattle.dsm_protocol.specs.Stages.{For_release, For_closing, Stage, Mapped, Seeking, Missing, Released, Checking, Drawing, Timed, Flushing, Stamping, Stamped, Posting, Posted, Telling, Lowering, Dropping, Untwining, Unlisting, Done, Round, Collecting, Releasing, Cleaning, Work, Off, On, Gone, stage_turn, turn_at}
use Rattle.dsm_protocol.specs.Rows.{Step, Wins, Slip, Noted}
use Rattle.dsm_owners.specs.Stages as O
use Rattle.dsm_owners.proofs.Facts.{AtTurn}
use Rattle.dsm_ties.specs.Views.{stage_view, view}
use Rattle.dsm_ties.specs.Tied.{Knows as Owns, bit}
use Rattle.dsm_ties.proofs.Frame.{Answers}
use Rattle.dsm_debts.specs.Page as D
use Rattle.dsm_debts.specs.Page.{Event, Tick, State, after_event, after}
use Rattle.dsm_debts.specs.Premises.{May, Runs, IsOf}
use Rattle.dsm_freshness.proofs.Frame.{Fits, both, and_true, not_true, true_or_false}
use Rattle.dsm_releases.specs.Views.{WorksAt, release_view, dirty_view, walk_in, released_in, soils}
use Rattle.dsm_releases.specs.Events.{only, step_events, slip_events, note_events}
use Rattle.dsm_releases.specs.Tied.{Match, Knows}
use Rattle.dsm_releases.proofs.Words.{Scene, node, home, first, top, IsPart, Free, says, says_same, untouched, loaded, match_one, keeps_stage, keeps_dirty, stage_kept, dirty_kept}

abbrev pub IsReleasing : Round → Type 0
IsReleasing (Releasing t0 k) = Unit {0}
IsReleasing r = ⊥

-- a stage of a release is in a release
abbrev pub release_fits : Stage → Round → Type 0
release_fits (Mapped k s) r = release_fits s r
release_fits (Seeking For_release) r = IsReleasing r
release_fits (Missing For_release) r = IsReleasing r
release_fits Released r = IsReleasing r
release_fits (Checking h) r = IsReleasing r
release_fits (Drawing h) r = IsReleasing r
release_fits (Timed h t) r = IsReleasing r
release_fits (Flushing h t k part) r = IsReleasing r
release_fits (Stamping h t flushed) r = IsReleasing r
release_fits (Stamped h flushed) r = IsReleasing r
release_fits (Posting h flushed j) r = IsReleasing r
release_fits (Posted h flushed) r = IsReleasing r
release_fits (Telling h flushed j) r = IsReleasing r
release_fits (Lowering flushed) r = IsReleasing r
release_fits (Dropping q unwritten free) r = IsReleasing r
release_fits (Untwining free) r = IsReleasing r
release_fits Unlisting r = IsReleasing r
release_fits Done r = IsReleasing r
release_fits s r = Unit {0}

-- so each place fits, and a set that a release takes has room for each group
abbrev pub FitsRelease : Work → Type 0
FitsRelease (On r h s) = release_fits s r
FitsRelease (Off (Collecting t0 k set)) = length set ≡ 4
FitsRelease w = Unit {0}

-- it is seen alike at each stage of a page of a round
pub release_same : (g : ℕ) (r : Round) (h : ℕ) (s t : Stage) → release_view g (On r h s) ≡ release_view g (On r h t)
release_same g (Releasing t0 k) h s t = refl
release_same g r h s t = refl

pub walk_same : (pages : ℕ) (r : Round) (h : ℕ) (s t : Stage) → walk_in pages (On r h s) ≡ walk_in pages (On r h t)
walk_same pages (Releasing t0 k) h s t = refl
walk_same pages r h s t = refl

pub released_same : (r : Round) (h : ℕ) (s t : Stage) → released_in (On r h s) ≡ released_in (On r h t)
released_same (Releasing t0 k) h s t = refl
released_same r h s t = refl

-- in a release its time is its round's
pub releasing_at : (g : ℕ) (r : Round) (h : ℕ) (s : Stage) → IsReleasing r → (t : ℕ) × (release_view g (On r h s) ≡ D.Releasing t)
releasing_at g (Releasing t0 k) h s i = (t0, refl)
releasing_at g r h s i = absurd i

-- and the page is dirty
pub dirty_at : (g : ℕ) (r : Round) (h : ℕ) (s : Stage) (o : Own) → IsReleasing r → h ≡ g → IfSome (released_in (On r h s)) (λ k. k ≡ g → is_dirty o g ≡ true) → is_dirty o g ≡ true
dirty_at g (Releasing t0 k) h s o i d k' = k' d
dirty_at g r h s o i d k' = absurd i

pub page_is : {j h k g : ℕ} → Some (Page j h) ≡ Some (Page k g) → (j ≡ k) × (h ≡ g)
page_is {j} {h} {k} {g} e = (ap node_in e, ap page_in e)
  where
    node_in : Option TurnId → ℕ
    node_in (Some (Page a b)) = a
    node_in t = 0

    page_in : Option TurnId → ℕ
    page_in (Some (Page a b)) = b
    page_in t = 0

pub suc_zero : {A : Type 0} {x k : ℕ} → x ≡ suc k → x ≡ 0 → A
suc_zero e z = absurd (omega (arith, e, z))

-- the dirty set alone says what is seen of it
pub view_own : (g : ℕ) (w : Work) (o o' : Own) → is_dirty o g ≡ is_dirty o' g → dirty_view g w o ≡ dirty_view g w o'
view_own g (Off (Collecting t0 k set)) o o' e = ap (λ z. if nat_le k (group_of g) then z else (z || has_page set g)) e
view_own g (Off (Cleaning t0 h)) o o' e = ap (λ z. if h == g then false else z) e
view_own g (On r h s) o o' e = ap (λ z. (h == g && soils s) || z) e
view_own g w o o' e = e

-- a page that is not to be soiled is seen dirty where it is in the set
pub none_soiled : (b d : Bool) → ((b && false) || d) ≡ d
none_soiled true d = refl
none_soiled false d = refl

module _ (c : Scene) where
  abbrev pub Now : Work → Own → Type 0
  Now w o = Knows c.h c.n c.g c.i c.u c.f w o

  -- what the directory says of it
  abbrev pub OwnsNow : Work → Own → Type 0
  OwnsNow w o = Owns c.u c.g c.b.home (c.b.nodes (node_of c.u)) (c.b.processors c.u.p) w o

  -- what is so of the work on the copy where it holds its turn at this stage
  abbrev pub WorksHere : Stage → State → Type 0
  WorksHere s f = WorksAt (home c) (first c) (top c) c.i c.u.p s f

  abbrev pub Words : List ℕ → State → Type 0
  Words ws f = Match c.h c.n c.g c.i c.u ws f

  -- the state behind an event
  abbrev pub behind : Event → State
  behind e = after_event (home c) (first c) c.f e

  -- what is to be shown: the premises of the events, and that what they lead to is so
  pub record Acted (v : Work) (o' : Own) (ws' : List ℕ) (es : List Event) : Type 0 where
    pub runs : Runs (home c) (first c) (top c) c.f es
    pub match : Words ws' (after (home c) (first c) c.f es)
    pub knows : Knows c.h c.n c.g c.i c.u (after (home c) (first c) c.f es) v o'

  -- what is so where it stands; it knows of each page
  pub record Here (w : Work) (o : Own) : Type 0 where
    pub owns : OwnsNow w o
    pub fits : Fits w
    pub releasing : FitsRelease w
    pub maps_in : c.u.lay.pages ≤ length o.maps
    pub dirty_in : c.u.lay.pages ≤ length o.dirty
    pub knows : Now w o

  -- and at an operation with its answer
  pub record Meets (w : Work) (o : Own) (a : Act) (x : ℕ) : Type 0 where
    pub here : Here w o
    pub within : IsWithin c.u.lay (item_of a)
    pub told : Answers a x (word c.u.lay c.ws (item_of a))
    pub own : word c.u.lay c.ws (Map c.u.p c.g) ≡ slice_index o.maps c.g
    pub clocks : (k : ℕ) → k < c.u.lay.nodes → (word c.u.lay c.ws (Clock k) ≢ 0) × (word c.u.lay c.ws (Clock k) < 2 ^ 37)
    pub turn : (t : TurnId) → IsWithin c.u.lay (turn_item t) → turn_at c.u w ≡ Some t → word c.u.lay c.ws (turn_item t) ≡ suc c.u.p

  -- what each row gives; each turn that is won, each decision, each note
  abbrev pub RowActs : (o : Own) {w v : Work} {a : Act} {x : ℕ} → Step c.u o.maps o.dirty w a x v → Type 0
  RowActs o {w} {v} {a} {x} step = Meets w o a x → Acted v o (done c.u.lay c.ws a) (step_events c.h c.n c.g c.i c.u c.f step)

  abbrev pub WinActs : (o : Own) {w v : Work} {t : TurnId} → Wins c.u o.maps o.dirty w t v → Type 0
  WinActs o {w} {v} {t} win = Meets w o (Change (turn_item t) 0 (c.u.p + 1)) 0 → Acted v o (done c.u.lay c.ws (Change (turn_item t) 0 (c.u.p + 1))) []

  abbrev pub SlipActs : (o : Own) {w v : Work} → Slip c.u o.maps o.dirty w v → Type 0
  SlipActs o {w} {v} slip = word c.u.lay c.ws (Map c.u.p c.g) ≡ slice_index o.maps c.g → Here w o → Acted v o c.ws (slip_events c.h c.n c.g c.i c.u c.f slip)

  abbrev pub NoteActs : (o : Own) {w v : Work} {e : Note} → Noted c.u None w e v → Type 0
  NoteActs o {w} {v} {e} noted = Here w o → Acted v (own_after o e) c.ws (note_events c.h c.n c.g c.i c.u noted)

  -- page h is the page, and node j the node; or it is not so
  abbrev pub IsAt : ℕ → ℕ → Bool
  IsAt k j = k == c.g && j == c.n

  pub at_is : (k j : ℕ) → IsAt k j ≡ true → (k ≡ c.g) × (j ≡ c.n)
  at_is k j e = let z = both e in (eqb-true k c.g z.0, eqb-true j c.n z.1)

  pub is_at : {k j : ℕ} → k ≡ c.g → j ≡ c.n → IsAt k j ≡ true
  is_at {k} {j} d e = and_true (eq-eqb k c.g d) (eq-eqb j c.n e)

  -- an event where its condition is so
  pub only_if : {v : Work} {o' : Own} {ws' : List ℕ} {e : Event} (d : Bool) → (d ≡ true → Acted v o' ws' (e ∷ [])) → (d ≡ false → Acted v o' ws' []) → Acted v o' ws' (only d e)
  only_if true y z = y refl
  only_if false y z = z refl

  -- it is one of the node's
  pub is_of : node_of c.u ≡ c.n → IsOf (home c) (first c) (top c) c.u.p
  is_of e = (subst (λ z. z * c.u.lay.procs ≤ c.u.p) e (div-mul-le_self c.u.p c.u.lay.procs), subst (λ z. c.u.p < z * c.u.lay.procs + c.u.lay.procs) e (lt-div-mul-add (some c.u.lay.procs c.at.p_in)))
    where
      some : (procs : ℕ) → c.u.p < c.u.lay.nodes * procs → 0 < procs
      some zero h = absurd (omega (arith, h))
      some (suc k) h = omega arith

  -- the words are those of the directory's state too
  pub alone_same : (c.b.nodes c.n).dir ≡ 2 → c.f.page.sole ≡ true
  alone_same d = c.match.alone (c.owned.dir c.n c.n_in ∙ d)

  pub not_sole : (c.b.nodes c.n).dir ≤ 1 → c.f.page.sole ≡ false
  not_sole d = not_true (λ e. go (c.match.sole e))
    where
      go : (word c.u.lay c.ws (Dir c.n c.g) ≡ 2) ⊎ (word c.u.lay c.ws (Dir c.n c.g) ≡ 3) → ⊥
      go (inl e) = let z = c.owned.dir c.n c.n_in in absurd (omega (arith, e, z, d))
      go (inr e) = let z = c.owned.dir c.n c.n_in in absurd (omega (arith, e, z, d))

  pub twin_same : c.f.page.twin ≡ (c.b.nodes c.n).twined
  twin_same = go c.f.page.twin (c.b.nodes c.n).twined (sym c.match.twin ∙ c.owned.twined c.n c.n_in)
    where
      go : (x y : Bool) → bit x ≡ bit y → x ≡ y
      go true true e = refl
      go false false e = refl
      go true false e = absurd (omega (arith, e))
      go false true e = absurd (omega (arith, e))

  -- the home that is found is the home of what is owed
  pub home_found : (k : ℕ) → c.b.home ≡ suc k → k ≡ c.h
  home_found k e = go c.is_home
    where
      go : (word c.u.lay c.ws (Home c.g) ≡ 0) ⊎ (word c.u.lay c.ws (Home c.g) ≡ suc c.h) → k ≡ c.h
      go (inl z) = let y = c.owned.home in absurd (omega (arith, z, y, e))
      go (inr z) = let y = c.owned.home in omega (arith, z, y, e)

  -- another node than the home is not the one of the directory
  pub home_away : home c ≡ false → c.b.home ≢ suc c.n
  home_away a e = absurd (cc (sym (eq-eqb c.n c.h (home_found c.n e)) ∙ a))

  -- and where the node is registered, the home is its own where it is that of what is owed
  pub home_is : (c.b.nodes c.n).dir ≢ 0 → home c ≡ true → c.b.home ≡ suc c.n
  home_is ne y = go c.is_home
    where
      go : (word c.u.lay c.ws (Home c.g) ≡ 0) ⊎ (word c.u.lay c.ws (Home c.g) ≡ suc c.h) → c.b.home ≡ suc c.n
      go (inl z) = absurd (ne ((c.holds.good c.n).homeless (sym c.owned.home ∙ z)).0)
      go (inr z) = sym c.owned.home ∙ z ∙ ap suc (sym (eqb-true c.n c.h y))

  pub is_away : (c.b.nodes c.n).dir ≢ 0 → c.b.home ≢ suc c.n → home c ≡ false
  is_away ne away = not_true (λ y. away (home_is ne y))

  -- the processors between the node's bounds are the node's, and those of other nodes have no write mapping of it
  pub at_node : (q : ℕ) → first c ≤ q → q < top c → node c q ≡ c.n
  at_node q lo hi = div-eq_of_lt-le c.u.lay.procs lo (let e = one_more c.n c.u.lay.procs in omega (arith, e, hi))
    where
      one_more : (a b : ℕ) → (a + 1) * b ≡ a * b + b
      one_more a b = grind arith

  pub no_mapping : (q : ℕ) → node c q ≢ c.n → (c.f.processors q).writes ≡ false
  no_mapping q ne = not_true (λ e. let of = (c.lawful.each q).maps.of_node e in ne (at_node q of.0 of.1))

  -- the directory's stage of it
  pub stage_is : {r : Round} {k : ℕ} {s : Stage} {o : Own} → OwnsNow (On r k s) o → k ≡ c.g → (c.b.processors c.u.p).stage ≡ stage_view c.u s
  stage_is {r} {k} {s} w d = w.at ∙ same
    where
      same : view c.u c.g (On r k s) ≡ stage_view c.u s
      same = rw (eq-eqb k c.g d) refl

  -- what the directory says of node j, whose turn it holds
  pub at_turn : (z : O.Stage) (j : ℕ) → (c.b.processors c.u.p).stage ≡ z → O.held (node_of c.u) z ≡ suc j → AtTurn c.u.lay.nodes c.b.home (node_of c.u) j (c.b.nodes j) z
  at_turn z j e h = let f = c.holds.fits j c.u.p in subst (λ z. AtTurn c.u.lay.nodes c.b.home (node_of c.u) j (c.b.nodes j) z) e (f.at_turn (f.turn_is (ap (O.held (node_of c.u)) e ∙ h)))

  -- what it says of the node
  pub turn_says : {r : Round} {k : ℕ} {s : Stage} {o : Own} (j : ℕ) → OwnsNow (On r k s) o → k ≡ c.g → j ≡ c.n → O.held (node_of c.u) (stage_view c.u s) ≡ suc j → AtTurn c.u.lay.nodes c.b.home (node_of c.u) c.n (c.b.nodes c.n) (stage_view c.u s)
  turn_says {s = s} j w d e h = at_turn (stage_view c.u s) c.n (stage_is w d) (h ∙ ap suc e)

  -- the dirty set is seen alike at stage t of its page
  pub dirty_on : {r : Round} {k : ℕ} {s : Stage} {o : Own} (t : Stage) → Now (On r k s) o → soils t ≡ soils s → node_of c.u ≡ c.n → (c.f.processors c.u.p).dirty ≡ dirty_view c.g (On r k t) o
  dirty_on {r} {k} {s} {o} t w so e = w.dirty e (λ d. absurd (cc d)) ∙ ap (λ z. (k == c.g && z) || is_dirty o c.g) (sym so)

  -- or it is another page
  pub dirty_off : {r : Round} {k : ℕ} {s : Stage} {o : Own} (t : Stage) → Now (On r k s) o → k ≢ c.g → node_of c.u ≡ c.n → (c.f.processors c.u.p).dirty ≡ dirty_view c.g (On r k t) o
  dirty_off {r} {k} {s} {o} t w ne e = w.dirty e (λ d. absurd (cc d)) ∙ (rw (ne_eqb k c.g ne) refl)

  -- what is so of the work at the page, whose turn it holds at the node
  pub works_here : {r : Round} {k : ℕ} {s : Stage} {o : Own} (j : ℕ) → Now (On r k s) o → stage_turn c.u k s ≡ Some (Page j k) → k ≡ c.g → j ≡ c.n → WorksHere s c.f
  works_here j w ts d e = w.works (ts ∙ ap Some (λ i. Page (e i) (d i))) d

  -- on a page, behind events that leave where it stands in its release, and its dirty set
  module _ {r : Round} {k : ℕ} {s t : Stage} {o : Own} where
    pub next_on : (f' : State) → Now (On r k s) o → (stage_turn c.u k t ≡ Some (Page c.n c.g) → k ≡ c.g → WorksHere t f') → (f'.processors c.u.p).stage ≡ (c.f.processors c.u.p).stage → (node_of c.u ≡ c.n → (f'.processors c.u.p).dirty ≡ dirty_view c.g (On r k t) o) → Knows c.h c.n c.g c.i c.u f' (On r k t) o
    next_on f' w wo st di =
        record {
          works = λ tu d. wo tu d;
          stage = λ e _. st ∙ w.stage e (λ d. absurd (cc d)) ∙ release_same c.g r k s t;
          dirty = λ e _. di e;
          walked = subst (λ z. IfSome z (λ y. c.g < y → is_dirty o c.g ≡ false)) (walk_same c.u.lay.pages r k s t) w.walked;
          released = subst (λ z. IfSome z (λ y. y ≡ c.g → is_dirty o c.g ≡ true)) (released_same r k s t) w.released;
        }

    -- with no event
    pub quiet_on : Now (On r k s) o → (stage_turn c.u k t ≡ Some (Page c.n c.g) → stage_turn c.u k s ≡ Some (Page c.n c.g)) → (k ≡ c.g → stage_turn c.u k s ≡ Some (Page c.n c.g) → WorksHere s c.f → WorksHere t c.f) → soils t ≡ soils s → Now (On r k t) o
    quiet_on w tu wo so = next_on c.f w (λ d e. wo e (tu d) (w.works (tu d) e)) refl (dirty_on t w so)

    -- or it is another page, or not the node's
    pub elsewhere_on : (j : ℕ) → (k ≡ c.g → j ≡ c.n → ⊥) → Now (On r k s) o → stage_turn c.u k t ≡ Some (Page j k) → (node_of c.u ≡ c.n → (c.f.processors c.u.p).dirty ≡ dirty_view c.g (On r k t) o) → Now (On r k t) o
    elsewhere_on j off w tu di = next_on c.f w (λ d e. absurd (off e (page_is (sym tu ∙ d)).0)) refl di

    -- rows with no event
    pub quiet_row : {a : Act} {x : ℕ} → Meets (On r k s) o a x → Words (done c.u.lay c.ws a) c.f → (stage_turn c.u k t ≡ Some (Page c.n c.g) → stage_turn c.u k s ≡ Some (Page c.n c.g)) → (k ≡ c.g → stage_turn c.u k s ≡ Some (Page c.n c.g) → WorksHere s c.f → WorksHere t c.f) → soils t ≡ soils s → Acted (On r k t) o (done c.u.lay c.ws a) []
    quiet_row f m tu wo so = record { runs = tt; match = m; knows = quiet_on f.here.knows tu wo so }

    pub loads : {it : Item} {x : ℕ} → Meets (On r k s) o (Get it) x → (stage_turn c.u k t ≡ Some (Page c.n c.g) → stage_turn c.u k s ≡ Some (Page c.n c.g)) → (k ≡ c.g → stage_turn c.u k s ≡ Some (Page c.n c.g) → WorksHere s c.f → WorksHere t c.f) → soils t ≡ soils s → Acted (On r k t) o (done c.u.lay c.ws (Get it)) []
    loads {it = it} f tu wo so = quiet_row f (loaded c it f.within) tu wo so

    pub stores : {a : Act} {x : ℕ} → Meets (On r k s) o a x → (IsPart c (item_of a) → ⊥) → (stage_turn c.u k t ≡ Some (Page c.n c.g) → stage_turn c.u k s ≡ Some (Page c.n c.g)) → (k ≡ c.g → stage_turn c.u k s ≡ Some (Page c.n c.g) → WorksHere s c.f → WorksHere t c.f) → soils t ≡ soils s → Acted (On r k t) o (done c.u.lay c.ws a) []
    stores {a = a} f off tu wo so = quiet_row f (untouched c a f.within off) tu wo so

    -- a decision, or a note that leaves what it holds
    pub stays : Now (On r k s) o → (stage_turn c.u k t ≡ Some (Page c.n c.g) → stage_turn c.u k s ≡ Some (Page c.n c.g)) → (k ≡ c.g → stage_turn c.u k s ≡ Some (Page c.n c.g) → WorksHere s c.f → WorksHere t c.f) → soils t ≡ soils s → Acted (On r k t) o c.ws []
    stays w tu wo so = record { runs = tt; match = c.match; knows = quiet_on w tu wo so }

  -- an event on the page at the node, which leads to stage t
  pub record Under (t : Stage) (ws' : List ℕ) (e : Event) : Type 0 where
    pub may : May (home c) (first c) (top c) c.f e
    pub works : WorksHere t (behind e)
    pub match : Words ws' (behind e)

  -- its word says that it holds the turn, so that nothing is asked of a free one
  pub held : {r : Round} {k : ℕ} {s : Stage} {o : Own} {a : Act} {x : ℕ} (j : ℕ) → Meets (On r k s) o a x → stage_turn c.u k s ≡ Some (Page j k) → k ≡ c.g → j ≡ c.n → (f' : State) → Free c f' (word c.u.lay c.ws (Turn c.n c.g))
  held j f ts d e f' = suc_zero (f.turn (Page c.n c.g) (c.n_in, c.g_in) (ts ∙ ap Some (λ i. Page (e i) (d i))))

  -- who is at work holds it too
  pub busy : {w : D.Work} → c.f.page.work ≡ w → (w ≡ D.Idle → ⊥) → (f' : State) → Free c f' (word c.u.lay c.ws (Turn c.n c.g))
  busy e ne f' z = absurd (ne (sym e ∙ c.match.idle z))

  module _ {r : Round} {k : ℕ} {s t : Stage} {o : Own} {ws' : List ℕ} where
    -- an event that leaves where it stands in its release, and its dirty set
    pub event_on : (e : Event) → Now (On r k s) o → keeps_stage e ≡ true → keeps_dirty e ≡ true → soils t ≡ soils s → Under t ws' e → Acted (On r k t) o ws' (e ∷ [])
    event_on e w st di so z =
        record {
          runs = (z.may, tt);
          match = z.match;
          knows = next_on {r = r} {k = k} {s = s} {t = t} (behind e) w (λ _ _. z.works) (stage_kept (home c) (first c) c.f e st c.u.p) (λ i. dirty_kept (home c) (first c) c.f e di c.u.p ∙ dirty_on t w so i);
        }

  -- A row on page k, whose turn at node j it holds before it and behind, with an event where both are those of what is owed and `extra` is so.
  module _ {r : Round} {k : ℕ} {s t : Stage} {o : Own} {a : Act} {x : ℕ} (j : ℕ) where
    pub turn_row : (extra : Bool) (e : Event) → Meets (On r k s) o a x → stage_turn c.u k s ≡ Some (Page j k) → stage_turn c.u k t ≡ Some (Page j k) → keeps_stage e ≡ true → keeps_dirty e ≡ true → soils t ≡ soils s
        → ((k ≡ c.g → j ≡ c.n → extra ≡ true → ⊥) → Words (done c.u.lay c.ws a) c.f)
        → (k ≡ c.g → j ≡ c.n → extra ≡ false → WorksHere s c.f → WorksHere t c.f)
        → (k ≡ c.g → j ≡ c.n → extra ≡ true → WorksHere s c.f → Under t (done c.u.lay c.ws a) e)
        → Acted (On r k t) o (done c.u.lay c.ws a) (only (IsAt k j && extra) e)
    turn_row extra e f ts tt' st di so kept quiet own = go (true_or_false (IsAt k j)) (true_or_false extra)
      where
        off : (IsAt k j && extra) ≡ false → Acted (On r k t) o (done c.u.lay c.ws a) [] → Acted (On r k t) o (done c.u.lay c.ws a) (only (IsAt k j && extra) e)
        off d y = subst (λ z. Acted (On r k t) o (done c.u.lay c.ws a) (only z e)) (sym d) y

        go : (IsAt k j ≡ true) ⊎ (IsAt k j ≡ false) → (extra ≡ true) ⊎ (extra ≡ false) → Acted (On r k t) o (done c.u.lay c.ws a) (only (IsAt k j && extra) e)
        go (inr d) i = off (ap (λ z. z && extra) d) (record { runs = tt; match = kept (λ y z _. absurd (cc (sym (is_at y z) ∙ d))); knows = elsewhere_on {r = r} {k = k} {s = s} {t = t} j (λ y z. absurd (cc (sym (is_at y z) ∙ d))) f.here.knows tt' (dirty_on t f.here.knows so) })
        go (inl d) (inr i) = let m = at_is k j d in off (ap (λ z. z && extra) d ∙ i) (record { runs = tt; match = kept (λ _ _ y. absurd (cc (sym i ∙ y))); knows = next_on {r = r} {k = k} {s = s} {t = t} c.f f.here.knows (λ _ _. quiet m.0 m.1 i (works_here {r = r} {k = k} {s = s} j f.here.knows ts m.0 m.1)) refl (dirty_on t f.here.knows so) })
        go (inl d) (inl i) = let m = at_is k j d in subst (λ z. Acted (On r k t) o (done c.u.lay c.ws a) (only z e)) (sym (ap (λ z. z && extra) d ∙ i)) (event_on {r = r} {k = k} {s = s} {t = t} e f.here.knows st di so (own m.0 m.1 i (works_here {r = r} {k = k} {s = s} j f.here.knows ts m.0 m.1)))

    -- the same with no further condition
    pub event_row : (e : Event) → Meets (On r k s) o a x → stage_turn c.u k s ≡ Some (Page j k) → stage_turn c.u k t ≡ Some (Page j k) → keeps_stage e ≡ true → keeps_dirty e ≡ true → soils t ≡ soils s
        → ((k ≡ c.g → j ≡ c.n → ⊥) → Words (done c.u.lay c.ws a) c.f)
        → (k ≡ c.g → j ≡ c.n → WorksHere s c.f → Under t (done c.u.lay c.ws a) e)
        → Acted (On r k t) o (done c.u.lay c.ws a) (only (IsAt k j) e)
    event_row e f ts tt' st di so kept own = only_if (IsAt k j)
        (λ d. let m = at_is k j d in event_on {r = r} {k = k} {s = s} {t = t} e f.here.knows st di so (own m.0 m.1 (works_here {r = r} {k = k} {s = s} j f.here.knows ts m.0 m.1)))
        (λ d. let no : k ≡ c.g → j ≡ c.n → ⊥ = λ y z. absurd (cc (sym (is_at y z) ∙ d)) in record { runs = tt; match = kept no; knows = elsewhere_on {r = r} {k = k} {s = s} {t = t} j no f.here.knows tt' (dirty_on t f.here.knows so) })

  -- a decision or note of a page with such an event
  module _ {r : Round} {k : ℕ} {s t : Stage} {o : Own} (j : ℕ) where
    pub event_slip : (extra : Bool) (e : Event) → Now (On r k s) o → stage_turn c.u k s ≡ Some (Page j k) → stage_turn c.u k t ≡ Some (Page j k) → keeps_stage e ≡ true → keeps_dirty e ≡ true → soils t ≡ soils s
        → (k ≡ c.g → j ≡ c.n → extra ≡ false → WorksHere s c.f → WorksHere t c.f)
        → (k ≡ c.g → j ≡ c.n → extra ≡ true → WorksHere s c.f → Under t c.ws e)
        → Acted (On r k t) o c.ws (only (IsAt k j && extra) e)
    event_slip extra e w ts tt' st di so quiet own = go (true_or_false (IsAt k j)) (true_or_false extra)
      where
        off : (IsAt k j && extra) ≡ false → Acted (On r k t) o c.ws [] → Acted (On r k t) o c.ws (only (IsAt k j && extra) e)
        off d y = subst (λ z. Acted (On r k t) o c.ws (only z e)) (sym d) y

        go : (IsAt k j ≡ true) ⊎ (IsAt k j ≡ false) → (extra ≡ true) ⊎ (extra ≡ false) → Acted (On r k t) o c.ws (only (IsAt k j && extra) e)
        go (inr d) i = off (ap (λ z. z && extra) d) (record { runs = tt; match = c.match; knows = elsewhere_on {r = r} {k = k} {s = s} {t = t} j (λ y z. absurd (cc (sym (is_at y z) ∙ d))) w tt' (dirty_on t w so) })
        go (inl d) (inr i) = let m = at_is k j d in off (ap (λ z. z && extra) d ∙ i) (record { runs = tt; match = c.match; knows = next_on {r = r} {k = k} {s = s} {t = t} c.f w (λ _ _. quiet m.0 m.1 i (works_here {r = r} {k = k} {s = s} j w ts m.0 m.1)) refl (dirty_on t w so) })
        go (inl d) (inl i) = let m = at_is k j d in subst (λ z. Acted (On r k t) o c.ws (only z e)) (sym (ap (λ z. z && extra) d ∙ i)) (event_on {r = r} {k = k} {s = s} {t = t} e w st di so (own m.0 m.1 i (works_here {r = r} {k = k} {s = s} j w ts m.0 m.1)))

    pub event_note : (e : Event) → Now (On r k s) o → stage_turn c.u k s ≡ Some (Page j k) → stage_turn c.u k t ≡ Some (Page j k) → keeps_stage e ≡ true → keeps_dirty e ≡ true → soils t ≡ soils s → (k ≡ c.g → j ≡ c.n → WorksHere s c.f → Under t c.ws e) → Acted (On r k t) o c.ws (only (IsAt k j) e)
    event_note e w ts tt' st di so own = only_if (IsAt k j)
        (λ d. let m = at_is k j d in event_on {r = r} {k = k} {s = s} {t = t} e w st di so (own m.0 m.1 (works_here {r = r} {k = k} {s = s} j w ts m.0 m.1)))
        (λ d. record { runs = tt; match = c.match; knows = elsewhere_on {r = r} {k = k} {s = s} {t = t} j (λ y z. absurd (cc (sym (is_at y z) ∙ d))) w tt' (dirty_on t w so) })

  -- on no page
  module _ {r : Round} {o : Own} where
    pub off_knows : (f' : State) → (node_of c.u ≡ c.n → (f'.processors c.u.p).stage ≡ release_view c.g (Off r)) → (node_of c.u ≡ c.n → (f'.processors c.u.p).dirty ≡ dirty_view c.g (Off r) o) → IfSome (walk_in c.u.lay.pages (Off r)) (λ y. c.g < y → is_dirty o c.g ≡ false) → Knows c.h c.n c.g c.i c.u f' (Off r) o
    off_knows f' st di wa = record { works = λ _. tt; stage = λ e _. st e; dirty = λ e _. di e; walked = wa; released = tt }

  -- what it knows of itself where it stands
  pub stage_now : {w : Work} {o : Own} → Now w o → w ≢ Gone → node_of c.u ≡ c.n → (c.f.processors c.u.p).stage ≡ release_view c.g w
  stage_now k lives e = k.stage e lives

  pub dirty_now : {w : Work} {o : Own} → Now w o → w ≢ Gone → node_of c.u ≡ c.n → (c.f.processors c.u.p).dirty ≡ dirty_view c.g w o
  dirty_now k lives e = k.dirty e lives

  -- to a place on no page that is seen alike
  pub off_same : {w : Work} {t : Round} {o : Own} → Now w o → w ≢ Gone → (node_of c.u ≡ c.n → release_view c.g w ≡ release_view c.g (Off t)) → (node_of c.u ≡ c.n → dirty_view c.g w o ≡ dirty_view c.g (Off t) o) → IfSome (walk_in c.u.lay.pages (Off t)) (λ y. c.g < y → is_dirty o c.g ≡ false) → Now (Off t) o
  off_same {t = t} k lives st di wa = off_knows {r = t} c.f (λ e. k.stage e lives ∙ st e) (λ e. k.dirty e lives ∙ di e) wa

  -- with no event: a decision or note, and an operation on none of the words
  pub off_stays : {w : Work} {t : Round} {o : Own} → Now w o → w ≢ Gone → (node_of c.u ≡ c.n → release_view c.g w ≡ release_view c.g (Off t)) → (node_of c.u ≡ c.n → dirty_view c.g w o ≡ dirty_view c.g (Off t) o) → IfSome (walk_in c.u.lay.pages (Off t)) (λ y. c.g < y → is_dirty o c.g ≡ false) → Acted (Off t) o c.ws []
  off_stays {t = t} k lives st di wa = record { runs = tt; match = c.match; knows = off_same {t = t} k lives st di wa }

  pub off_row : {w : Work} {t : Round} {o : Own} {a : Act} {x : ℕ} → Meets w o a x → Words (done c.u.lay c.ws a) c.f → w ≢ Gone → (node_of c.u ≡ c.n → release_view c.g w ≡ release_view c.g (Off t)) → (node_of c.u ≡ c.n → dirty_view c.g w o ≡ dirty_view c.g (Off t) o) → IfSome (walk_in c.u.lay.pages (Off t)) (λ y. c.g < y → is_dirty o c.g ≡ false) → Acted (Off t) o (done c.u.lay c.ws a) []
  off_row {t = t} f m lives st di wa = record { runs = tt; match = m; knows = off_same {t = t} f.here.knows lives st di wa }

  -- it has ended
  pub gone : (f' : State) (o : Own) → Knows c.h c.n c.g c.i c.u f' Gone o
  gone f' o = record { works = λ _. tt; stage = λ _ ne. absurd (ne refl); dirty = λ _ ne. absurd (ne refl); walked = tt; released = tt }

  -- the turn of a page was free, so that nobody works on its copy
  pub won_says : {w : Work} {o : Own} (j k : ℕ) → Meets w o (Change (Turn j k) 0 (c.u.p + 1)) 0 → Words (done c.u.lay c.ws (Change (Turn j k) 0 (c.u.p + 1))) c.f
  won_says j k f = says_same c (Change (Turn j k) 0 (c.u.p + 1)) f.within (λ i _. says c (Turn j k) f.within i (sym f.told))

  pub win_on : {r : Round} {k : ℕ} {s : Stage} {w : Work} {o : Own} (j : ℕ) → Meets w o (Change (Turn j k) 0 (c.u.p + 1)) 0 → w ≢ Gone → stage_turn c.u k s ≡ Some (Page j k) → (k ≡ c.g → j ≡ c.n → c.f.page.work ≡ D.Idle → WorksHere s c.f)
      → (node_of c.u ≡ c.n → release_view c.g w ≡ release_view c.g (On r k s)) → (node_of c.u ≡ c.n → dirty_view c.g w o ≡ dirty_view c.g (On r k s) o)
      → IfSome (walk_in c.u.lay.pages (On r k s)) (λ y. c.g < y → is_dirty o c.g ≡ false) → IfSome (released_in (On r k s)) (λ y. y ≡ c.g → is_dirty o c.g ≡ true) → Acted (On r k s) o (done c.u.lay c.ws (Change (Turn j k) 0 (c.u.p + 1))) []
  win_on {r} {k} {s} {w} j f lives ts wo st di wa re =
      record {
        runs = tt;
        match = won_says j k f;
        knows = record {
          works = λ d e. let z = page_is (sym ts ∙ d) in wo e z.0 (c.match.idle (ap (λ y. word c.u.lay c.ws y) (λ y. Turn (sym z.0 y) (sym z.1 y)) ∙ sym f.told));
          stage = λ e _. f.here.knows.stage e lives ∙ st e;
          dirty = λ e _. f.here.knows.dirty e lives ∙ di e;
          walked = wa;
          released = re;
        };
      }

  -- one of two stages
  pub pick : {r : Round} {k : ℕ} {s t : Stage} {o : Own} {ws' : List ℕ} {es : List Event} (d : Bool) → Acted (On r k s) o ws' es → Acted (On r k t) o ws' es → Acted (On r k (if d then s else t)) o ws' es
  pick true y z = y
  pick false y z = z

  -- where a note leaves the dirty set
  pub same_own : {w : Work} {o o' : Own} (f' : State) → is_dirty o c.g ≡ is_dirty o' c.g → Knows c.h c.n c.g c.i c.u f' w o → Knows c.h c.n c.g c.i c.u f' w o'
  same_own {w} {o} {o'} f' e k =
      record {
        works = k.works;
        stage = k.stage;
        dirty = λ i lives. k.dirty i lives ∙ view_own c.g w o o' e;
        walked = subst (λ z. IfSome (walk_in c.u.lay.pages w) (λ y. c.g < y → z ≡ false)) e k.walked;
        released = subst (λ z. IfSome (released_in w) (λ y. y ≡ c.g → z ≡ true)) e k.released;
      }

  pub noted : {w : Work} {o o' : Own} {ws' : List ℕ} {es : List Event} → is_dirty o c.g ≡ is_dirty o' c.g → Acted w o ws' es → Acted w o' ws' es
  noted {es = es} e a = record { runs = a.runs; match = a.match; knows = same_own (after (home c) (first c) c.f es) e a.knows }

  -- a time of the node's clock, which is drawn for nothing of the page
  pub clock_next : {w : Work} {o : Own} {x : ℕ} (k : ℕ) → k ≡ c.n → Meets w o (Add (Clock k) 1) x → (word c.u.lay c.ws (Clock k) + 1) % 2 ^ 64 ≡ suc c.f.page.clock
  clock_next k e f = let z : word c.u.lay c.ws (Clock k) ≡ c.f.page.clock = ap (λ y. word c.u.lay c.ws (Clock y)) e ∙ c.match.clock in mod-eq_of_lt (omega (arith, (f.clocks k f.within).1)) ∙ omega (arith, z)

  -- the time that it has drawn
  pub time_is : {w : Work} {o : Own} {x : ℕ} (k : ℕ) → k ≡ c.n → Meets w o (Add (Clock k) 1) x → x ≡ c.f.page.clock
  time_is k e f = f.told ∙ ap (λ y. word c.u.lay c.ws (Clock y)) e ∙ c.match.clock

  tick_works : (s : Stage) → WorksHere s c.f → WorksHere s (behind Tick)
  tick_works (Mapped k s) w = tick_works s w
  tick_works (Seeking (For_closing j)) w = w
  tick_works (Missing (For_closing j)) w = w
  tick_works (Stamping h t true) w = w
  tick_works (Stamping h t false) w = w
  tick_works s w = w

  pub tick_knows : (w : Work) {o : Own} → Now w o → Knows c.h c.n c.g c.i c.u (behind Tick) w o
  tick_knows (On r k s) n = record { works = λ tu d. tick_works s (n.works tu d); stage = n.stage; dirty = n.dirty; walked = n.walked; released = n.released }
  tick_knows (Off r) n = record { works = λ _. tt; stage = n.stage; dirty = n.dirty; walked = n.walked; released = n.released }
  tick_knows Gone n = gone (behind Tick) _

  pub ticks : {w v : Work} {o : Own} {x : ℕ} → Meets w o (Add (Clock (node_of c.u)) 1) x → node_of c.u ≡ c.n → Now v o → Acted v o (done c.u.lay c.ws (Add (Clock (node_of c.u)) 1)) (Tick ∷ [])
  ticks {v = v} f e n = record { runs = (tt, tt); match = match_one c Tick (λ z. c.match.idle z) (Add (Clock (node_of c.u)) 1) f.within e refl tt (clock_next (node_of c.u) e f); knows = tick_knows v n }

  pub any_clock : {w v : Work} {o : Own} {x : ℕ} → Meets w o (Add (Clock (node_of c.u)) 1) x → Now v o → Acted v o (done c.u.lay c.ws (Add (Clock (node_of c.u)) 1)) (only (node_of c.u == c.n) Tick)
  any_clock f n = only_if (node_of c.u == c.n) (λ d. ticks f (eqb-true (node_of c.u) c.n d) n) (λ off. record { runs = tt; match = untouched c (Add (Clock (node_of c.u)) 1) f.within (λ e. absurd (cc (sym (eq-eqb (node_of c.u) c.n e) ∙ off))); knows = n })
