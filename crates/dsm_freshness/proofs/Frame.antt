-- What each row of the table is to give, and what all rows need for it.
use Rattle.std.proofs.Common.{◌≡◌, ◌≢◌, ◌⊎◌, inl, inr, ℕ, zero, suc, ◌+◌, ◌*◌, ◌%◌, ◌<◌, ◌≤◌, ◌==◌, Bool, true, false, List, [], ◌∷◌, length, Option, None, Some, refl, sym, ap, ◌∙◌, subst, arith, mod-eq_of_lt, if◌then◌else◌}
use Rattle.std.specs.Prelude.{not, IfSome, ◌&&◌, ◌^◌, nat_le, slice_index}
use Rattle.std.proofs.Math.Nat.{div-mul-le_self, lt-div-mul-add}
use Rattle.std.proofs.lemmas.Bool.{eq-eqb, ne_eqb, eqb-true}
use Rattle.dsm_words.specs.declared.item.Item.{Item}
use Rattle.dsm_words.specs.declared.item.Item.TheVariants.{Map, Clock, Turn, NoticeTurn}
use Rattle.dsm_words.specs.Place.{IsWithin, processors}
use Rattle.dsm_words.specs.Pages.{has_page}
use Rattle.dsm_words.specs.Script.{Act, Change, Add, item_of}
use Rattle.dsm_words.specs.Words.{word, done}
use Rattle.dsm_clock.specs.declared.turns.TurnId.{TurnId}
use Rattle.dsm_clock.specs.declared.turns.TurnId.TheVariants.{Page, Notices}
use Rattle.dsm_clock.specs.Turns.{turn_item}
use Rattle.dsm_protocol.specs.Own.{Own, Who, node_of}
use Rattle.dsm_protocol.specs.Jobs.{Note}
use Rattle.dsm_protocol.specs.Stages.{Cause, Fault, Closing, Part, Whole, First, Seeker, For_fault, For_closing, Stage, Mapped, Asked, Seeking, Missing, Clearing, Registering, Sharing, Wanting, Parting, Visiting, Looking, Breaking, Marking, Saving, Ending, Broken, Broadcast, Parted, Back, Testing, Claiming, Claimed, Withdrawing, Entering, Filling, Filled, Entered, Ready, Compared, Fetching, Opened, Copying, Copied, Current, Making, Setting, Soiling, Giving, Dropping, Done, Acquiring, Judging, Judged, Unmapping, Emptying, Emptied, Leaving, Over, Round, Access, Taking, Told, Work, Off, On, Gone, Draining, Holder, round_turn, stage_turn, turn_at}
use Rattle.dsm_protocol.specs.Rows.{Step, Wins, Slip, Noted}
use Rattle.dsm_owners.specs.Stages as O
use Rattle.dsm_owners.proofs.Facts.{AtTurn}
use Rattle.dsm_ties.specs.Views.{stage_view, view, AtStage}
use Rattle.dsm_ties.specs.Tied.{Knows as Owns}
use Rattle.dsm_ties.proofs.Frame.{Answers}
use Rattle.dsm_fresh.specs.Stages as F
use Rattle.dsm_fresh.specs.Stages.{is_worker}
use Rattle.dsm_fresh.specs.Pages.{Event, Draw, Tick, State, happens, after}
use Rattle.dsm_fresh.specs.Premises.{May, Runs, IsOf}
use Rattle.dsm_freshness.specs.Views.{fetch_view, work_view, work_of, hand_of, acquire_view, has_served, stamp_read, is_unseen}
use Rattle.dsm_freshness.specs.Events.{only, step_events, slip_events, note_events}
use Rattle.dsm_freshness.specs.Tied.{Match, Knows, may_load}
use Rattle.dsm_freshness.proofs.Words.{Scene, node, first, top, IsPart, Worker, Drainer, says, match_one, says_same, untouched, stage_kept, is_still}

-- the rounds of a fault, of an acquire's page, and of the closing work
abbrev pub IsAccess : Round → Type 0
IsAccess (Access faulted write a) = Unit {0}
IsAccess r = ⊥

abbrev pub IsTold : Round → Type 0
IsTold (Told set g) = Unit {0}
IsTold r = ⊥

abbrev pub IsHolder : Round → Type 0
IsHolder (Holder g j) = Unit {0}
IsHolder r = ⊥

abbrev pub cause_fits : Cause → Round → Type 0
cause_fits (Fault write h busy) r = IsAccess r
cause_fits Closing r = IsHolder r

abbrev pub seeker_fits : Seeker → Round → Type 0
seeker_fits (For_fault write d) r = IsAccess r
seeker_fits (For_closing j) r = IsHolder r
seeker_fits a r = Unit {0}

-- the stages behind the store of its mapping
abbrev pub IsStored : Stage → Type 0
IsStored (Parting write h busy) = Unit {0}
IsStored Soiling = Unit {0}
IsStored Giving = Unit {0}
IsStored (Dropping q unwritten free) = Unit {0}
IsStored Done = Unit {0}
IsStored (Emptying q free) = Unit {0}
IsStored s = ⊥

-- a stage of a fault is in an access, and one of an acquire in an acquire
abbrev pub stage_fits : Stage → Round → Type 0
stage_fits (Mapped k s) r = IsStored s × stage_fits s r
stage_fits (Asked write) r = IsAccess r
stage_fits (Seeking a) r = seeker_fits a r
stage_fits (Missing a) r = seeker_fits a r
stage_fits (Clearing write h) r = IsAccess r
stage_fits (Registering write h) r = IsAccess r
stage_fits (Sharing write h j row) r = IsAccess r
stage_fits (Wanting write h busy) r = IsAccess r
stage_fits (Parting write h busy) r = IsAccess r
stage_fits (Visiting write h busy i) r = IsAccess r
stage_fits (Looking c j) r = cause_fits c r
stage_fits (Breaking c h j q) r = cause_fits c r
stage_fits (Marking c h j q) r = cause_fits c r
stage_fits (Saving c h j i part) r = cause_fits c r
stage_fits (Ending c j) r = cause_fits c r
stage_fits (Broken c j) r = cause_fits c r
stage_fits (Broadcast c j) r = cause_fits c r
stage_fits (Parted c j) r = cause_fits c r
stage_fits (Back write h) r = IsAccess r
stage_fits (Testing h) r = IsAccess r
stage_fits (Claiming h) r = IsAccess r
stage_fits (Claimed h j row) r = IsAccess r
stage_fits (Withdrawing h) r = IsAccess r
stage_fits (Entering h) r = IsAccess r
stage_fits (Filling h t i part) r = IsAccess r
stage_fits (Filled t) r = IsAccess r
stage_fits Entered r = IsAccess r
stage_fits (Ready write h) r = IsAccess r
stage_fits (Compared write h x) r = IsAccess r
stage_fits (Fetching write h) r = IsAccess r
stage_fits (Opened write h t) r = IsAccess r
stage_fits (Copying write h t twin i part) r = IsAccess r
stage_fits (Copied write h t) r = IsAccess r
stage_fits (Current write h) r = IsAccess r
stage_fits (Making i part) r = IsAccess r
stage_fits (Setting write alone) r = IsAccess r
stage_fits Soiling r = IsAccess r
stage_fits Giving r = IsAccess r
stage_fits Acquiring r = IsTold r
stage_fits Judging r = IsTold r
stage_fits (Judged x) r = IsTold r
stage_fits Unmapping r = IsTold r
stage_fits (Emptying q free) r = IsTold r
stage_fits Emptied r = IsTold r
stage_fits Leaving r = IsTold r
stage_fits Over r = IsTold r
stage_fits s r = Unit {0}

-- so each place fits, and a set that is being taken has room for each group
abbrev pub Fits : Work → Type 0
Fits (On r h s) = stage_fits s r
Fits (Off (Taking k set)) = length set ≡ 4
Fits w = Unit {0}

-- it can't hold a page's turn and the notices'
pub no_notices : (u : Who) (h : ℕ) (s : Stage) (k : ℕ) → stage_turn u h s ≡ Some (Notices k) → ⊥
no_notices u h (Visiting write home busy i) k e = absurd (cc e)
no_notices u h s k e = absurd (cc e)

fetch_mine : (p q : ℕ) (enters : Bool) (e t i : ℕ) (part : Part) → is_worker q (fetch_view p enters e t i part) ≡ true → p ≡ q
fetch_mine p q enters e t i Whole z = go (i == 0) z
  where
    go : (d : Bool) → is_worker q (if d then F.Ready p t else F.Open p enters t e) ≡ true → p ≡ q
    go true z = eqb-true p q z
    go false z = eqb-true p q z
fetch_mine p q enters e t i (First v) z = eqb-true p q z
fetch_mine p q enters e t i part z = eqb-true p q z

-- on no page it holds no page's turn
pub no_page : (u : Who) (r : Round) (j h : ℕ) → round_turn u r ≡ Some (Page j h) → ⊥
no_page u (Draining i k) j h e = absurd (cc e)
no_page u r j h e = absurd (cc e)

-- who works on the copy at a stage is the processor itself
pub view_mine : (s : Stage) (p e q : ℕ) → is_worker q (work_view p e s) ≡ true → p ≡ q
view_mine (Mapped k s) p e q z = view_mine s p e q z
view_mine (Copying write h t twin i part) p e q z = fetch_mine p q false e t i part z
view_mine (Filling h t i part) p e q z = fetch_mine p q true e t i part z
view_mine (Opened write h t) p e q z = eqb-true p q z
view_mine (Copied write h t) p e q z = eqb-true p q z
view_mine (Filled t) p e q z = eqb-true p q z
view_mine Entered p e q z = eqb-true p q z
view_mine (Current write h) p e q z = eqb-true p q z
view_mine (Making i part) p e q z = eqb-true p q z
view_mine (Setting write alone) p e q z = eqb-true p q z
view_mine Soiling p e q z = eqb-true p q z
view_mine Giving p e q z = eqb-true p q z
view_mine s p e q z = absurd (cc z)

-- with nobody at work it is idle
pub idle_of : (w : F.Work) → ((q : ℕ) → is_worker q w ≡ true → ⊥) → w ≡ F.Idle
idle_of F.Idle h = refl
idle_of (F.Ready q t) h = absurd (h q (eq-eqb q q refl))
idle_of (F.Open q a t e) h = absurd (h q (eq-eqb q q refl))
idle_of (F.Copied q a t e) h = absurd (h q (eq-eqb q q refl))
idle_of (F.Entered q) h = absurd (h q (eq-eqb q q refl))
idle_of (F.Fetched q) h = absurd (h q (eq-eqb q q refl))

pub both : {a b : Bool} → (a && b) ≡ true → (a ≡ true) × (b ≡ true)
both {a = true} {b = b} e = (refl, e)
both {a = false} {b = b} e = absurd (cc e)

pub and_true : {a b : Bool} → a ≡ true → b ≡ true → (a && b) ≡ true
and_true {a = true} {b = b} e f = f
and_true {a = false} {b = b} e f = absurd (cc e)

pub not_both : {a b : Bool} → (a ≡ true → b ≡ true → ⊥) → (a && b) ≡ false
not_both {a = true} {b = true} h = absurd (h refl refl)
not_both {a = true} {b = false} h = refl
not_both {a = false} {b = b} h = refl

pub not_true : {a : Bool} → a ≢ true → a ≡ false
not_true {a = true} h = absurd (h refl)
not_true {a = false} h = refl

pub true_or_false : (a : Bool) → (a ≡ true) ⊎ (a ≡ false)
true_or_false true = inl refl
true_or_false false = inr refl

-- in the round of a fault it is in no acquire; and the page of an acquire is seen where it stands
pub at_rest : (m n g : ℕ) (r : Round) (h : ℕ) (s : Stage) → IsAccess r → acquire_view m n g (On r h s) ≡ F.Rest
at_rest m n g (Access faulted write a) h s i = refl
at_rest m n g r h s i = absurd i

pub at_told : (m n g : ℕ) (r : Round) (h : ℕ) (s : Stage) → IsTold r → h ≡ g → acquire_view m n g (On r h s) ≡ F.Taken (is_unseen s)
at_told m n g (Told set k) h s i d = rw (eq-eqb h g d) refl
at_told m n g r h s i d = absurd i

-- its acquire is seen alike at stages of another page, and at stages that are unseen alike
pub acquire_other : (m n g : ℕ) (r : Round) (h : ℕ) (s t : Stage) → h ≢ g → acquire_view m n g (On r h s) ≡ acquire_view m n g (On r h t)
acquire_other m n g (Told set k) h s t ne = rw (ne_eqb h g ne) refl
acquire_other m n g r h s t ne = refl

pub acquire_same : (m n g : ℕ) (r : Round) (h : ℕ) (s t : Stage) → is_unseen s ≡ is_unseen t → acquire_view m n g (On r h s) ≡ acquire_view m n g (On r h t)
acquire_same m n g (Told set k) h s t e = ap (λ z. if h == g then F.Taken z else F.Taken (has_page set g && nat_le k g)) e
acquire_same m n g r h s t e = refl

module _ (c : Scene) where
  abbrev p : ℕ
  p = c.u.p

  abbrev pub n : ℕ
  n = node_of c.u

  abbrev pub Now : Work → Type 0
  Now w = Knows c.m c.n c.g c.u c.f w

  -- what the directory says of it
  abbrev pub OwnsNow : Work → Own → Type 0
  OwnsNow w o = Owns c.u c.g c.b.home (c.b.nodes (node_of c.u)) (c.b.processors c.u.p) w o

  -- what is to be shown: the premises of the events, and that what they lead to is so
  pub record Acted (v : Work) (ws' : List ℕ) (es : List Event) : Type 0 where
    pub runs : Runs (first c) (top c) c.f es
    pub match : Match c.m c.n c.g c.u ws' (after (first c) c.f es)
    pub knows : Knows c.m c.n c.g c.u (after (first c) c.f es) v

  -- what is so where it stands
  pub record Here (w : Work) (o : Own) : Type 0 where
    pub owns : OwnsNow w o
    pub fits : Fits w
    pub knows : Now w

  -- and at an operation with its answer
  pub record Meets (w : Work) (o : Own) (a : Act) (x : ℕ) : Type 0 where
    pub here : Here w o
    pub within : IsWithin c.u.lay (item_of a)
    pub told : Answers a x (word c.u.lay c.ws (item_of a))
    pub own : word c.u.lay c.ws (Map c.u.p c.g) ≡ slice_index o.maps c.g
    pub clocks : (k : ℕ) → k < c.u.lay.nodes → (word c.u.lay c.ws (Clock k) ≢ 0) × (word c.u.lay c.ws (Clock k) < 2 ^ 37)
    pub turn : (t : TurnId) → IsWithin c.u.lay (turn_item t) → turn_at c.u w ≡ Some t → word c.u.lay c.ws (turn_item t) ≡ suc c.u.p

  -- what each row gives; each turn that is won, each decision, each note
  abbrev pub RowActs : (o : Own) {w v : Work} {a : Act} {x : ℕ} → Step c.u o.maps o.dirty w a x v → Type 0
  RowActs o {w} {v} {a} {x} step = Meets w o a x → Acted v (done c.u.lay c.ws a) (step_events c.m c.n c.g c.u step)

  abbrev pub WinActs : (o : Own) {w v : Work} {t : TurnId} → Wins c.u o.maps o.dirty w t v → Type 0
  WinActs o {w} {v} {t} win = Meets w o (Change (turn_item t) 0 (c.u.p + 1)) 0 → Acted v (done c.u.lay c.ws (Change (turn_item t) 0 (c.u.p + 1))) []

  abbrev pub SlipActs : (o : Own) {w v : Work} → Slip c.u o.maps o.dirty w v → Type 0
  SlipActs o {w} {v} slip = word c.u.lay c.ws (Map c.u.p c.g) ≡ slice_index o.maps c.g → Here w o → Acted v c.ws (slip_events c.m c.n c.g c.u slip)

  abbrev pub NoteActs : (o : Own) {w v : Work} {i : Note} → Noted c.u None w i v → Type 0
  NoteActs o {w} {v} {i} noted = Here w o → Acted v c.ws (note_events c.m c.n c.g c.u noted)

  -- an event where its condition is so
  pub only_if : {v : Work} {ws' : List ℕ} {e : Event} (d : Bool) → (d ≡ true → Acted v ws' (e ∷ [])) → (d ≡ false → Acted v ws' []) → Acted v ws' (only d e)
  only_if true y z = y refl
  only_if false y z = z refl

  -- page h is the page, and the node is the processor's; or it is not so
  abbrev pub IsMine : ℕ → Bool
  IsMine h = h == c.g && node_of c.u == c.n

  pub mine : (h : ℕ) → IsMine h ≡ true → (h ≡ c.g) × (node_of c.u ≡ c.n)
  mine h e = let z = both e in (eqb-true h c.g z.0, eqb-true (node_of c.u) c.n z.1)

  pub is_mine : {h : ℕ} → h ≡ c.g → node_of c.u ≡ c.n → IsMine h ≡ true
  is_mine {h} d e = and_true (eq-eqb h c.g d) (eq-eqb (node_of c.u) c.n e)

  -- it is one of the node's
  pub is_of : node_of c.u ≡ c.n → IsOf (first c) (top c) c.u.p
  is_of e = (subst (λ z. z * c.u.lay.procs ≤ c.u.p) e (div-mul-le_self c.u.p c.u.lay.procs), subst (λ z. c.u.p < z * c.u.lay.procs + c.u.lay.procs) e (lt-div-mul-add (some c.u.lay.procs c.at.p_in)))
    where
      some : (procs : ℕ) → c.u.p < c.u.lay.nodes * procs → 0 < procs
      some zero h = absurd (omega (arith, h))
      some (suc k) h = omega arith

  -- the words are those of the directory's state too
  pub dir_same : c.f.page.dir ≡ (c.b.nodes c.n).dir
  dir_same = sym c.match.dir ∙ c.owned.dir c.n c.n_in

  pub update_same : not (c.f.page.update == 0) ≡ (c.b.nodes c.n).update
  update_same = ap (λ z. not (z == 0)) (sym c.match.update) ∙ c.owned.update c.n c.n_in

  pub mapped_same : (q : ℕ) → q < processors c.u.lay → node c q ≡ c.n → (c.f.processors q).mapped ≡ may_load (c.b.processors q).map
  mapped_same q i e = sym (c.match.mapped q i e) ∙ ap may_load (c.owned.map q i)

  -- the home is another node
  pub not_home : (h : ℕ) → c.b.home ≡ suc h → h ≢ c.n
  not_home h e d = c.away (e ∙ ap suc d)

  -- the directory's stage of it
  pub stage_is : {r : Round} {h : ℕ} {s : Stage} {o : Own} → OwnsNow (On r h s) o → h ≡ c.g → (c.b.processors c.u.p).stage ≡ stage_view c.u s
  stage_is {r} {h} {s} k d = k.at ∙ same
    where
      same : view c.u c.g (On r h s) ≡ stage_view c.u s
      same = rw (eq-eqb h c.g d) refl

  -- what the directory says of node j, whose turn it holds
  pub at_turn : (z : O.Stage) (j : ℕ) → (c.b.processors c.u.p).stage ≡ z → O.held (node_of c.u) z ≡ suc j → AtTurn c.u.lay.nodes c.b.home (node_of c.u) j (c.b.nodes j) z
  at_turn z j e h = let f = c.holds.fits j c.u.p in subst (λ z. AtTurn c.u.lay.nodes c.b.home (node_of c.u) j (c.b.nodes j) z) e (f.at_turn (f.turn_is (ap (O.held (node_of c.u)) e ∙ h)))

  pub own_turn : {r : Round} {h : ℕ} {s : Stage} {o : Own} → OwnsNow (On r h s) o → h ≡ c.g → node_of c.u ≡ c.n → O.held (node_of c.u) (stage_view c.u s) ≡ suc (node_of c.u) → AtTurn c.u.lay.nodes c.b.home (node_of c.u) c.n (c.b.nodes c.n) (stage_view c.u s)
  own_turn {s = s} k d e h = at_turn (stage_view c.u s) c.n (stage_is k d) (h ∙ ap suc e)

  -- what it knows stays where what it is about stays
  pub knows_kept : (f' : State) {w : Work} → f'.page.work ≡ c.f.page.work → (f'.processors c.u.p).stage ≡ (c.f.processors c.u.p).stage → f'.page.hand ≡ c.f.page.hand → f'.page.update ≡ c.f.page.update → (c.f.page.served ≡ true → f'.page.served ≡ true) → Now w → Knows c.m c.n c.g c.u f' w
  knows_kept f' {w} wo st ha up se k =
      record { works = λ t. let z = k.works t in (z.0, wo ∙ z.1); stage = λ e ne. st ∙ k.stage e ne; hand = λ e t. let z = k.hand e t in (z.0, ha ∙ z.1); stamp = λ e. go w (k.stamp e); served = λ z. se (k.served z) }
    where
      here : (h : Option ℕ) → IfSome h (λ x. c.f.page.update ≡ x) → IfSome h (λ x. f'.page.update ≡ x)
      here None i = tt
      here (Some x) i = up ∙ i

      go : (w : Work) → AtStage (λ s. IfSome (stamp_read s) (λ x. c.f.page.update ≡ x)) c.g w → AtStage (λ s. IfSome (stamp_read s) (λ x. f'.page.update ≡ x)) c.g w
      go (On r h s) i = λ d. here (stamp_read s) (i d)
      go (Off r) i = tt
      go Gone i = tt

  pub work_at : (k : ℕ) (r : Round) (h : ℕ) (s : Stage) → IsMine h ≡ true → work_of c.m c.n c.g c.u k (On r h s) ≡ work_view c.u.p k s
  work_at k r h s e = ap (λ z. if z then work_view c.u.p k s else F.Idle) e

  pub work_off : (k : ℕ) (r : Round) (h : ℕ) (s : Stage) → IsMine h ≡ false → work_of c.m c.n c.g c.u k (On r h s) ≡ F.Idle
  work_off k r h s e = ap (λ z. if z then work_view c.u.p k s else F.Idle) e

  -- on a page: it is seen alike at both stages
  module _ {r : Round} {h : ℕ} {s t : Stage} where
    pub quiet_on : Now (On r h s) → stage_turn c.u h t ≡ stage_turn c.u h s → ((k : ℕ) → work_view c.u.p k t ≡ work_view c.u.p k s) → is_unseen t ≡ is_unseen s → (has_served c.m c.n c.g c.u (On r h t) ≡ true → has_served c.m c.n c.g c.u (On r h s) ≡ true)
        → (h ≡ c.g → node_of c.u ≡ c.n → IfSome (stamp_read t) (λ x. c.f.page.update ≡ x)) → Now (On r h t)
    quiet_on k tu wo un se st =
        record {
          works = λ d. let z = k.works (sym tu ∙ d) in (z.0, z.1 ∙ ap (λ y. if IsMine h then y else F.Idle) (sym (wo z.0)));
          stage = λ e ne. k.stage e (λ d. absurd (cc d)) ∙ acquire_same c.m c.n c.g r h s t (sym un);
          hand = λ e d. absurd (no_notices c.u h t c.n d);
          stamp = λ e d. st d e;
          served = λ d. k.served (se d);
        }

    -- or it is another page, or not its own node's
    pub elsewhere_on : IsMine h ≡ false → Now (On r h s) → stage_turn c.u h t ≡ stage_turn c.u h s → (has_served c.m c.n c.g c.u (On r h t) ≡ true → has_served c.m c.n c.g c.u (On r h s) ≡ true) → Now (On r h t)
    elsewhere_on off k tu se =
        record {
          works = λ d. let z = k.works (sym tu ∙ d) in (z.0, z.1 ∙ work_off z.0 r h s off ∙ sym (work_off z.0 r h t off));
          stage = λ e ne. k.stage e (λ d. absurd (cc d)) ∙ acquire_other c.m c.n c.g r h s t (λ d. absurd (cc (sym (is_mine d e) ∙ off)));
          hand = λ e d. absurd (no_notices c.u h t c.n d);
          stamp = λ e d. absurd (cc (sym (is_mine d e) ∙ off));
          served = λ d. k.served (se d);
        }

  module _ {r : Round} {h : ℕ} {t : Stage} where
    -- what it knows of a state, at its own node's page
    pub own_knows : (f' : State) → IsMine h ≡ true → (k : ℕ) → f'.page.work ≡ work_view c.u.p k t → (f'.processors c.u.p).stage ≡ acquire_view c.m c.n c.g (On r h t) → IfSome (stamp_read t) (λ x. f'.page.update ≡ x) → has_served c.m c.n c.g c.u (On r h t) ≡ false → Knows c.m c.n c.g c.u f' (On r h t)
    own_knows f' e k wo st sp se = record { works = λ _. (k, wo ∙ sym (work_at k r h t e)); stage = λ _ _. st; hand = λ _ d. absurd (no_notices c.u h t c.n d); stamp = λ _ _. sp; served = λ d. absurd (cc (sym se ∙ d)) }

    -- a processor of the sender's node, on a page whose turn at its own node it holds
    pub sender_knows : (f' : State) → node_of c.u ≡ c.m → stage_turn c.u h t ≡ Some (Page (node_of c.u) h) → (has_served c.m c.n c.g c.u (On r h t) ≡ true → f'.page.served ≡ true) → Knows c.m c.n c.g c.u f' (On r h t)
    sender_knows f' e tu se =
        let off : node_of c.u ≢ c.n = λ d. c.apart (sym e ∙ d) in
        record { works = λ d. absurd (off (other (sym tu ∙ d))); stage = λ d _. absurd (off d); hand = λ d _. absurd (off d); stamp = λ d _. absurd (off d); served = se }
      where
        page_node : TurnId → ℕ
        page_node (Page j i) = j
        page_node (Notices j) = j

        node_in : Option TurnId → ℕ
        node_in (Some x) = page_node x
        node_in None = 0

        other : Some (Page (node_of c.u) h) ≡ Some (Page c.n c.g) → node_of c.u ≡ c.n
        other d = ap node_in d

  module _ {r : Round} {h : ℕ} {s : Stage} where
    -- where it works on its own node's copy, or is idle there
    pub works_here : {o : Own} → Here (On r h s) o → IsMine h ≡ true → stage_turn c.u h s ≡ Some (Page (node_of c.u) h) → (k : ℕ) × (c.f.page.work ≡ work_view c.u.p k s)
    works_here f e tu = let m = mine h e in let z = f.knows.works (tu ∙ ap Some (λ i. Page (m.1 i) (m.0 i))) in (z.0, z.1 ∙ work_at z.0 r h s e)

    -- and where it stands in its acquire
    pub stage_here : {o : Own} → Here (On r h s) o → IsMine h ≡ true → (c.f.processors c.u.p).stage ≡ acquire_view c.m c.n c.g (On r h s)
    stage_here f e = f.knows.stage (mine h e).1 (λ d. absurd (cc d))

  -- at an event that leaves it, and a stage of the page that is seen alike
  pub stage_on : {r : Round} {h : ℕ} {s : Stage} {o : Own} (t : Stage) (e : Event) → Here (On r h s) o → IsMine h ≡ true → is_still e ≡ true → is_unseen s ≡ is_unseen t → ((happens (first c) c.f e).processors c.u.p).stage ≡ acquire_view c.m c.n c.g (On r h t)
  stage_on {r} {h} {s} t e f is still un = stage_kept (first c) c.f e still c.u.p ∙ stage_here f is ∙ acquire_same c.m c.n c.g r h s t un

  -- an event on its own node's copy
  pub record OwnEvent (v : Work) (ws' : List ℕ) (t : Stage) (e : Event) : Type 0 where
    pub may : May (first c) (top c) c.f e
    pub works : (k : ℕ) × ((happens (first c) c.f e).page.work ≡ work_view c.u.p k t)
    pub hand : (happens (first c) c.f e).page.hand ≡ c.f.page.hand
    pub stage : ((happens (first c) c.f e).processors c.u.p).stage ≡ acquire_view c.m c.n c.g v
    pub stamp : IfSome (stamp_read t) (λ x. (happens (first c) c.f e).page.update ≡ x)
    pub match : Worker c (happens (first c) c.f e) (word c.u.lay c.ws (Turn c.n c.g)) → Drainer c (happens (first c) c.f e) (word c.u.lay c.ws (NoticeTurn c.n)) → Match c.m c.n c.g c.u ws' (happens (first c) c.f e)

  -- its word says that it holds the turn
  pub turn_word : {r : Round} {h : ℕ} {s : Stage} {o : Own} {a : Act} {x : ℕ} → Meets (On r h s) o a x → stage_turn c.u h s ≡ Some (Page (node_of c.u) h) → IsMine h ≡ true → word c.u.lay c.ws (Turn c.n c.g) ≡ suc c.u.p
  turn_word {h = h} f tu e = let m = mine h e in f.turn (Page c.n c.g) (c.n_in, c.g_in) (tu ∙ ap Some (λ i. Page (m.1 i) (m.0 i)))

  -- an event of its own node's copy, at its page
  own_at : {r : Round} {h : ℕ} {t : Stage} {ws' : List ℕ} (e : Event) → word c.u.lay c.ws (Turn c.n c.g) ≡ suc c.u.p → has_served c.m c.n c.g c.u (On r h t) ≡ false → IsMine h ≡ true → OwnEvent (On r h t) ws' t e → Acted (On r h t) ws' (e ∷ [])
  own_at {r} {h} {t} e turn se is z =
      record {
        runs = (z.may, tt);
        match = z.match (λ q w. let d = view_mine t c.u.p z.works.0 q (subst (λ y. is_worker q y ≡ true) z.works.1 w) in (turn ∙ ap suc d, ap (λ y. node c y) (sym d) ∙ (mine h is).1)) (λ d. z.hand ∙ c.match.drainer d);
        knows = own_knows {r = r} {h = h} {t = t} (happens (first c) c.f e) is z.works.0 z.works.1 z.stage z.stamp se;
      }

  module _ {r : Round} {h : ℕ} {s t : Stage} {o : Own} {a : Act} {x : ℕ} where
    own_acts : (e : Event) → Meets (On r h s) o a x → stage_turn c.u h s ≡ Some (Page (node_of c.u) h) → has_served c.m c.n c.g c.u (On r h t) ≡ false → IsMine h ≡ true → OwnEvent (On r h t) (done c.u.lay c.ws a) t e → Acted (On r h t) (done c.u.lay c.ws a) (e ∷ [])
    own_acts e f ts se is z = own_at {r = r} {h = h} {t = t} e (turn_word f ts is) se is z

    -- a row on a page, whose turn at its own node it holds, with an event where both are those of the copy; its word is of no other copy
    pub own_row : (e : Event) → Meets (On r h s) o a x → stage_turn c.u h s ≡ Some (Page (node_of c.u) h) → stage_turn c.u h t ≡ Some (Page (node_of c.u) h) → has_served c.m c.n c.g c.u (On r h t) ≡ false
        → (IsPart c (item_of a) → (h ≡ c.g) × (node_of c.u ≡ c.n)) → (IsMine h ≡ true → OwnEvent (On r h t) (done c.u.lay c.ws a) t e) → Acted (On r h t) (done c.u.lay c.ws a) (only (IsMine h) e)
    own_row e f ts tt' se part own = only_if (IsMine h) (λ is. own_acts e f ts se is (own is)) (λ off. record { runs = tt; match = untouched c a f.within (λ i. absurd (cc (sym (is_mine (part i).0 (part i).1) ∙ off))); knows = elsewhere_on {r = r} {h = h} {s = s} {t = t} off f.here.knows (tt' ∙ sym ts) (λ d. absurd (cc (sym se ∙ d))) })

    -- a row with no event
    pub quiet_row : Meets (On r h s) o a x → Match c.m c.n c.g c.u (done c.u.lay c.ws a) c.f → stage_turn c.u h t ≡ stage_turn c.u h s → ((k : ℕ) → work_view c.u.p k t ≡ work_view c.u.p k s) → is_unseen t ≡ is_unseen s → (has_served c.m c.n c.g c.u (On r h t) ≡ true → has_served c.m c.n c.g c.u (On r h s) ≡ true)
        → (h ≡ c.g → node_of c.u ≡ c.n → IfSome (stamp_read t) (λ z. c.f.page.update ≡ z)) → Acted (On r h t) (done c.u.lay c.ws a) []
    quiet_row f m tu wo un se st = record { runs = tt; match = m; knows = quiet_on {r = r} {h = h} {s = s} {t = t} f.here.knows tu wo un se st }

  -- a time of a clock
  pub clock_next : {w : Work} {o : Own} {x : ℕ} (k : ℕ) → k < c.u.lay.nodes → k ≡ c.n → Meets w o (Add (Clock (node_of c.u)) 1) x → (word c.u.lay c.ws (Clock k) + 1) % 2 ^ 64 ≡ suc c.f.page.clock
  clock_next k i e f = let z : word c.u.lay c.ws (Clock k) ≡ c.f.page.clock = ap (λ y. word c.u.lay c.ws (Clock y)) e ∙ c.match.clock in mod-eq_of_lt (omega (arith, (f.clocks k i).1)) ∙ omega (arith, z)

  module _ {w v : Work} {o : Own} {x : ℕ} where
    -- drawn for another page, or beside the pages
    pub ticks : Meets w o (Add (Clock (node_of c.u)) 1) x → node_of c.u ≡ c.n → Now v → Acted v (done c.u.lay c.ws (Add (Clock (node_of c.u)) 1)) (Tick ∷ [])
    ticks f e k =
        record {
          runs = (tt, tt);
          match = match_one c Tick c.match.worker c.match.drainer (Add (Clock (node_of c.u)) 1) f.within e refl tt (clock_next (node_of c.u) f.within e f);
          knows = knows_kept (happens (first c) c.f Tick) refl (stage_kept (first c) c.f Tick refl c.u.p) refl refl (λ d. d) k;
        }

    -- the draws of all rows but those of a fetch
    pub any_clock : Meets w o (Add (Clock (node_of c.u)) 1) x → Now v → Acted v (done c.u.lay c.ws (Add (Clock (node_of c.u)) 1)) (only (node_of c.u == c.n) Tick)
    any_clock f k = only_if (node_of c.u == c.n) (λ d. ticks f (eqb-true (node_of c.u) c.n d) k) (λ off. record { runs = tt; match = untouched c (Add (Clock (node_of c.u)) 1) f.within (λ e. absurd (cc (sym (eq-eqb (node_of c.u) c.n e) ∙ off))); knows = k })

  -- those of a fetch: on the page it draws its time, on another one it is a tick
  pub draw_row : {r : Round} {h : ℕ} {s t : Stage} {o : Own} {x : ℕ} → Meets (On r h s) o (Add (Clock (node_of c.u)) 1) x → stage_turn c.u h s ≡ Some (Page (node_of c.u) h) → stage_turn c.u h t ≡ Some (Page (node_of c.u) h) → has_served c.m c.n c.g c.u (On r h t) ≡ false → (IsAccess r)
      → ((k : ℕ) → work_view c.u.p k s ≡ F.Idle) → ((k : ℕ) → F.Ready c.u.p x ≡ work_view c.u.p k t) → stamp_read t ≡ None → is_unseen s ≡ is_unseen t → (h ≡ c.g → node_of c.u ≡ c.n → c.f.page.dir ≢ 0) → Acted (On r h t) (done c.u.lay c.ws (Add (Clock (node_of c.u)) 1)) (only (node_of c.u == c.n) (if h == c.g then Draw c.u.p else Tick))
  draw_row {r} {h} {s} {t} {o} {x} f ts tt' se acc idle ready st un dir = only_if (node_of c.u == c.n) (λ d. at_node (eqb-true (node_of c.u) c.n d)) (λ off. record { runs = tt; match = untouched c (Add (Clock (node_of c.u)) 1) f.within (λ e. absurd (cc (sym (eq-eqb (node_of c.u) c.n e) ∙ off))); knows = elsewhere_on {r = r} {h = h} {s = s} {t = t} (not_both (λ _ (e : (node_of c.u == c.n) ≡ true). absurd (cc (sym off ∙ e)))) f.here.knows (tt' ∙ sym ts) (λ d. absurd (cc (sym se ∙ d))) })
    where
      is_time : node_of c.u ≡ c.n → x ≡ c.f.page.clock
      is_time e = f.told ∙ ap (λ y. word c.u.lay c.ws (Clock y)) e ∙ c.match.clock

      none_read : (z : Option ℕ) → z ≡ None → IfSome z (λ y. c.f.page.update ≡ y)
      none_read None e = tt
      none_read (Some y) e = absurd (cc e)

      drawn : IsMine h ≡ true → Acted (On r h t) (done c.u.lay c.ws (Add (Clock (node_of c.u)) 1)) (Draw c.u.p ∷ [])
      drawn is = let i = mine h is in let k = works_here f.here is ts in
          own_acts (Draw c.u.p) f ts se is
          (record {
            may = ((is_of i.1, stage_here f.here is ∙ at_rest c.m c.n c.g r h s acc, k.1 ∙ idle k.0), dir i.0 i.1);
            works = (k.0, ap (F.Ready c.u.p) (sym (is_time i.1)) ∙ ready k.0);
            hand = refl;
            stage = stage_on t (Draw c.u.p) f.here is refl un;
            stamp = none_read (stamp_read t) st;
            match = λ w d. match_one c (Draw c.u.p) w d (Add (Clock (node_of c.u)) 1) f.within i.1 refl tt (clock_next (node_of c.u) f.within i.1 f);
          })

      at_node : node_of c.u ≡ c.n → Acted (On r h t) (done c.u.lay c.ws (Add (Clock (node_of c.u)) 1)) ((if h == c.g then Draw c.u.p else Tick) ∷ [])
      at_node e = go (true_or_false (h == c.g))
        where
          go : ((h == c.g) ≡ true) ⊎ ((h == c.g) ≡ false) → Acted (On r h t) (done c.u.lay c.ws (Add (Clock (node_of c.u)) 1)) ((if h == c.g then Draw c.u.p else Tick) ∷ [])
          go (inl d) = subst (λ z. Acted (On r h t) (done c.u.lay c.ws (Add (Clock (node_of c.u)) 1)) ((if z then Draw c.u.p else Tick) ∷ [])) (sym d) (drawn (and_true d (eq-eqb (node_of c.u) c.n e)))
          go (inr d) = subst (λ z. Acted (On r h t) (done c.u.lay c.ws (Add (Clock (node_of c.u)) 1)) ((if z then Draw c.u.p else Tick) ∷ [])) (sym d) (ticks f e (elsewhere_on {r = r} {h = h} {s = s} {t = t} (not_both (λ (y : (h == c.g) ≡ true) _. absurd (cc (sym d ∙ y)))) f.here.knows (tt' ∙ sym ts) (λ y. absurd (cc (sym se ∙ y)))))

  -- a note on a page, whose turn at its own node it holds, with an event where both are those of the copy on which it works
  pub own_note : {r : Round} {h : ℕ} {s t : Stage} {o : Own} (e : Event) → Here (On r h s) o → stage_turn c.u h s ≡ Some (Page (node_of c.u) h) → stage_turn c.u h t ≡ Some (Page (node_of c.u) h) → has_served c.m c.n c.g c.u (On r h t) ≡ false
      → (IsMine h ≡ true → is_worker c.u.p c.f.page.work ≡ true) → (IsMine h ≡ true → OwnEvent (On r h t) c.ws t e) → Acted (On r h t) c.ws (only (IsMine h) e)
  own_note {r} {h} {s} {t} e f ts tt' se at own =
      only_if (IsMine h) (λ is. own_at {r = r} {h = h} {t = t} e (c.match.worker c.u.p (at is)).0 se is (own is)) (λ off. record { runs = tt; match = c.match; knows = elsewhere_on {r = r} {h = h} {s = s} {t = t} off f.knows (tt' ∙ sym ts) (λ d. absurd (cc (sym se ∙ d))) })

  -- a page has a word
  pub past : (q : ℕ) (enters : Bool) (e t : ℕ) → fetch_view q enters e t c.u.lay.words Whole ≡ F.Open q enters t e
  past q enters e t = ap (λ z. if z then F.Ready q t else F.Open q enters t e) (ne_eqb c.u.lay.words 0 c.full)

  -- who works on the copy is at work
  pub works_on : {w : F.Work} → c.f.page.work ≡ w → is_worker c.u.p w ≡ true → is_worker c.u.p c.f.page.work ≡ true
  works_on e d = ap (is_worker c.u.p) e ∙ d

  pub same_p : (c.u.p == c.u.p) ≡ true
  same_p = eq-eqb c.u.p c.u.p refl

  -- a turn that is won was free: nobody works on its copy, or has notices in hand
  pub won_says : {w : Work} {o : Own} (t : TurnId) → Meets w o (Change (turn_item t) 0 (c.u.p + 1)) 0 → Match c.m c.n c.g c.u (done c.u.lay c.ws (Change (turn_item t) 0 (c.u.p + 1))) c.f
  won_says (Page j h) f = says_same c (Change (Turn j h) 0 (c.u.p + 1)) f.within (λ i q w. absurd (zero_suc (f.told ∙ (says c (Turn j h) f.within i q w).0)))
    where
      zero_suc : {q : ℕ} → 0 ≡ suc q → ⊥
      zero_suc e = absurd (cc e)
  won_says (Notices j) f = says_same c (Change (NoticeTurn j) 0 (c.u.p + 1)) f.within (λ i _. says c (NoticeTurn j) f.within i (sym f.told))

  -- the turn of a page is won
  pub win_on : {r : Round} {h : ℕ} {s : Stage} {w : Work} {o : Own} (j : ℕ) → Meets w o (Change (Turn j h) 0 (c.u.p + 1)) 0 → stage_turn c.u h s ≡ Some (Page j h) → ((k : ℕ) → work_view c.u.p k s ≡ F.Idle) → (node_of c.u ≡ c.n → acquire_view c.m c.n c.g w ≡ acquire_view c.m c.n c.g (On r h s)) → stamp_read s ≡ None
      → has_served c.m c.n c.g c.u (On r h s) ≡ false → w ≢ Gone → Acted (On r h s) (done c.u.lay c.ws (Change (Turn j h) 0 (c.u.p + 1))) []
  win_on {r} {h} {s} {w} {o} j f tu idle ac st se lives =
      record {
        runs = tt;
        match = won_says (Page j h) f;
        knows = record {
          works = λ d. (0, free (sym tu ∙ d) ∙ sym (at_idle 0));
          stage = λ e _. f.here.knows.stage e lives ∙ ac e;
          hand = λ e d. absurd (no_notices c.u h s c.n d);
          stamp = λ e d. none_read (stamp_read s) st;
          served = λ d. absurd (cc (sym se ∙ d));
        };
      }
    where
      none_read : (z : Option ℕ) → z ≡ None → IfSome z (λ y. c.f.page.update ≡ y)
      none_read None e = tt
      none_read (Some y) e = absurd (cc e)

      either : (d : Bool) (z : F.Work) → z ≡ F.Idle → (if d then z else F.Idle) ≡ F.Idle
      either true z e = e
      either false z e = refl

      at_idle : (k : ℕ) → work_of c.m c.n c.g c.u k (On r h s) ≡ F.Idle
      at_idle k = either (IsMine h) (work_view c.u.p k s) (idle k)

      item_in : Option TurnId → Item
      item_in (Some t) = turn_item t
      item_in None = NoticeTurn 0

      free : Some (Page j h) ≡ Some (Page c.n c.g) → c.f.page.work ≡ F.Idle
      free d = idle_of c.f.page.work (λ q i. zero_suc (f.told ∙ ap (word c.u.lay c.ws) (ap item_in d) ∙ (c.match.worker q i).0))
        where
          zero_suc : {q : ℕ} → 0 ≡ suc q → ⊥
          zero_suc e = absurd (cc e)

  -- on no page: what it knows of a state; and of this one, where it is seen alike
  pub off_knows : {r : Round} (f' : State) → (node_of c.u ≡ c.n → (f'.processors c.u.p).stage ≡ acquire_view c.m c.n c.g (Off r)) → (node_of c.u ≡ c.n → round_turn c.u r ≡ Some (Notices c.n) → (k : ℕ) × (f'.page.hand ≡ hand_of c.m c.n c.g k (Off r))) → Knows c.m c.n c.g c.u f' (Off r)
  off_knows {r} f' st ha = record { works = λ d. absurd (no_page c.u r c.n c.g d); stage = λ e _. st e; hand = ha; stamp = λ _. tt; served = λ d. absurd (cc d) }

  pub off_same : {r t : Round} → Now (Off r) → round_turn c.u t ≡ round_turn c.u r → (node_of c.u ≡ c.n → acquire_view c.m c.n c.g (Off r) ≡ acquire_view c.m c.n c.g (Off t)) → ((k : ℕ) → node_of c.u ≡ c.n → hand_of c.m c.n c.g k (Off r) ≡ hand_of c.m c.n c.g k (Off t)) → Now (Off t)
  off_same {r} {t} k tu ac ha = off_knows {r = t} c.f (λ e. k.stage e (λ d. absurd (cc d)) ∙ ac e) (λ e d. let z = k.hand e (sym tu ∙ d) in (z.0, z.1 ∙ ha z.0 e))

  -- where it stands in its acquire, and what it has in hand
  pub off_stage : {r : Round} {o : Own} → Here (Off r) o → node_of c.u ≡ c.n → (c.f.processors c.u.p).stage ≡ acquire_view c.m c.n c.g (Off r)
  off_stage f e = f.knows.stage e (λ d. absurd (cc d))

  pub off_hand : {r : Round} {o : Own} → Here (Off r) o → node_of c.u ≡ c.n → round_turn c.u r ≡ Some (Notices (node_of c.u)) → (k : ℕ) × (c.f.page.hand ≡ hand_of c.m c.n c.g k (Off r))
  off_hand f e d = f.knows.hand e (d ∙ ap Some (λ i. Notices (e i)))
