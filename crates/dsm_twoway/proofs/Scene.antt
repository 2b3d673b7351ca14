-- What is so where a step comes, and what a step of the table is to give.
use Rattle.std.proofs.Common.{◌≡◌, ◌≢◌, ◌⊎◌, ℕ, suc, ◌+◌, ◌*◌, ◌/◌, ◌<◌, ◌≤◌, ◌==◌, true, List, [], ◌∷◌, length, Option, None, Some}
use Rattle.std.specs.Prelude.{slice_index}
use Rattle.dsm_words.specs.declared.item.Item.TheVariants.{Map, Turn}
use Rattle.dsm_words.specs.Place.{IsWithin, total}
use Rattle.dsm_words.specs.Script.{Act, Change, item_of}
use Rattle.dsm_words.specs.Words.{word, done, told}
use Rattle.dsm_clock.specs.declared.turns.TurnId.{TurnId}
use Rattle.dsm_clock.specs.Turns.{turn_item}
use Rattle.dsm_protocol.specs.Own.{Own, Who, node_of}
use Rattle.dsm_protocol.specs.Jobs.{Note}
use Rattle.dsm_protocol.specs.Stages.{Stage, Work, turn_at}
use Rattle.dsm_protocol.specs.Rows.{Step, Wins, Slip, Noted}
use Rattle.dsm_protocol.proofs.Placed.{IsPlaced}
use Rattle.dsm_copies.specs.Modes.{ended}
use Rattle.dsm_copies.specs.Copies as W
use Rattle.dsm_copies.specs.Counts.{Count, count_after}
use Rattle.dsm_copies.specs.Premises.{Premise, Order}
use Rattle.dsm_copies.specs.Debts.{Debts, RunsOf}
use Rattle.dsm_owners.specs.Directory as B
use Rattle.dsm_owners.proofs.Keeps.{Holds}
use Rattle.dsm_ties.specs.Views.{stage_view}
use Rattle.dsm_ties.specs.Tied.{Knows as Owns, Match as Owned}
use Rattle.dsm_fresh.specs.Pages as S
use Rattle.dsm_fresh.specs.Premises.{Runs}
use Rattle.dsm_freshness.specs.Events as FE
use Rattle.dsm_freshness.specs.Tied as FT
use Rattle.dsm_freshness.proofs.Frame.{Fits}
use Rattle.dsm_debts.specs.Page as P
use Rattle.dsm_debts.specs.Joining.{Move, At, Other, AgreesAt, IsOther, OnOthers, has_flushed, pages_after, events_of}
use Rattle.dsm_debts.proofs.Facts.{Sound, is_posting}
use Rattle.dsm_releases.specs.Tied as RT
use Rattle.dsm_releases.specs.Views.{WorksAt}
use Rattle.dsm_twoway.specs.Views.{plain, mode_view}
use Rattle.dsm_twoway.specs.Events.{place_of, step_moves, slip_moves, note_moves}
use Rattle.dsm_twoway.specs.Tied.{IsAway, rest_of, Match, Knows}

-- every premise on others but that of order
abbrev pub Asked : Premise → Type 0
Asked r = OnOthers r × (r ≢ Order)

-- the node at a place
abbrev pub node_at : ℕ → Option ℕ → ℕ
node_at h None = h
node_at h (Some n) = n

-- The copy of page g at node n as sender m sees it is reached by events that keep their premises, and the words show it.
pub record Reached (m n g : ℕ) (u : Who) (ws : List ℕ) (f : S.State) : Type 0 where
  pub events : List S.Event
  pub runs : Runs (n * u.lay.procs) (n * u.lay.procs + u.lay.procs) S.start events
  pub is : S.after (n * u.lay.procs) S.start events ≡ f
  pub match : FT.Match m n g u ws f

-- Who holds the turn of node n's copy: its place, as the directory sees it, what is open there, and the work on the copy.
pub record Holder (h g i : ℕ) (u : Who) (ws : List ℕ) (b : B.State) (pages : Option ℕ → P.State) (x : W.State) (n : ℕ) : Type 0 where
  pub q : ℕ
  pub stage : Stage
  pub turn : (b.nodes n).turn ≡ suc q
  pub at : (b.processors q).stage ≡ stage_view (record u { p = q }) stage
  pub mode : plain (x.nodes n).mode ≡ mode_view i (rest_of h g i u ws n) (has_flushed (pages (Some n)).page.work) stage
  pub works : WorksAt (n == h) (n * u.lay.procs) (n * u.lay.procs + u.lay.procs) i q stage (pages (Some n))

-- What is so where a row comes: word i of page g, whose home is node h; processor u; the words; the states of the directory, of each copy
-- as each sender sees it, of the debts at each place, of the copies of the word, their numbers and debts.
pub record Scene : Type 0 where
  pub h : ℕ
  pub g : ℕ
  pub i : ℕ
  pub u : Who
  pub ws : List ℕ
  pub b : B.State
  pub fresh : (m n : ℕ) → S.State
  pub pages : Option ℕ → P.State
  pub x : W.State
  pub c : Count
  pub d : Debts
  pub h_in : h < u.lay.nodes
  pub g_in : g < u.lay.pages
  pub i_in : i < u.lay.words
  pub few : u.lay.pages ≤ 256
  pub at : IsPlaced u
  pub long : length ws ≡ total u.lay
  pub owned : Owned u g ws b
  pub holds : Holds u.lay.nodes (λ q. q / u.lay.procs) b
  pub home : (b.home ≡ 0) ⊎ (b.home ≡ suc h)
  pub copies : (m n : ℕ) → m < u.lay.nodes → m ≢ n → IsAway h u n → Reached m n g u ws (fresh m n)
  pub releases : (n : ℕ) → n < u.lay.nodes → RT.Match h n g i u ws (pages (place_of h n))
  pub sound : (n : ℕ) → n < u.lay.nodes → Sound (n == h) (pages (place_of h n)).page
  pub match : Match h g i u ws fresh x c
  pub holders : (n : ℕ) → IsAway h u n → word u.lay ws (Turn n g) ≢ 0 → Holder h g i u ws b pages x n
  -- a last store of the home whose send has ended and is not told is of a release that posts
  pub posts : x.at ≡ None → x.progress ≡ ended → is_posting (pages None).page.work ≡ true

module _ (s : Scene) where
  abbrev pub node : ℕ → ℕ
  node q = q / s.u.lay.procs

  -- where a processor is, and the processors of a place
  abbrev pub place : ℕ → Option ℕ
  place q = place_of s.h (node q)

  abbrev pub first : Option ℕ → ℕ
  first k = node_at s.h k * s.u.lay.procs

  abbrev pub top : Option ℕ → ℕ
  top k = node_at s.h k * s.u.lay.procs + s.u.lay.procs

  -- what a list of moves, newest first, is to the copies, and what they leave
  abbrev pub events : List Move → List W.Event
  events ms = events_of place first top s.pages ms

  abbrev pub pages_left : List Move → Option ℕ → P.State
  pages_left ms = pages_after place first top s.pages ms

  abbrev pub x_left : List Move → W.State
  x_left ms = W.after place s.x (events ms)

  abbrev pub c_left : List Move → Count
  c_left ms = count_after place s.x s.c (events ms)

  -- a move has the answer that the copies have
  abbrev pub Agree : W.State → Move → Type 0
  Agree x (At k v e) = AgreesAt place k x e
  Agree x (Other e) = IsOther place x e

  abbrev pub AllAgree : List Move → Type 0
  AllAgree [] = Unit {0}
  AllAgree (m ∷ older) = Agree (x_left older) m × AllAgree older

  -- the copies behind events of a step
  abbrev pub fresh_left : ((m n : ℕ) → List S.Event) → (m n : ℕ) → S.State
  fresh_left es m n = S.after (n * s.u.lay.procs) (s.fresh m n) (es m n)

  -- What is to be shown of a step to v, with these words, events of the copies as senders see them, and moves.
  pub record Acted (v : Work) (ws' : List ℕ) (es : (m n : ℕ) → List S.Event) (ms : List Move) : Type 0 where
    pub agrees : AllAgree ms
    pub meets : RunsOf place Asked s.x s.c s.d (events ms)
    pub match : Match s.h s.g s.i s.u ws' (fresh_left es) (x_left ms) (c_left ms)
    pub knows : Knows s.h s.g s.i s.u ws' (fresh_left es) (pages_left ms) (x_left ms) (c_left ms) v

  -- what the state says of the processor where it stands
  abbrev pub Now : Work → Type 0
  Now w = Knows s.h s.g s.i s.u s.ws s.fresh s.pages s.x s.c w

  -- and of what it holds: it has a mapping of each page
  pub record Here (w : Work) (o : Own) : Type 0 where
    pub maps_in : s.u.lay.pages ≤ length o.maps
    pub owns : Owns s.u s.g s.b.home (s.b.nodes (node_of s.u)) (s.b.processors s.u.p) w o
    pub fits : Fits w
    pub copies : (m n : ℕ) → m < s.u.lay.nodes → m ≢ n → IsAway s.h s.u n → FT.Knows m n s.g s.u (s.fresh m n) w
    pub releases : (n : ℕ) → n < s.u.lay.nodes → RT.Knows s.h n s.g s.i s.u (s.pages (place_of s.h n)) w o
    pub knows : Now w

  -- and at an operation with its answer, which is the word
  pub record Meets (w : Work) (o : Own) (a : Act) (y : ℕ) : Type 0 where
    pub here : Here w o
    pub within : IsWithin s.u.lay (item_of a)
    pub told : y ≡ told a (word s.u.lay s.ws (item_of a))
    pub own : word s.u.lay s.ws (Map s.u.p s.g) ≡ slice_index o.maps s.g
    pub turn : (t : TurnId) → IsWithin s.u.lay (turn_item t) → turn_at s.u w ≡ Some t → word s.u.lay s.ws (turn_item t) ≡ suc s.u.p

  -- what each row gives; each turn that is won, each decision, each note
  abbrev pub RowActs : (o : Own) {w v : Work} {a : Act} {y : ℕ} → Step s.u o.maps o.dirty w a y v → Type 0
  RowActs o {w} {v} {a} {y} step = Meets w o a y → Acted v (done s.u.lay s.ws a) (λ m n. FE.step_events m n s.g s.u step) (step_moves s.h s.g s.i s.u s.pages step)

  abbrev pub WinActs : (o : Own) {w v : Work} {t : TurnId} → Wins s.u o.maps o.dirty w t v → Type 0
  WinActs o {w} {v} {t} win = Meets w o (Change (turn_item t) 0 (s.u.p + 1)) 0 → Acted v (done s.u.lay s.ws (Change (turn_item t) 0 (s.u.p + 1))) (λ m n. []) []

  abbrev pub SlipActs : (o : Own) {w v : Work} → Slip s.u o.maps o.dirty w v → Type 0
  SlipActs o {w} {v} slip = word s.u.lay s.ws (Map s.u.p s.g) ≡ slice_index o.maps s.g → Here w o → Acted v s.ws (λ m n. FE.slip_events m n s.g s.u slip) (slip_moves s.h s.g s.i s.u s.pages slip)

  abbrev pub NoteActs : (o : Own) {w v : Work} {e : Note} → Noted s.u None w e v → Type 0
  NoteActs o {w} {v} {e} noted = Here w o → Acted v s.ws (λ m n. FE.note_events m n s.g s.u noted) (note_moves s.h s.g s.i s.u noted)
