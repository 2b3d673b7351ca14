-- The words and the processors' places show, for each sender, node and page, a state of the copy that its own events reach.
use Rattle.std.specs.Prelude.{◌≡◌, ◌≢◌, ℕ, suc, ◌+◌, ◌*◌, ◌/◌, ◌<◌, ◌==◌, ◌||◌, Bool, true, List, Some, slice_get, IfSome}
use Rattle.dsm_words.specs.declared.item.Item.TheVariants.{Map, Dir, Update, Notice, Clock, Turn, NoticeTurn, Home, Own as OwnWord, Global}
use Rattle.dsm_words.specs.Place.{processors}
use Rattle.dsm_words.specs.Pages.{group_of}
use Rattle.dsm_words.specs.Words.{word}
use Rattle.dsm_clock.specs.declared.turns.TurnId.TheVariants.{Page, Notices}
use Rattle.dsm_protocol.specs.Own.{Who, node_of}
use Rattle.dsm_protocol.specs.Processors.{Processor}
use Rattle.dsm_protocol.specs.Stages.{Work, Gone, turn_at}
use Rattle.dsm_protocol.specs.Standing.{Stands}
use Rattle.dsm_runs.specs.Setups.{Setup, lay_in, who_at}
use Rattle.dsm_runs.specs.Clusters.{Cluster}
use Rattle.dsm_owners.specs.Directory as D
use Rattle.dsm_owners.specs.Premises.{Runs as Keeps_all}
use Rattle.dsm_fresh.specs.Stages.{is_worker, Empty}
use Rattle.dsm_fresh.specs.Pages.{Event, State, start, after}
use Rattle.dsm_fresh.specs.Premises.{Runs}
use Rattle.dsm_ties.specs.Views.{AtStage}
use Rattle.dsm_ties.specs.Tied.{Knows as Owns, Match as Owned, node_in, has_bit}
use Rattle.dsm_freshness.specs.Views.{work_of, hand_of, acquire_view, has_served, stamp_read}

-- a mapping lets its processor load
abbrev pub may_load : ℕ → Bool
may_load k = k == 1 || k == 2

-- What the state says of the processor at w. It is of node n, or not.
pub record Knows (m n g : ℕ) (u : Who) (f : State) (w : Work) : Type 0 where
  -- who holds the turn of the copy stands where its work says
  pub works : turn_at u w ≡ Some (Page n g) → (e : ℕ) × (f.page.work ≡ work_of m n g u e w)
  -- a processor of the node stands where its acquire says, and has in hand what it drains
  pub stage : node_of u ≡ n → w ≢ Gone → (f.processors u.p).stage ≡ acquire_view m n g w
  pub hand : node_of u ≡ n → turn_at u w ≡ Some (Notices n) → (c : ℕ) × (f.page.hand ≡ hand_of m n g c w)
  -- a stamp that it has read under the turn still stands there
  pub stamp : node_of u ≡ n → AtStage (λ s. IfSome (stamp_read s) (λ x. f.page.update ≡ x)) g w
  -- a processor of the sender that has dealt with the node since its send
  pub served : has_served m n g u w ≡ true → f.page.served ≡ true

-- the words of the page are those of the state
pub record Match (m n g : ℕ) (u : Who) (ws : List ℕ) (f : State) : Type 0 where
  pub dir : word u.lay ws (Dir n g) ≡ f.page.dir
  pub update : word u.lay ws (Update n g) ≡ f.page.update
  pub notice : word u.lay ws (Notice n g) ≡ f.page.notice
  pub clock : word u.lay ws (Clock n) ≡ f.page.clock
  pub bit : has_bit g (word u.lay ws (Global n m (group_of g))) ≡ f.page.bit
  pub own : (q : ℕ) → q < processors u.lay → q / u.lay.procs ≡ n → has_bit g (word u.lay ws (OwnWord q (group_of g))) ≡ (f.processors q).own
  pub mapped : (q : ℕ) → q < processors u.lay → q / u.lay.procs ≡ n → may_load (word u.lay ws (Map q g)) ≡ (f.processors q).mapped
  -- who works on the copy holds its turn, and is of the node; who has a notice in hand holds the turn of the notices
  pub worker : (q : ℕ) → is_worker q f.page.work ≡ true → (word u.lay ws (Turn n g) ≡ suc q) × (q / u.lay.procs ≡ n)
  pub drainer : word u.lay ws (NoticeTurn n) ≡ 0 → f.page.hand ≡ Empty

-- a processor stands at a place of the table, and both states say of it what is so there
pub record Placed (s : Setup) (m n g : ℕ) (b : D.State) (f : State) (p : ℕ) (x : Processor) : Type 0 where
  pub work : Work
  pub stands : Stands (who_at s p) work x
  pub owns : Owns (who_at s p) g b.home (b.nodes (node_in s p)) (b.processors p) work x.own
  pub knows : Knows m n g (who_at s p) f work

-- the cluster shows this state of the directory, and this one of the copy
pub record Shows (s : Setup) (m n g : ℕ) (c : Cluster) (b : D.State) (f : State) : Type 0 where
  pub owned : Owned (who_at s 0) g c.words b
  pub words : Match m n g (who_at s 0) c.words f
  pub all : (p : ℕ) (x : Processor) → slice_get c.processors p ≡ Some x → Placed s m n g b f p x

-- for each page, node that is not its home, and sender: events of the copy that keep all their premises lead to a state that the cluster shows
abbrev pub Tied : Setup → Cluster → Type 0
Tied s c =
    (m n g : ℕ) → m < s.nodes → n < s.nodes → n ≢ m → g < s.program.shape.pages → word (lay_in s) c.words (Home g) ≢ suc n
    → (ds : List D.Event) × Keeps_all s.nodes (node_in s) D.start ds
    × (es : List Event) × Runs (n * s.procs) (n * s.procs + s.procs) start es
    × Shows s m n g c (D.after (node_in s) D.start ds) (after (n * s.procs) start es)
