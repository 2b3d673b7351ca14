-- The words and the processors' places show, for each node, page and word, a state of what is owed there that its own events reach.
use Rattle.std.specs.Prelude.{◌≡◌, ◌≢◌, ◌⊎◌, ℕ, suc, ◌+◌, ◌*◌, ◌/◌, ◌<◌, ◌==◌, Bool, true, false, List, Some, slice_get, IfSome}
use Rattle.dsm_words.specs.declared.item.Item.TheVariants.{Map, Dir, Twined, Flush, Clock, Turn, Nle, Home}
use Rattle.dsm_words.specs.Place.{processors}
use Rattle.dsm_words.specs.Pages.{group_of}
use Rattle.dsm_words.specs.Words.{word}
use Rattle.dsm_clock.specs.declared.turns.TurnId.TheVariants.{Page}
use Rattle.dsm_protocol.specs.Own.{Own, Who, node_of, is_dirty}
use Rattle.dsm_protocol.specs.Processors.{Processor}
use Rattle.dsm_protocol.specs.Stages.{Work, Gone, turn_at}
use Rattle.dsm_protocol.specs.Standing.{Stands}
use Rattle.dsm_runs.specs.Setups.{Setup, who_at}
use Rattle.dsm_runs.specs.Clusters.{Cluster}
use Rattle.dsm_debts.specs.Page as D
use Rattle.dsm_debts.specs.Page.{Event, State, start, after}
use Rattle.dsm_debts.specs.Premises.{Runs}
use Rattle.dsm_ties.specs.Views.{AtStage}
use Rattle.dsm_ties.specs.Tied.{has_bit, bit}
use Rattle.dsm_releases.specs.Views.{release_view, dirty_view, walk_in, released_in, WorksAt}

-- the page's home is node h, or it has none yet
abbrev pub IsHome : (h g : ℕ) → Who → List ℕ → Type 0
IsHome h g u ws = (word u.lay ws (Home g) ≡ 0) ⊎ (word u.lay ws (Home g) ≡ suc h)

module _ (h n g i : ℕ) (u : Who) where
  abbrev pub home : Bool
  home = n == h

  abbrev pub first : ℕ
  first = n * u.lay.procs

  abbrev pub top : ℕ
  top = n * u.lay.procs + u.lay.procs

  -- What the state says of the processor at w that holds o.
  pub record Knows (f : State) (w : Work) (o : Own) : Type 0 where
    -- who holds the turn of the copy stands where its work says
    pub works : turn_at u w ≡ Some (Page n g) → AtStage (λ s. WorksAt home first top i u.p s f) g w
    -- a processor of the node is in its release where its place says, and has the page in its dirty set where its set says
    pub stage : node_of u ≡ n → w ≢ Gone → (f.processors u.p).stage ≡ release_view g w
    pub dirty : node_of u ≡ n → w ≢ Gone → (f.processors u.p).dirty ≡ dirty_view g w o
    -- behind its walk over the dirty set no page is dirty, and the page that it releases is
    pub walked : IfSome (walk_in u.lay.pages w) (λ k. g < k → is_dirty o g ≡ false)
    pub released : IfSome (released_in w) (λ k. k ≡ g → is_dirty o g ≡ true)

  -- the words of the page are those of the state
  pub record Match (ws : List ℕ) (f : State) : Type 0 where
    pub flush : word u.lay ws (Flush n g) ≡ f.page.flush
    pub clock : word u.lay ws (Clock n) ≡ f.page.clock
    pub twin : word u.lay ws (Twined n g) ≡ bit f.page.twin
    -- an exclusive node has the page alone, or is about to
    pub alone : word u.lay ws (Dir n g) ≡ 2 → f.page.sole ≡ true
    pub sole : f.page.sole ≡ true → (word u.lay ws (Dir n g) ≡ 2) ⊎ (word u.lay ws (Dir n g) ≡ 3)
    pub writes : (q : ℕ) → q < processors u.lay → q / u.lay.procs ≡ n → (word u.lay ws (Map q g) == 2) ≡ (f.processors q).writes
    pub bits : (q : ℕ) → q < processors u.lay → q / u.lay.procs ≡ n → has_bit g (word u.lay ws (Nle q (group_of g))) ≡ (f.processors q).bit
    -- where nobody holds the turn of the copy, nobody works on it
    pub idle : word u.lay ws (Turn n g) ≡ 0 → f.page.work ≡ D.Idle

-- a processor stands at a place of the table, and the state says of it what is so there
pub record Placed (s : Setup) (h n g i : ℕ) (f : State) (p : ℕ) (x : Processor) : Type 0 where
  pub work : Work
  pub stands : Stands (who_at s p) work x
  pub knows : Knows h n g i (who_at s p) f work x.own

-- the cluster shows this state
pub record Shows (s : Setup) (h n g i : ℕ) (c : Cluster) (f : State) : Type 0 where
  pub words : Match h n g i (who_at s 0) c.words f
  pub all : (p : ℕ) (x : Processor) → slice_get c.processors p ≡ Some x → Placed s h n g i f p x

-- For each node, and each word of each page that has its home at node h or none yet: events, newest first, that keep all premises of the
-- law of debts lead to a state that the cluster shows.
abbrev pub Tied : Setup → Cluster → Type 0
Tied s c =
    (h n g i : ℕ) → h < s.nodes → n < s.nodes → g < s.program.shape.pages → i < s.program.shape.words → IsHome h g (who_at s 0) c.words
    → (es : List Event) × Runs (n == h) (n * s.procs) (n * s.procs + s.procs) (start 1 (λ q. D.Running)) es
    × Shows s h n g i c (after (n == h) (n * s.procs) (start 1 (λ q. D.Running)) es)
