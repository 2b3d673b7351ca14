-- The words and the processors' places show, for each page, a state of its directory that its own events reach.
use Rattle.std.specs.Prelude.{◌≡◌, ◌≢◌, ℕ, suc, ◌/◌, ◌%◌, ◌<◌, ◌≤◌, ◌==◌, not, Bool, true, false, List, Some, slice_get, IfSome}
use Rattle.std.specs.Int.{bit_at}
use Rattle.dsm_words.specs.declared.item.Item.TheVariants.{Twined, Map, Dir, Update, Turn, Nle, Home, Own as OwnWord, Global}
use Rattle.dsm_words.specs.Place.{processors}
use Rattle.dsm_words.specs.Pages.{group_of, has_page}
use Rattle.dsm_words.specs.Words.{word}
use Rattle.dsm_protocol.specs.Own.{Own, Who, is_dirty}
use Rattle.dsm_protocol.specs.Processors.{Processor}
use Rattle.dsm_protocol.specs.Stages.{Work}
use Rattle.dsm_protocol.specs.Standing.{Stands}
use Rattle.dsm_runs.specs.Setups.{Setup, who_at}
use Rattle.dsm_runs.specs.Clusters.{Cluster}
use Rattle.dsm_owners.specs.Directory.{Event, Node, Processor as Reader, State, start, after}
use Rattle.dsm_owners.specs.Premises.{Runs}
use Rattle.dsm_ties.specs.Views.{view, home_in, time_in, told_in, joins_in, heard_in, is_cleaned, is_soiling, IsMet, AtStage, AtRound}

-- the node of processor q
abbrev pub node_in : Setup → ℕ → ℕ
node_in s q = q / s.procs

abbrev pub bit : Bool → ℕ
bit false = 0
bit true = 1

-- the bit of page g in a word of its group
abbrev pub has_bit : ℕ → ℕ → Bool
has_bit g bits = bit_at bits (g % 64) == 1

-- What the directory's state says of the processor at w that holds o, where x is its node's words, and y its own part.
pub record Knows (u : Who) (g : ℕ) (home : ℕ) (x : Node) (y : Reader) (w : Work) (o : Own) : Type 0 where
  -- where it stands
  pub at : y.stage ≡ view u g w
  pub round : AtRound w
  pub met : AtStage IsMet g w
  -- a page in its dirty set, or still to join it, has stores to tell
  pub dirty : is_cleaned w g ≡ false → is_dirty o g ≡ true → y.dirty ≡ true
  pub soils : AtStage (λ s. is_soiling s ≡ true → y.dirty ≡ true) g w
  pub joins : IfSome (joins_in w) (λ set. has_page set g ≡ true → y.dirty ≡ true)
  -- a page of which it was told, or that its node hears of, was posted to the node
  pub told : IfSome (told_in w) (λ set. has_page set g ≡ true → x.noted ≡ true)
  pub heard : IfSome (heard_in w) (λ z. z.0 ≡ group_of g → has_bit g z.1 ≡ true → x.noted ≡ true)
  -- the home that it has found is the page's, and a time in its hand is not 0
  pub homes : AtStage (λ s. IfSome (home_in s) (λ h. home ≡ suc h)) g w
  pub times : AtStage (λ s. IfSome (time_in s) (λ t. t ≢ 0)) g w

-- The words of page g are those of the state. A bit of the page in a word of its group is there only where the state says so.
pub record Match (u : Who) (g : ℕ) (ws : List ℕ) (b : State) : Type 0 where
  pub home : word u.lay ws (Home g) ≡ b.home
  pub low : b.home ≤ u.lay.nodes
  pub dir : (n : ℕ) → n < u.lay.nodes → word u.lay ws (Dir n g) ≡ (b.nodes n).dir
  pub twined : (n : ℕ) → n < u.lay.nodes → word u.lay ws (Twined n g) ≡ bit (b.nodes n).twined
  pub update : (n : ℕ) → n < u.lay.nodes → not (word u.lay ws (Update n g) == 0) ≡ (b.nodes n).update
  pub turn : (n : ℕ) → n < u.lay.nodes → word u.lay ws (Turn n g) ≡ (b.nodes n).turn
  pub map : (q : ℕ) → q < processors u.lay → word u.lay ws (Map q g) ≡ (b.processors q).map
  pub nle : (q : ℕ) → q < processors u.lay → has_bit g (word u.lay ws (Nle q (group_of g))) ≡ true → (b.processors q).nle ≡ true
  pub posted : (n m : ℕ) → n < u.lay.nodes → m < u.lay.nodes → has_bit g (word u.lay ws (Global n m (group_of g))) ≡ true → (b.nodes n).noted ≡ true
  pub listed : (q : ℕ) → q < processors u.lay → has_bit g (word u.lay ws (OwnWord q (group_of g))) ≡ true → (b.nodes (q / u.lay.procs)).noted ≡ true

-- a processor stands at a place of the table, and the state says of it what is so there
pub record Placed (s : Setup) (g : ℕ) (b : State) (p : ℕ) (m : Processor) : Type 0 where
  pub work : Work
  pub stands : Stands (who_at s p) work m
  pub knows : Knows (who_at s p) g b.home (b.nodes (node_in s p)) (b.processors p) work m.own

-- the cluster shows this state of page g
pub record Shows (s : Setup) (g : ℕ) (c : Cluster) (b : State) : Type 0 where
  pub words : Match (who_at s 0) g c.words b
  pub all : (p : ℕ) (m : Processor) → slice_get c.processors p ≡ Some m → Placed s g b p m

-- for each page, events of its directory that keep all its premises lead to a state that the cluster shows
abbrev pub Tied : Setup → Cluster → Type 0
Tied s c = (g : ℕ) → g < s.program.shape.pages → (es : List Event) × Runs s.nodes (node_in s) start es × Shows s g c (after (node_in s) start es)
