-- Who may use a page, in the words of a state.
use Rattle.std.specs.Prelude.{◌≡◌, ◌≢◌, ◌⊎◌, ℕ, suc, ◌*◌, ◌<◌, ◌≤◌, false, Some, slice_get}
use Rattle.dsm_words.specs.declared.item.Item.TheVariants.{Frame, Twined, Map, Dir, Home, Global, Own}
use Rattle.dsm_words.specs.Pages.{group_of}
use Rattle.dsm_words.specs.Words.{word}
use Rattle.dsm_local.specs.declared.end.End.TheVariants.{Halted}
use Rattle.dsm_protocol.specs.Processors.{Processor, ending}
use Rattle.dsm_runs.specs.Setups.{Setup, lay_in, first_value}
use Rattle.dsm_runs.specs.Clusters.{Cluster}
use Rattle.dsm_ties.specs.Tied.{node_in, has_bit}

module _ (s : Setup) (c : Cluster) where
  -- a processor's mapping lets it neither load nor store
  abbrev pub MayNotUse : ℕ → ℕ → Type 0
  MayNotUse q g = (word (lay_in s) c.words (Map q g) ≡ 0) ⊎ (word (lay_in s) c.words (Map q g) ≡ 3)

  -- a page that one node has alone is of no use at any other: that one does not have it alone, has no twin, and no processor of it may use it
  abbrev pub OneHolder : Type 0
  OneHolder = (g m n : ℕ) → g < s.program.shape.pages → m < s.nodes → n < s.nodes → n ≢ m → word (lay_in s) c.words (Dir m g) ≡ 2
      → (word (lay_in s) c.words (Dir n g) ≤ 1) × (word (lay_in s) c.words (Twined n g) ≡ 0) × ((q : ℕ) → q < s.nodes * s.procs → node_in s q ≡ n → MayNotUse q g)

  -- a node that does not use a page has no twin of it, and no processor that has it mapped, not even as wanted
  abbrev pub UnregisteredUnmapped : Type 0
  UnregisteredUnmapped = (g n : ℕ) → g < s.program.shape.pages → n < s.nodes → word (lay_in s) c.words (Dir n g) ≡ 0
      → (word (lay_in s) c.words (Twined n g) ≡ 0) × ((q : ℕ) → q < s.nodes * s.procs → node_in s q ≡ n → word (lay_in s) c.words (Map q g) ≡ 0)

  -- a processor that may store, away from the page's home, has a node that has the page alone, or a twin
  abbrev pub WritersTwinned : Type 0
  WritersTwinned = (g q : ℕ) → g < s.program.shape.pages → q < s.nodes * s.procs → word (lay_in s) c.words (Home g) ≢ suc (node_in s q) → word (lay_in s) c.words (Map q g) ≡ 2
      → (word (lay_in s) c.words (Dir (node_in s q) g) ≡ 2) ⊎ (word (lay_in s) c.words (Twined (node_in s q) g) ≡ 1)

  -- the home has no twin, and no notice of the page stands for it or for one of its processors
  abbrev pub HomeBare : Type 0
  HomeBare = (g n : ℕ) → g < s.program.shape.pages → n < s.nodes → word (lay_in s) c.words (Home g) ≡ suc n
      → (word (lay_in s) c.words (Twined n g) ≡ 0) × ((m : ℕ) → m < s.nodes → has_bit g (word (lay_in s) c.words (Global n m (group_of g))) ≡ false)
      × ((q : ℕ) → q < s.nodes * s.procs → node_in s q ≡ n → has_bit g (word (lay_in s) c.words (Own q (group_of g))) ≡ false)

  -- a page without a home is used by no node: none has a twin of it, and no processor has it mapped
  abbrev pub HomelessUntouched : Type 0
  HomelessUntouched = (g n : ℕ) → g < s.program.shape.pages → n < s.nodes → word (lay_in s) c.words (Home g) ≡ 0
      → (word (lay_in s) c.words (Dir n g) ≡ 0) × (word (lay_in s) c.words (Twined n g) ≡ 0) × ((q : ℕ) → q < s.nodes * s.procs → node_in s q ≡ n → word (lay_in s) c.words (Map q g) ≡ 0)

  -- and its words are at every node those with which the program starts
  abbrev pub HomelessUnwritten : Type 0
  HomelessUnwritten = (g n i : ℕ) → g < s.program.shape.pages → n < s.nodes → i < s.program.shape.words → word (lay_in s) c.words (Home g) ≡ 0
      → word (lay_in s) c.words (Frame n g i) ≡ first_value s (Frame n g i)

  -- once all have halted, no node has a page alone
  abbrev pub HaltedIsShared : Type 0
  HaltedIsShared = ((p : ℕ) (m : Processor) → slice_get c.processors p ≡ Some m → ending m ≡ Some Halted) → (n g : ℕ) → n < s.nodes → g < s.program.shape.pages → word (lay_in s) c.words (Dir n g) ≢ 2
