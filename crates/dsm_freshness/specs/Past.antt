-- That a mapped copy is fresh, said of the moments of a run.
use Rattle.std.specs.Prelude.{◌≡◌, ◌≢◌, ℕ, suc, ◌*◌, ◌/◌, ◌<◌, true, List, ◌∷◌, ◌++◌, Option}
use Rattle.dsm_words.specs.declared.item.Item.TheVariants.{Map, Home}
use Rattle.dsm_words.specs.Words.{word}
use Rattle.dsm_protocol.specs.Jobs.{Moment, Passed, Acquired, Sent, Told, Began, Fetched}
use Rattle.dsm_runs.specs.Setups.{Setup, lay_in}
use Rattle.dsm_runs.specs.Clusters.{Cluster, Event, start, after_all_loose}
use Rattle.dsm_runs.specs.Moments.{history}
use Rattle.dsm_freshness.specs.Tied.{may_load}

-- in this list the moment comes, and then the rest
abbrev pub Since : Moment → List Moment → List Moment → Type 0
Since d all rest = (before : List Moment) × (all ≡ before ++ (d ∷ rest))

-- behind each pass of processor p its acquire is finished
abbrev pub IsAtRest : ℕ → List Moment → Type 0
IsAtRest p all = (rest : List Moment) → Since (Passed p) all rest → (later : List Moment) × Since (Acquired p) rest later

-- node n began a fetch of page g there, and finished one behind it
abbrev pub HasFetched : (n g : ℕ) → List Moment → Type 0
HasFetched n g all = (began : List Moment) × (finished : List Moment) × Since (Began n g) all began × Since (Fetched n g) began finished

-- The copies of a state are fresh, whatever events have led to it.
pub record FreshCopies (s : Setup) (c : Cluster) : Type 0 where
  -- A processor at rest maps a page, away from its home, and had passed when another node's send of it was told: since that send ended, its
  -- node has fetched the page.
  pub since : (events : List (Event × Option ℕ)) → after_all_loose s (start s) events ≡ c
      → (p m g : ℕ) → p < s.nodes * s.procs → m < s.nodes → g < s.program.shape.pages → m ≢ p / s.procs → word (lay_in s) c.words (Home g) ≢ suc (p / s.procs)
      → may_load (word (lay_in s) c.words (Map p g)) ≡ true → IsAtRest p (history s (start s) events)
      → (sent told passed : List Moment) → Since (Sent m g) (history s (start s) events) sent → Since (Told m g) sent told → Since (Passed p) told passed
      → HasFetched (p / s.procs) g sent
  -- And where a processor maps a page away from its home, its node has fetched it.
  pub fetched : (events : List (Event × Option ℕ)) → after_all_loose s (start s) events ≡ c
      → (p g : ℕ) → p < s.nodes * s.procs → g < s.program.shape.pages → word (lay_in s) c.words (Home g) ≢ suc (p / s.procs)
      → may_load (word (lay_in s) c.words (Map p g)) ≡ true
      → HasFetched (p / s.procs) g (history s (start s) events)
