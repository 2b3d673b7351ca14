-- What a run leaves.
use Rattle.std.specs.Prelude.{◌≡◌, ℕ, ◌%◌, ◌^◌, List, map, sum_by, Option, Some, All, Contains}
use Rattle.dsm_entry.specs.declared.entry.Entry.{Entry}
use Rattle.dsm_words.specs.Homes.{master}
use Rattle.dsm_words.specs.Words.{word}
use Rattle.dsm_local.specs.declared.end.End.{End as Ending}
use Rattle.dsm_local.specs.declared.end.End.TheVariants.{Halted, NoMemory}
use Rattle.dsm_protocol.specs.declared.counts.Counts.{Counts}
use Rattle.dsm_protocol.specs.Processors.{Processor, ending}
use Rattle.dsm_runs.specs.Setups.{Setup, lay_in, addresses}
use Rattle.dsm_runs.specs.Clusters.{Cluster, Event, AreDefined, reached}

-- the traces, the ends (none where a processor has not ended), the words of the memory as their homes have them, and the counts
pub record Ran : Type 0 where
  pub traces : List (List Entry)
  pub ends : List (Option Ending)
  pub pages : List ℕ
  pub counts : Counts

-- every processor halted
abbrev pub AllHalted : List (Option Ending) → Type 0
AllHalted ends = All (λ e. e ≡ Some Halted) ends

-- some processor ended for want of memory
abbrev pub SomeWants : List (Option Ending) → Type 0
SomeWants ends = Contains ends (Some NoMemory)

-- a count of all processors together
abbrev pub total_of : (Counts → ℕ) → List Processor → ℕ
total_of count ps = sum_by (λ m. count m.own.counts) ps % 2 ^ 64

-- all counts of all processors together
abbrev pub total_counts : List Processor → Counts
total_counts ps =
    record {
      read_faults = total_of (λ k. k.read_faults) ps;
      write_faults = total_of (λ k. k.write_faults) ps;
      overwrites = total_of (λ k. k.overwrites) ps;
      merges = total_of (λ k. k.merges) ps;
      twins = total_of (λ k. k.twins) ps;
      flushes = total_of (λ k. k.flushes) ps;
      early = total_of (λ k. k.early) ps;
      notices = total_of (λ k. k.notices) ps;
      unmaps = total_of (λ k. k.unmaps) ps;
      enters = total_of (λ k. k.enters) ps;
      breaks = total_of (λ k. k.breaks) ps;
      unready = total_of (λ k. k.unready) ps;
    }

-- what a state leaves
abbrev pub ran_of : Setup → Cluster → Ran
ran_of s c =
    record {
      traces = map (λ m. m.own.trace) c.processors;
      ends = map ending c.processors;
      pages = map (λ w. word (lay_in s) c.words (master (lay_in s) c.words w)) (addresses s);
      counts = total_counts c.processors;
    }

-- The list of events can be from the start on, and the state behind it leaves exactly this.
pub record Outcome (s : Setup) (events : List Event) (ran : Ran) : Type 0 where
  pub defined : AreDefined s events
  pub leaves : ran_of s (reached s events) ≡ ran
