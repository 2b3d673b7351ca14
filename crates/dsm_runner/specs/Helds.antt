-- What contracts see of a worker and of the table.
use Rattle.std.specs.Prelude.{ℕ, List}
use Rattle.atomic_table.specs.Seated.{TableId}
use Rattle.dsm_protocol.specs.Processors.{Processor, Given}
use Rattle.dsm_runs.specs.Setups.{Setup}
use Rattle.dsm_runner.specs.Sights.{processor_at}

-- a worker: its table, the setup, its processor's number and what that was given, the newest first, and for how many more entries there is room
pub record Held : Type 0 where
  pub table : TableId
  pub setup : Setup
  pub number : ℕ
  pub given : List Given
  pub spare : ℕ

-- its processor
abbrev pub processor_by : Held → Processor
processor_by w = processor_at w.setup w.number w.given

-- the table, and the setup that it was told
pub record Board : Type 0 where
  pub table : TableId
  pub setup : Setup
