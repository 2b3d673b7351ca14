-- The table from inside.
use Rattle.std.specs.Prelude.{◌≡◌, ◌<◌, ◌≤◌}
use Rattle.dsm_words.specs.Place.{lay_of, total}
use Rattle.dsm_core.specs.States.{setup_of}
use Rattle.dsm_runs.specs.Setups.{lay_in}
use Rattle.dsm_runner.specs.Sights.{procs_of}
use Rattle.dsm_runner.specs.declared.shared.Shared.TheInside.{Inside}

-- it has the words of the layout of its setup, which has 1 to 32 processors
pub record IsBoard (s : Inside) : Type 0 where
  pub slots : s.table.shared.table_id.slots ≡ 0
  pub words : s.table.shared.table_id.words ≡ total (lay_in s.table.shared.key)
  pub setup : s.table.shared.key ≡ setup_of s.table.shared.key.program s.lay.t s.limits
  pub lay_is : lay_of s.lay ≡ lay_in s.table.shared.key
  pub some : 0 < procs_of s.table.shared.key
  pub few : procs_of s.table.shared.key ≤ 32
