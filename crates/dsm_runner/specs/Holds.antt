-- A worker from inside.
use Rattle.std.specs.Prelude.{◌≡◌, ◌<◌, []}
use Rattle.dsm_words.specs.Place.{total}
use Rattle.dsm_machine.specs.Machines.{who, processor_in}
use Rattle.dsm_runs.specs.Setups.{lay_in, who_at}
use Rattle.dsm_runner.specs.Sights.{full_sight, seen_by, procs_of}
use Rattle.dsm_runner.specs.declared.worker.Worker.TheInside.{Inside}

-- the machine is the processor that its seat knows
pub record IsHeld (w : Inside) : Type 0 where
  pub alone : w.seat.me ≡ (full_sight w.seat.me.0.setup w.seat.me.0.number w.seat.me.0.given, [])
  pub same : processor_in w.machine w.seat.me.0.setup.program.code ≡ seen_by w.seat.me.0
  pub who_is : who w.machine ≡ who_at w.seat.me.0.setup w.seat.me.0.number
  pub number_is : w.number ≡ w.seat.me.0.number
  pub below : w.seat.me.0.number < procs_of w.seat.me.0.setup
  pub words : w.seat.table_id.words ≡ total (lay_in w.seat.me.0.setup)
