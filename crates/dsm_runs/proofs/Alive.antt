-- A processor that may go has not ended, and one of them that wants memory tells all others to stop.
use Rattle.std.proofs.Common.{◌≡◌, Bool, true, false, refl, ap, ◌||◌, if◌then◌else◌}
use Rattle.std.specs.Prelude.{is_some}
use Rattle.dsm_protocol.specs.Own.{Who}
use Rattle.dsm_protocol.specs.Jobs.{Job, has_ended, held_turn}
use Rattle.dsm_protocol.specs.Steps.{starved_job}
use Rattle.dsm_protocol.specs.Processors.{Processor, wanting}
use Rattle.dsm_runs.specs.Clusters.{stays}

pub alive : (b : Bool) (j : Job) → stays b j ≡ false → has_ended j ≡ false
alive false j goes = goes
alive true j goes = go (has_ended j) goes
  where
    go : (d : Bool) → (d || is_some (held_turn j)) ≡ false → d ≡ false
    go true h = absurd (cc h)
    go false h = refl

pub wanting_is : (u : Who) (m : Processor) → has_ended m.todo ≡ false → wanting u true m ≡ record { own = m.own; todo = starved_job u }
wanting_is u m runs = ap (λ b. record { own = m.own; todo = if b then m.todo else starved_job u }) runs
