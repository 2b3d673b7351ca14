use Rattle.dsm_protocol.proofs.Moving.{every_processor_stands, every_event_is_a_row}
use Rattle.dsm_protocol.proofs.law.stage_law.Goals as goal

pub returns : goal.returns
returns c = record { stands = every_processor_stands; rows = every_event_is_a_row }
