use Rattle.dsm_protocol.proofs.Reading.{every_trace_is_local}
use Rattle.dsm_protocol.proofs.law.locality_law.Goals as goal

pub returns : goal.returns
returns c = every_trace_is_local
