use Rattle.dsm_protocol.proofs.Causes.{every_end}
use Rattle.dsm_protocol.proofs.Musts.{spent_ends, traps_end, last_looks_end, stopped_waits_end, closing_passes_end, starved_ends}
use Rattle.dsm_protocol.proofs.law.end_law.Goals as goal

pub returns : goal.returns
returns c = record {
  causes = every_end;
  spent = spent_ends;
  trapped = traps_end;
  looked = last_looks_end;
  stopped = stopped_waits_end;
  halted = closing_passes_end;
  starved = starved_ends;
}
