use Rattle.dsm_protocol.proofs.Examples.{locks, locks_by_rows, faults_and_stores, faults_and_stores_by_rows, unlocks, unlocks_by_rows, locks_again, locks_again_by_rows}
use Rattle.dsm_protocol.proofs.law.stage_examples.Goals as goal

pub returns : goal.returns
returns c = record {
  locks = locks;
  locks_by_rows = locks_by_rows;
  faults = faults_and_stores;
  faults_by_rows = faults_and_stores_by_rows;
  unlocks = unlocks;
  unlocks_by_rows = unlocks_by_rows;
  locks_again = locks_again;
  locks_again_by_rows = locks_again_by_rows;
}
