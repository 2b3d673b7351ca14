use Rattle.dsm_runs.proofs.Events.{leaves_processors, leaves_words, keeps_lengths, every_given}
use Rattle.dsm_runs.proofs.Runs.{events_are_loose}
use Rattle.dsm_runs.proofs.Starting.{starts_by_items, every_whole}
use Rattle.dsm_runs.proofs.Working.{every_ready}
use Rattle.dsm_runs.proofs.laws.core_law.Goals as goal

pub returns : goal.returns
returns c =
    record {
      processors = leaves_processors;
      words = leaves_words;
      lengths = keeps_lengths;
      given = every_given;
      ready = every_ready;
      loose = events_are_loose;
      start = starts_by_items;
      whole = every_whole;
    }
