use Rattle.dsm_runs.proofs.Worked.{halts, stores_and_loads, loads_remotely, overwrites, merges_and_flushes, goes_as_told, is_broken_by_a_visit, keeps_the_wanted_mapping, withdraws_its_claim, coalesces_a_flush, breaks_once, locks_in_turn, lock_word_counts, looks_at_a_lock, meet_twice, passes_at_the_third_look, both_look, stopped_by_a_trap, traps_at_once, unlocks_once, stopped_by_a_starved, spends_two, none_behind_the_end, none_starved_with_a_turn, loads_loosely, is_what_it_was_given, starts, has_its_moments, notes_its_breaks, notes_a_late_telling, notes_who_keeps, notes_no_send, notes_three_groups, gives_each_its_own}
use Rattle.dsm_runs.proofs.laws.core_examples.Goals as goal

pub returns : goal.returns
returns c =
    record {
      halts = halts;
      whole = stores_and_loads;
      remote = loads_remotely;
      overwrites = overwrites;
      merges = merges_and_flushes;
      parts = goes_as_told;
      visit = is_broken_by_a_visit;
      wanted = keeps_the_wanted_mapping;
      withdraws = withdraws_its_claim;
      early = coalesces_a_flush;
      once = breaks_once;
      locks = locks_in_turn;
      lock_word = lock_word_counts;
      lost = looks_at_a_lock;
      barrier = meet_twice;
      flag = passes_at_the_third_look;
      looked = both_look;
      stopped = stopped_by_a_trap;
      trapped = traps_at_once;
      unlocked = unlocks_once;
      starved = stopped_by_a_starved;
      spent = spends_two;
      over = none_behind_the_end;
      holding = none_starved_with_a_turn;
      loose = loads_loosely;
      alone = is_what_it_was_given;
      starts = starts;
      history = has_its_moments;
      breaking = notes_its_breaks;
      late = notes_a_late_telling;
      keeping = notes_who_keeps;
      nothing = notes_no_send;
      groups = notes_three_groups;
      given = gives_each_its_own;
    }
