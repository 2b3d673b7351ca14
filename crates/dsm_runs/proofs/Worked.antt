-- The small runs, computed.
use Rattle.std.proofs.Common.{refl}
use Rattle.dsm_words.specs.Words.{word, done, reply}
use Rattle.dsm_runs.specs.Clusters.{start, reached, after, after_loose, after_all_loose, given_behind, all_defined}
use Rattle.dsm_runs.specs.Moments.{history}
use Rattle.dsm_protocol.specs.Processors.{processor_of}
use Rattle.dsm_runs.specs.Examples.{Halts, StoresAndLoads, LoadsRemotely, Overwrites, MergesAndFlushes, GoesAsTold, IsBrokenByAVisit, KeepsTheWantedMapping, WithdrawsItsClaim, CoalescesAFlush, BreaksOnce, LocksInTurn, LockWordCounts, LooksAtALock, MeetTwice, PassesAtTheThirdLook, BothLook, StoppedByATrap, TrapsAtOnce, UnlocksOnce, StoppedByAStarved, SpendsTwo, NoneBehindTheEnd, NoneStarvedWithATurn, LoadsLoosely, IsWhatItWasGiven, Starts, HasItsMoments, NotesItsBreaks, NotesALateTelling, NotesWhoKeeps, NotesNoSend, NotesThreeGroups, GivesEachItsOwn, numbered}

pub halts : Halts
unfolding start reached after all_defined after_loose done reply word
halts = (record { defined = refl; leaves = refl }, record { defined = refl; leaves = refl })

pub stores_and_loads : StoresAndLoads
unfolding start reached after all_defined after_loose done reply word
stores_and_loads = record { defined = refl; leaves = refl }

pub loads_remotely : LoadsRemotely
unfolding start reached after all_defined after_loose done reply word
loads_remotely = record { defined = refl; leaves = refl }

pub overwrites : Overwrites
unfolding start reached after all_defined after_loose done reply word
overwrites = record { defined = refl; leaves = refl }

pub merges_and_flushes : MergesAndFlushes
unfolding start reached after all_defined after_loose done reply word
merges_and_flushes = record { defined = refl; leaves = refl }

pub goes_as_told : GoesAsTold
unfolding start reached after after_loose done reply word
goes_as_told = (refl, refl, refl, refl, refl, refl, refl)

pub is_broken_by_a_visit : IsBrokenByAVisit
unfolding start reached after all_defined after_loose done reply word
is_broken_by_a_visit = (refl, record { defined = refl; leaves = refl })

pub keeps_the_wanted_mapping : KeepsTheWantedMapping
unfolding start reached after all_defined after_loose done reply word
keeps_the_wanted_mapping = (record { defined = refl; leaves = refl }, refl)

pub withdraws_its_claim : WithdrawsItsClaim
unfolding start reached after all_defined after_loose done reply word
withdraws_its_claim = (refl, record { defined = refl; leaves = refl })

pub coalesces_a_flush : CoalescesAFlush
unfolding start reached after all_defined after_loose done reply word
coalesces_a_flush = record { defined = refl; leaves = refl }

pub breaks_once : BreaksOnce
unfolding start reached after all_defined after_loose done reply word
breaks_once = record { defined = refl; leaves = refl }

pub locks_in_turn : LocksInTurn
unfolding start reached after all_defined after_loose done reply word
locks_in_turn = record { defined = refl; leaves = refl }

pub lock_word_counts : LockWordCounts
unfolding start reached after after_loose done reply word
lock_word_counts = (refl, refl)

pub looks_at_a_lock : LooksAtALock
unfolding start reached after all_defined after_loose done reply word
looks_at_a_lock = record { defined = refl; leaves = refl }

pub meet_twice : MeetTwice
unfolding start reached after all_defined after_loose done reply word
meet_twice = record { defined = refl; leaves = refl }

pub passes_at_the_third_look : PassesAtTheThirdLook
unfolding start reached after all_defined after_loose done reply word
passes_at_the_third_look = record { defined = refl; leaves = refl }

pub both_look : BothLook
unfolding start reached after all_defined after_loose done reply word
both_look = (record { defined = refl; leaves = refl }, refl)

pub stopped_by_a_trap : StoppedByATrap
unfolding start reached after all_defined after_loose done reply word
stopped_by_a_trap = (record { defined = refl; leaves = refl }, record { defined = refl; leaves = refl }, refl)

pub traps_at_once : TrapsAtOnce
unfolding start reached after all_defined after_loose done reply word
traps_at_once = (record { defined = refl; leaves = refl }, record { defined = refl; leaves = refl })

pub unlocks_once : UnlocksOnce
unfolding start reached after all_defined after_loose done reply word
unlocks_once = record { defined = refl; leaves = refl }

pub stopped_by_a_starved : StoppedByAStarved
unfolding start reached after all_defined after_loose done reply word
stopped_by_a_starved = record { defined = refl; leaves = refl }

pub spends_two : SpendsTwo
unfolding start reached after all_defined after_loose done reply word
spends_two = (record { defined = refl; leaves = refl }, record { defined = refl; leaves = refl })

pub none_behind_the_end : NoneBehindTheEnd
unfolding start all_defined after_loose done reply
none_behind_the_end = (refl, refl, refl)

pub none_starved_with_a_turn : NoneStarvedWithATurn
unfolding start all_defined after_loose done reply
none_starved_with_a_turn = refl

pub loads_loosely : LoadsLoosely
unfolding start after_all_loose after_loose done reply
loads_loosely = refl

pub is_what_it_was_given : IsWhatItWasGiven
unfolding processor_of
is_what_it_was_given = (refl, refl, refl, refl, refl)

pub starts : Starts
unfolding word
starts = (refl, refl, refl)

pub has_its_moments : HasItsMoments
unfolding start numbered history all_defined after_loose done reply
has_its_moments = record { defined = refl; numbers = refl; moments = refl }

pub notes_its_breaks : NotesItsBreaks
unfolding start numbered history all_defined after_loose done reply
notes_its_breaks = record { defined = refl; numbers = refl; moments = refl }

pub notes_a_late_telling : NotesALateTelling
unfolding start numbered history all_defined after_loose done reply
notes_a_late_telling = record { defined = refl; numbers = refl; moments = refl }

pub notes_who_keeps : NotesWhoKeeps
unfolding start reached after numbered history all_defined after_loose done reply word
notes_who_keeps = (record { defined = refl; numbers = refl; moments = refl }, refl, refl)

pub notes_no_send : NotesNoSend
unfolding start reached after numbered history all_defined after_loose done reply word
notes_no_send = (record { defined = refl; numbers = refl; moments = refl }, refl, refl)

pub notes_three_groups : NotesThreeGroups
unfolding start reached after numbered history all_defined after_loose done reply word
notes_three_groups = (record { defined = refl; numbers = refl; moments = refl }, refl)

pub gives_each_its_own : GivesEachItsOwn
unfolding start given_behind after_loose done reply
gives_each_its_own = (refl, refl)
