-- The lists that are written out, computed.
use Rattle.std.proofs.Common.{◌≡◌, ◌<◌, true, List}
use Rattle.dsm_fresh.specs.Stages.{Rest}
use Rattle.dsm_fresh.specs.Pages.{State, Event, start}
use Rattle.dsm_fresh.specs.Examples.{MeetsAll, Case, Breaks, reached, behind, last}
use Rattle.dsm_fresh.proofs.Tests.{runs_test, runs_pass}

-- a list that passes all tests meets all premises,
pub meets : (es : List Event) → runs_test 2 4 start es ≡ true → MeetsAll es
meets es h = runs_pass 2 4 start es h

-- and a case that passes but for its event breaks the law
pub breaks : (part : State → Type 0) (c : Case) → part (reached c) → runs_test 2 4 start c.earlier ≡ true → runs_test 2 4 (behind c) c.later ≡ true → ((last c).processors 2).stage ≡ Rest → ((last c).processors 2).mapped ≡ true → (last c).page.got < ((last c).processors 2).known → Breaks part c
breaks part c p a b rests maps stale = record { before = runs_pass 2 4 start c.earlier a; partly = p; afterwards = runs_pass 2 4 (behind c) c.later b; rests = rests; maps = maps; stale = stale }
