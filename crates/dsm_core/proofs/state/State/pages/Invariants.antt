use Rattle.std.proofs.Common.{◌≡◌}
use Rattle.dsm_words.specs.Place.{lay_of}
use Rattle.dsm_core.proofs.Leaving.{master_words}
use Rattle.dsm_core.proofs.state.State.pages.Given as goal

abbrev pub invariant-loop-w : goal.invariant-loop-w
invariant-loop-w l = l.pages.items ≡ master_words (lay_of l.self.lay) l.self.words.items l.w
