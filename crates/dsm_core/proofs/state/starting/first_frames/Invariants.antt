use Rattle.std.proofs.Common.{◌≡◌, ◌*◌, take, vec_len}
use Rattle.dsm_words.specs.Place.{lay_of}
use Rattle.dsm_runs.specs.Setups.{frames_of}
use Rattle.dsm_core.proofs.state.starting.first_frames.Given as goal

-- each word has the value of those so far
abbrev pub invariant-loop-word : goal.invariant-loop-word
invariant-loop-word l = record { long : vec_len l.frames ≡ l.lay.pages * l.lay.words; words : l.frames.items ≡ frames_of (lay_of l.lay) (take l.word-index l.program.init) }
