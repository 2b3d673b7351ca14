-- What is left of these lists at each point of the code.
use Rattle.std.specs.Prelude.{suc, ◌+◌, ◌-◌, Bool, true}
use Rattle.dsm_words.specs.declared.item.Item.TheVariants.{Twin, Twined, Dir}
use Rattle.dsm_words.specs.Place.{Lay, lay_of}
use Rattle.dsm_words.specs.Script.{Script, End, Do, Put, left}
use Rattle.dsm_twin.specs.declared.has.HasTwin.{HasTwin}
use Rattle.dsm_twin.specs.declared.make.MakeTwin.{MakeTwin}
use Rattle.dsm_twin.specs.declared.make.MakePoint.{MakePoint}
use Rattle.dsm_twin.specs.declared.make.MakePoint.TheVariants.{Frame as AtFrame, Twin as AtTwin, Twined as AtMade, Over as MakeOver}
use Rattle.dsm_twin.specs.declared.drop.DropTwin.{DropTwin}
use Rattle.dsm_twin.specs.declared.drop.DropPoint.{DropPoint}
use Rattle.dsm_twin.specs.declared.drop.DropPoint.TheVariants.{Map as AtMap, Twined as AtTwined, Dir as AtDir, Over as DropOver}
use Rattle.dsm_twin.specs.Twins.{has_twin_script, make_twin_from, drop_twin_from, drop_twin_end}

abbrev pub has_rest : HasTwin → Script Bool
has_rest t = left (has_twin_script t.n t.g) t.has

abbrev pub has_lay : HasTwin → Lay
has_lay t = lay_of t.lay

-- behind its word
abbrev pub make_left : MakeTwin → Script (Unit {0})
make_left t = make_twin_from t.n t.g (t.i + 1) (t.lay.words - (t.i + 1))

abbrev pub make_at : MakeTwin → MakePoint → Script (Unit {0})
make_at t AtFrame = make_twin_from t.n t.g t.i (suc (t.lay.words - (t.i + 1)))
make_at t (AtTwin v) = Do (Put (Twin t.n t.g t.i) v) (λ _. make_left t)
make_at t AtMade = Do (Put (Twined t.n t.g) 1) (λ _. End tt)
make_at t MakeOver = End tt

abbrev pub make_rest : MakeTwin → Script (Unit {0})
make_rest t = make_at t t.at

abbrev pub make_lay : MakeTwin → Lay
make_lay t = lay_of t.lay

abbrev pub drop_at : DropTwin → DropPoint → Script Bool
drop_at t AtMap = drop_twin_from t.n t.g t.q (suc t.left) t.unwritten t.free
drop_at t AtTwined = drop_twin_end t.n t.g t.free
drop_at t AtDir = Do (Put (Dir t.n t.g) 0) (λ _. End true)
drop_at t (DropOver dropped) = End dropped

abbrev pub drop_rest : DropTwin → Script Bool
drop_rest t = drop_at t t.at

abbrev pub drop_lay : DropTwin → Lay
drop_lay t = lay_of t.lay
