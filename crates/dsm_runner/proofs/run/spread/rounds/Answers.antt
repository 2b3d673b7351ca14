use Rattle.std.proofs.Common.{arith}
use Rattle.std.proofs.lemmas.Option.{slice_get_read}
use Rattle.dsm_runner.proofs.Puts.{places_set}
use Rattle.dsm_runner.proofs.run.spread.rounds.Goals as goal

pub loop-i-preserved : goal.loop-i-preserved
loop-i-preserved g c =
    let i = c.loop-i.invariant in
    let ps = c.loop-i.places in
    let old = c.index_mut-place.result.now in
    let at = slice_get_read ps.items ps.len c.loop-i.i old ps.ok.0 (omega (arith, i.len, c.loop-i-test.true)) c.index_mut-place.ensures.value in
    record {
      len = i.len;
      places = places_set c.args.shared.now ps.items c.loop-i.i old c.nudge.new.place i.places at c.nudge.ensures;
    }
