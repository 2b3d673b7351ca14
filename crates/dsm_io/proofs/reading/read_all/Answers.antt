use Rattle.std.proofs.Common.{◌+◌, ◌≤◌, ◌++◌, arith, length, length-append, take}
use Rattle.std.proofs.KnownBytes.{Consumes-trans}
use Rattle.std.proofs.lemmas.List.{length-take}
use Rattle.std.proofs.lemmas.Result.{err_from_is_err_and}
use Rattle.dsm_io.proofs.reading.read_all.Goals as goal

pub returns-in_err-extend_from_slice-clause-taken :
    goal.returns-in_err-extend_from_slice-clause-taken
returns-in_err-extend_from_slice-clause-taken g c =
    let p = err_from_is_err_and c.from_residual-in_err-extend_from_slice.result c.from_residual-in_err-extend_from_slice.ensures.1 in
    let taken = take c.in_ok-count.count c.read.new.buf in
    let bound = c.in_ok-count.ensures.bound in
    let fits : length (c.loop-buf.bytes.items ++ taken) ≤ c.args.limit + 1 = omega (arith, length-append c.loop-buf.bytes.items taken, length-take c.in_ok-count.count c.read.new.buf, length-take c.min-room.result c.loop-buf.buf, c.read.auto.buf, c.loop-buf.bytes.ok.0, bound) in
    rw p.1 (c.loop-buf.bytes.items ++ take c.in_ok-count.count c.read.new.buf, fits, Consumes-trans _ _ _ _ _ c.loop-buf.invariant.taken c.in_ok-count.ensures.bytes.0)
