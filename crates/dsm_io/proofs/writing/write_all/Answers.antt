use Rattle.std.proofs.Common.{◌-◌, ◌≡◌, ◌∙◌, sym, arith, length, length-drop, take, drop, take-append-drop}
use Rattle.std.proofs.Math.Seq.{take-add}
use Rattle.std.proofs.lemmas.Grind.{common_steps}
use Rattle.std.proofs.lemmas.Result.{err_from_is_err_and}
use Rattle.std.proofs.KnownBytes.{Appends-trans, Appends-kept}
use Rattle.dsm_io.proofs.writing.write_all.Goals as goal

pub returns-in_err-at-clause-prefix : goal.returns-in_err-at-clause-prefix
returns-in_err-at-clause-prefix g c =
    let p = err_from_is_err_and c.from_residual.result c.from_residual.ensures.1 in
    rw p.1 (take c.loop-at.at c.args.bytes.now, drop c.loop-at.at c.args.bytes.now, sym (take-append-drop _ _), Appends-kept _ _ _ _ c.loop-at.invariant.written c.in_err-at.ensures.bytes)

pub loop-at-preserved : goal.loop-at-preserved
loop-at-preserved g c =
    let all : take (length c.args.bytes.now - c.loop-at.at) (drop c.loop-at.at c.args.bytes.now) ≡ drop c.loop-at.at c.args.bytes.now = grind (arith, common_steps) in
    let fits = c.in_ok-at.ensures.bound in
    record {
      written = rw take-add (Appends-trans _ _ _ _ _ c.loop-at.invariant.written (rw all at c.in_ok-at.ensures.bytes));
      within = let bound = rw (all, length-drop) at fits in omega (arith, bound);
      well = c.in_ok-at.ensures.well ∙ c.loop-at.invariant.well;
    }
