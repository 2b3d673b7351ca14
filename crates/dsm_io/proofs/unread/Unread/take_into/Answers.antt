use Rattle.std.proofs.Common.{◌+◌, ◌-◌, ◌≤◌, ◌≡◌, ap, ◌∙◌, arith, length, take, drop}
use Rattle.dsm_io.proofs.Pieces.{drop-moved}
use Rattle.dsm_io.proofs.unread.Unread.take_into.Goals as goal

pub returns-clause-bytes : goal.returns-clause-bytes
returns-clause-bytes c =
    let bytes = c.self.inside.bytes.items in
    let at = c.self.inside.at in
    let count = c.min-count.result in
    let fits : at + count ≤ length bytes = omega arith in
    let width : at + count - at ≡ count = omega arith in
    let moved : c.copy_from_slice.new.self ≡ take count (drop at bytes) = c.copy_from_slice.ensures.after ∙ ap (λ n. take n (drop at c.deref.result.now)) width ∙ ap (λ l. take count (drop at l)) c.deref.ensures.value in
    rw (← c.self.view_is) (drop-moved bytes (drop count c.args.buf.now) c.copy_from_slice.new.self at count fits moved)
