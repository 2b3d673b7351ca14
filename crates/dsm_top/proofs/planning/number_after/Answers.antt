use Rattle.std.proofs.Common.{◌≡◌, ◌++◌, None, Some, decimal}
use Rattle.std.proofs.lemmas.Bool.Decides.{Decides-eqb}
use Rattle.std.proofs.lemmas.Slice.Eq.{strip_prefix_is}
use Rattle.dsm_top.proofs.Spelling.{number_some, number_none}
use Rattle.dsm_top.proofs.planning.number_after.Goals as goal

pub returns-in_err-strip_prefix-clause-none : goal.returns-in_err-strip_prefix-clause-none
returns-in_err-strip_prefix-clause-none c =
    rw c.from_residual.ensures (λ n range is. strip_prefix_is Decides-eqb c.args.word.now c.args.name.now None c.in_err-strip_prefix.ensures.cases (decimal n) is)

pub returns-clause-some : goal.returns-clause-some
returns-clause-some c =
    let stripped : c.args.word.now ≡ c.args.name.now ++ c.in_ok-strip_prefix.field-0.now = strip_prefix_is Decides-eqb c.args.word.now c.args.name.now (Some c.in_ok-strip_prefix.field-0) c.in_ok-strip_prefix.ensures.cases in
    number_some c.lex_law.ensures.numbers c.args.word.now c.args.name.now c.in_ok-strip_prefix.field-0.now stripped c.number.result c.number.ensures

pub returns-clause-none : goal.returns-clause-none
returns-clause-none c =
    let stripped : c.args.word.now ≡ c.args.name.now ++ c.in_ok-strip_prefix.field-0.now = strip_prefix_is Decides-eqb c.args.word.now c.args.name.now (Some c.in_ok-strip_prefix.field-0) c.in_ok-strip_prefix.ensures.cases in
    number_none c.lex_law.ensures.numbers c.args.word.now c.args.name.now c.in_ok-strip_prefix.field-0.now stripped c.number.result c.number.ensures
