use Rattle.std.proofs.Common.{◌<◌, length, arith, add-one}
use Rattle.dsm_lex.proofs.Cutting.{lines_of-from}
use Rattle.dsm_lex.proofs.lines.next_line.Goals as goal

pub returns-clause-lines : goal.returns-clause-lines
returns-clause-lines c =
    let inside : c.args.from < length c.args.text.now = omega arith in
    rw add-one (lines_of-from c.args.text.now c.args.from c.first_place-end.result inside c.first_place-end.ensures.behind c.first_place-end.ensures.within c.first_place-end.ensures.found c.first_place-end.ensures.first)
