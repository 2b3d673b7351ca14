use Rattle.std.proofs.Common.{take, string_bytes, ◌∙◌, arith}
use Rattle.std.proofs.Math.Nat.{add-sub_cancel}
use Rattle.std.proofs.lemmas.List.{length-map}
use Rattle.dsm_top.specs.Plans.{texts}
use Rattle.dsm_top.proofs.SettingWords.{texts-more}
use Rattle.dsm_top.proofs.planning.settings.Goals as goal

pub returns-in_default-clause-fault : goal.returns-in_default-clause-fault
returns-in_default-clause-fault c =
    let one_more = texts-more c.args.words.now c.loop-i.i c.index-words-i.result c.as_bytes.result.now (omega arith) c.index-words-i.is (c.as_bytes.ensures.value ∙ c.as_str.ensures.value) in
    let (settings, are, given) = c.loop-i.invariant in
    record {
      numbered = omega arith;
      within = omega (arith, c.loop-i-test.true, length-map c.args.words.now string_bytes);
      before = rw add-sub_cancel (settings, are);
      fault = rw one_more (c.in_default.ensures (take c.loop-i.i (texts c.args.words.now)) c.loop-i.invariant);
    }

pub loop-i-preserved : goal.loop-i-preserved
loop-i-preserved c =
    let one_more = texts-more c.args.words.now c.loop-i.i c.index-words-i.result c.as_bytes.result.now (omega arith) c.index-words-i.is (c.as_bytes.ensures.value ∙ c.as_str.ensures.value) in
    rw one_more (c.in-Some.ensures (take c.loop-i.i (texts c.args.words.now)) c.loop-i.invariant)
