use Rattle.std.proofs.Common.{◌≡◌, ◌∷◌, [], ◌++◌}
use Rattle.std.specs.Prelude.{Any}
use Rattle.dsm_top.specs.Plans.{name_of}
use Rattle.dsm_top.proofs.SettingWords.{AreSettings-more, All-from_none, AreSome-none, AreSome-again}
use Rattle.dsm_top.proofs.planning.Given.with_word.Goals as goal

pub returns-in_err-setting : goal.returns-in_err-setting
returns-in_err-setting c = rw c.from_residual.ensures (λ words give. AreSome-none c.args.command words c.args.word.now c.in_err-setting.ensures.none)

pub returns-then-has : goal.returns-then-has
returns-then-has c words (settings, are, given) =
    AreSome-again c.args.command words settings are c.in_ok-setting.setting c.args.word.now c.in_ok-setting.ensures.some.2 ((c.has.ensures settings given).0 c.if-has.true)

pub returns-else-has : goal.returns-else-has
returns-else-has c words (settings, are, given) =
    let s = c.in_ok-setting.setting in
    let known = c.in_ok-setting.ensures.some in
    let new : Any (λ other. name_of other ≡ name_of s) settings → ⊥ = λ any. let yes = (c.has.ensures settings given).1 any in let no = c.if-has.false in cc in (
      settings ++ s ∷ [],
      AreSettings-more c.args.command words settings are s known.0 known.1 c.args.word.now known.2 new,
      c.with.ensures settings given (All-from_none settings s new),
    )
