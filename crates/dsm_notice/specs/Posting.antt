-- Where posting stands.
use Rattle.std.specs.Prelude.{ℕ, Bool, true, false}
use Rattle.dsm_words.specs.Script.{Act, Or}
use Rattle.dsm_notice.specs.declared.post.PostPoint.{PostPoint}
use Rattle.dsm_notice.specs.declared.post.PostPoint.TheVariants.{Over}

-- the operation tells a node
abbrev pub is_or : Act → Bool
is_or (Or it bits) = true
is_or _ = false

-- before node m at most m were told, and in the end it may be too
abbrev pub told_slack : PostPoint → ℕ
told_slack Over = 2
told_slack _ = 1
