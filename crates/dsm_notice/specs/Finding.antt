-- Where draining stands, and the next page of a word.
use Rattle.std.specs.Prelude.{◌≡◌, ℕ, ◌+◌, ◌<◌, ◌≤◌, Option, None, IfSome}
use Rattle.std.specs.Int.{bit_at}
use Rattle.dsm_notice.specs.declared.drain.DrainPoint.{DrainPoint}
use Rattle.dsm_notice.specs.declared.drain.DrainPoint.TheVariants.{Clock, Notice, Own}

-- the page that it is at, or 0
abbrev pub page_at : DrainPoint → ℕ
page_at (Clock bits b) = b
page_at (Notice bits b t) = b
page_at (Own bits b q left) = b
page_at _ = 0

-- the last of the processors that it tells, or 0
abbrev pub left_at : DrainPoint → ℕ
left_at (Own bits b q left) = q + left
left_at _ = 0

-- none of these pages is in the bits
abbrev pub HasGap : ℕ → ℕ → ℕ → Type 0
HasGap bits from to = (b : ℕ) → from ≤ b → b < to → bit_at bits b ≡ 0

-- what was found is the first
abbrev pub HasNext : ℕ → ℕ → ℕ → Option ℕ → Type 0
HasNext bits from to found = IfSome found (λ b. (from ≤ b) × (b < to) × (bit_at bits b ≡ 1) × HasGap bits from b)

-- where nothing was found, none is
abbrev pub HasNone : ℕ → ℕ → ℕ → Option ℕ → Type 0
HasNone bits from to found = found ≡ None → HasGap bits from to
