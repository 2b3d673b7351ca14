-- The directives: the operands of each, and what it sets.
use Rattle.std.specs.Prelude.{ℕ, ◌+◌, ◌*◌, Bool, true, false, List, [], ◌∷◌}
use Rattle.dsm_grammar.specs.declared.fault.Bound.TheVariants.{Pages, Words, Locks, Barriers, Flags, Address}
use Rattle.dsm_grammar.specs.Operands.{Number, Within}
use Rattle.dsm_grammar.specs.Settings.{Settings, starts_as, starts_before}
use Rattle.dsm_grammar.specs.Statements.{Statement, statement}
use Rattle.dsm_asm.specs.declared.settings.Directive.{Directive}
use Rattle.dsm_asm.specs.declared.settings.Directive.TheVariants.{Pages as OfPages, Words as OfWords, Locks as OfLocks, Barriers as OfBarriers, Flags as OfFlags, Init}

-- the operands of a directive and its meaning, as it stands behind these settings
abbrev pub directive_in : Settings → Directive → Statement Settings
directive_in s OfPages = statement (Within Pages 1 257 ∷ []) (λ v. record s { sizes = record (s.sizes) { pages = v 0 } })
directive_in s OfWords = statement (Within Words 1 257 ∷ []) (λ v. record s { sizes = record (s.sizes) { words = v 0 } })
directive_in s OfLocks = statement (Within Locks 0 65 ∷ []) (λ v. record s { sizes = record (s.sizes) { locks = v 0 } })
directive_in s OfBarriers = statement (Within Barriers 0 17 ∷ []) (λ v. record s { sizes = record (s.sizes) { barriers = v 0 } })
directive_in s OfFlags = statement (Within Flags 0 65 ∷ []) (λ v. record s { sizes = record (s.sizes) { flags = v 0 } })
directive_in s Init = statement (Within Address 0 (s.sizes.pages * s.sizes.words) ∷ Number ∷ []) (λ v. record s { init = starts_as (v 0) (v 1) s.init })

-- it sets the size of the memory
abbrev pub of_size : Directive → Bool
of_size OfPages = true
of_size OfWords = true
of_size _ = false

-- it has a word start as a value
abbrev pub initial : Directive → Bool
initial Init = true
initial _ = false

-- the settings, and whether a word was set
pub record Held : Type 0 where
  pub set : Settings
  pub begun : Bool

-- the addresses from this one on whose values are not 0, with their values
abbrev pub nonzero : ℕ → List ℕ → List (ℕ × ℕ)
nonzero address [] = []
nonzero address (value ∷ values) = starts_before address value (nonzero (address + 1) values)
