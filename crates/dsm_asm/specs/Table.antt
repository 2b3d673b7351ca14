-- The labels of a text, as they are held.
use Rattle.std.specs.Prelude.{ℕ, List, Option}
use Rattle.std.specs.Option.{option_map}
use Rattle.std.specs.BTreeMap.{get_by}
use Rattle.std.specs.Cmp.Lexicographic.{slice_cmp}
use Rattle.std.specs.Ordering.{nat_cmp}
use Rattle.dsm_asm.specs.declared.labels.Label.{Label}
use Rattle.dsm_asm.specs.declared.labels.Labels.{Labels}

-- what is held of a name
abbrev pub held : Labels → List ℕ → Option Label
held labels name = get_by (λ key. slice_cmp nat_cmp name key.now) labels.map

-- the place that a name stands for
abbrev pub places : Labels → List ℕ → Option ℕ
places labels name = option_map (λ label. label.place) (held labels name)
