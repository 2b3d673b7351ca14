use Rattle.std.proofs.Common.{◌≡◌, None, Some, sym, ap, ◌∙◌}
use Rattle.std.proofs.lemmas.Map.Text.{btree_map_updates_str}
use Rattle.std.proofs.lemmas.Slice.Eq.{bytes_eq-Decides}
use Rattle.std.specs.Str.{bytes_eq}
use Rattle.dsm_asm.specs.Table.{held}
use Rattle.dsm_asm.proofs.Whereabouts.{first_stays, none-from_absent}
use Rattle.dsm_asm.proofs.labels.Labels.define.Goals as goal

pub returns : goal.returns
returns c = λ other.
    let name = c.args.name.now in
    let new = btree_map_updates_str name c.args.self.now.map c.insert.new.self (Some c.args.label) c.in_ok-insert.ensures.updates other in
    let absent : held c.args.self.now name ≡ None = none-from_absent (held c.args.self.now name) (sym c.contains_key.ensures ∙ c.if-contains_key.false) in
    new ∙ first_stays (bytes_eq name other) (held c.args.self.now other) c.args.label (λ same. ap (held c.args.self.now) (sym ((bytes_eq-Decides name other).0 same)) ∙ absent)
