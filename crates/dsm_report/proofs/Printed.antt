-- The last of some numbers that are printed, one entry more.
use Rattle.std.proofs.Common.{◌≡◌, ℕ, List, ◌∷◌, Option, None, Some, refl}
use Rattle.std.specs.List.{filter_map, cons_option, last_or}
use Rattle.std.specs.Option.{option_or}
use Rattle.dsm_entry.specs.declared.entry.Entry.{Entry}
use Rattle.dsm_report.specs.Summary.{printed_in}

last-more : (o last : Option ℕ) (others : List ℕ) → last_or (option_or o last) others ≡ last_or last (cons_option o others)
last-more None last others = refl
last-more (Some n) last others = refl

pub printed-more : (entry : Entry) (last : Option ℕ) (entries : List Entry) → last_or (option_or (printed_in entry) last) (filter_map printed_in entries) ≡ last_or last (filter_map printed_in (entry ∷ entries))
printed-more entry last entries = last-more (printed_in entry) last (filter_map printed_in entries)
