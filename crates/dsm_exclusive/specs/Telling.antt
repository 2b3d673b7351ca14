-- The list of taking the pages that are no longer exclusive.
use Rattle.std.specs.Prelude.{ℕ, suc, ◌+◌, ◌-◌, List, if◌then◌else◌}
use Rattle.dsm_words.specs.declared.item.Item.TheVariants.{Nle}
use Rattle.dsm_words.specs.Pages.{take_from, take_pages}
use Rattle.dsm_words.specs.Place.{Lay, lay_of, groups}
use Rattle.dsm_words.specs.Script.{Script, End}
use Rattle.dsm_exclusive.specs.declared.nle.TakeNle.{TakeNle}

-- swap each of processor p's words of them for 0; the result is the set of their pages
abbrev pub take_nle_script : Lay → ℕ → Script (List ℕ)
take_nle_script l p = take_pages l (λ k. Nle p k)

abbrev pub take_nle_rest : TakeNle → Script (List ℕ)
take_nle_rest t = if t.over then End t.set else take_from (lay_of t.lay) (λ k. Nle t.p k) t.k (suc (groups (lay_of t.lay) - (t.k + 1))) t.set

abbrev pub take_nle_lay : TakeNle → Lay
take_nle_lay t = lay_of t.lay

-- behind its word
abbrev pub take_nle_behind : TakeNle → Script (List ℕ)
take_nle_behind t = take_from (lay_of t.lay) (λ k. Nle t.p k) (t.k + 1) (groups (lay_of t.lay) - (t.k + 1)) t.set
