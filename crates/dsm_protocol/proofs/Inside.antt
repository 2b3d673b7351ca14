-- A load or store is of a word that there is, and so of a page that there is.
use Rattle.std.proofs.Common.{◌≡◌, ℕ, zero, suc, ◌*◌, ◌/◌, ◌<◌, List, arith, subst}
use Rattle.std.proofs.Math.Nat.{div-lt_iff_lt-mul}
use Rattle.dsm_isa.specs.declared.instr.Instr.{Instr}
use Rattle.dsm_local.specs.declared.action.Action.{Action}
use Rattle.dsm_local.specs.declared.action.Action.TheVariants.{LoadWord, StoreWord}
use Rattle.dsm_local.specs.Readers.{next_action, IsInside}
use Rattle.dsm_local.proofs.Inside.{IsInside-next_action}
use Rattle.dsm_protocol.specs.Own.{Own, Who, setting_of}
use Rattle.dsm_protocol.specs.Steps.{page_of}

pub page_in : (pages words w : ℕ) → w < pages * words → w / words < pages
page_in pages words w h = (div-lt_iff_lt-mul {k = words} {x = w} {y = pages} (some words h)).1 h
  where
    some : (words : ℕ) → w < pages * words → 0 < words
    some zero h = absurd (omega (arith, h))
    some (suc k) h = omega arith

module _ (u : Who) (code : List Instr) (o : Own) where
  inside : (a : Action) → next_action code (setting_of u) o.reader ≡ a → IsInside (u.lay.pages * u.lay.words) a
  inside a is = subst (IsInside (u.lay.pages * u.lay.words)) is (IsInside-next_action code (setting_of u) o.reader)

  pub load_inside : (d w : ℕ) → next_action code (setting_of u) o.reader ≡ LoadWord d w → page_of u w < u.lay.pages
  load_inside d w is = page_in u.lay.pages u.lay.words w (inside (LoadWord d w) is)

  pub store_inside : (w v : ℕ) → next_action code (setting_of u) o.reader ≡ StoreWord w v → page_of u w < u.lay.pages
  store_inside w v is = page_in u.lay.pages u.lay.words w (inside (StoreWord w v) is)
