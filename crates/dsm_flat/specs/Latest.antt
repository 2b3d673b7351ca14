-- What the code keeps beside each word.
use Rattle.std.specs.Prelude.{◌≡◌, ℕ, ◌⊎◌, List, Some, true, false, slice_get}
use Rattle.dsm_flat.specs.declared.latest.Latest.{Latest}
use Rattle.dsm_flat.specs.Order.{Traces}
use Rattle.dsm_flat.specs.Flat.{Ordered}
use Rattle.dsm_flat.specs.Racing.{IsDeciding}

-- the word is not ordered, or the last store and the loads since decide about later accesses
abbrev pub IsLatest : Traces → ℕ → List ℕ → Latest → Type 0
IsLatest ts w done l = ((l.races ≡ true) × (Ordered ts w → ⊥)) ⊎ ((l.races ≡ false) × IsDeciding ts w done l.store l.loads)

-- item w of the list is kept beside word w
abbrev pub AreLatest : Traces → List ℕ → List Latest → Type 0
AreLatest ts done list = (w : ℕ) (l : Latest) → slice_get list w ≡ Some l → IsLatest ts w done l
