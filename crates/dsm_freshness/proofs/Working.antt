-- Who works on a page's copy stands where the directory says.
use Rattle.std.proofs.Common.{◌≡◌, ℕ, ◌==◌, Bool, true, false, refl, if◌then◌else◌}
use Rattle.std.specs.Prelude.{◌&&◌}
use Rattle.dsm_protocol.specs.Own.{Who, node_of}
use Rattle.dsm_protocol.specs.Stages.{Stage, Mapped, Part, Whole, First, Filling, Filled, Entered, Copying, Copied, Work, Off, On, Gone}
use Rattle.dsm_owners.specs.Stages as O
use Rattle.dsm_ties.specs.Views.{stage_view, view}
use Rattle.dsm_fresh.specs.Stages as S
use Rattle.dsm_fresh.specs.Stages.{is_worker}
use Rattle.dsm_freshness.specs.Views.{fetch_view, work_view, work_of}
use Rattle.dsm_freshness.proofs.Words.{Fetches}

-- by its stage of the page
module _ (u : Who) (p e : ℕ) where
  no_fetch : (z : O.Stage) (t : ℕ) → Fetches z (S.Ready p t)
  no_fetch z t = record { entering = λ d. absurd (cc d); fetching = λ d. absurd (cc d) }

  opened : (t i : ℕ) (part : Part) (write : Bool) → Fetches (O.Opened write) (fetch_view p false e t i part)
  opened t i Whole write = go (i == 0)
    where
      go : (d : Bool) → Fetches (O.Opened write) (if d then S.Ready p t else S.Open p false t e)
      go true = no_fetch (O.Opened write) t
      go false = record { entering = λ d. absurd (cc d); fetching = λ d. refl }
  opened t i (First v) write = no_fetch (O.Opened write) t
  opened t i part write = record { entering = λ d. absurd (cc d); fetching = λ d. refl }

  filling : (t i : ℕ) (part : Part) → Fetches O.Copying (fetch_view p true e t i part)
  filling t i Whole = go (i == 0)
    where
      go : (d : Bool) → Fetches O.Copying (if d then S.Ready p t else S.Open p true t e)
      go true = no_fetch O.Copying t
      go false = record { entering = λ d. refl; fetching = λ d. refl }
  filling t i (First v) = no_fetch O.Copying t
  filling t i part = record { entering = λ d. refl; fetching = λ d. refl }

  stage_fetches : (s : Stage) → Fetches (stage_view u s) (work_view p e s)
  stage_fetches (Mapped k s) = stage_fetches s
  stage_fetches (Copying write h t twin i part) = opened t i part write
  stage_fetches (Copied write h t) = record { entering = λ d. absurd (cc d); fetching = λ d. refl }
  stage_fetches (Filling h t i part) = filling t i part
  stage_fetches (Filled t) = record { entering = λ d. refl; fetching = λ d. refl }
  stage_fetches Entered = record { entering = λ d. refl; fetching = λ d. absurd (cc d) }
  stage_fetches s = record { entering = λ d. absurd (cc d); fetching = λ d. absurd (cc d) }

-- and by its place
pub work_fetches : (m n g : ℕ) (u : Who) (e q : ℕ) (w : Work) → is_worker q (work_of m n g u e w) ≡ true → Fetches (view u g w) (work_of m n g u e w)
work_fetches m n g u e q (On r h s) i = go (h == g) (node_of u == n) i
  where
    go : (c d : Bool) → is_worker q (if c && d then work_view u.p e s else S.Idle) ≡ true → Fetches (if c then stage_view u s else O.Rest) (if c && d then work_view u.p e s else S.Idle)
    go true true i = stage_fetches u u.p e s
    go true false i = absurd (cc i)
    go false d i = absurd (cc i)
work_fetches m n g u e q (Off r) i = absurd (cc i)
work_fetches m n g u e q Gone i = absurd (cc i)
