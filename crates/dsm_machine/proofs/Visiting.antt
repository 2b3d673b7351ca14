-- The visits of the busy nodes.
use Rattle.std.proofs.Common.{◌≡◌, ℕ, zero, suc, ◌+◌, ◌-◌, ◌<◌, ◌≤◌, ◌==◌, Bool, true, false, if◌then◌else◌, refl, ap, ◌∙◌, arith, eqb-true}
use Rattle.std.proofs.lemmas.Bool.{eqb-false}
use Rattle.std.specs.Int.{bit_at}
use Rattle.dsm_directory.specs.Directory.{is_busy}
use Rattle.dsm_notice.specs.Finding.{HasGap}
use Rattle.dsm_protocol.specs.Own.{Who}
use Rattle.dsm_protocol.specs.Jobs.{Job}
use Rattle.dsm_protocol.specs.Steps.{visit_job, visits_from}

module _ (u : Who) (g h busy to : ℕ) (rest : Job) where
  -- the visit of node b, and the visits behind it
  abbrev pub visit_of : ℕ → Job
  visit_of b = visit_job u b g h (visits_from u g h busy (b + 1) (to - (b + 1)) rest)

  visit_if : (k m : ℕ) (b : Bool) → is_busy busy m ≡ b
      → visits_from u g h busy m (suc k) rest ≡ (if b then visit_job u m g h (visits_from u g h busy (m + 1) k rest) else visits_from u g h busy (m + 1) k rest)
  visit_if k m b is = ap (λ t. if t then visit_job u m g h (visits_from u g h busy (m + 1) k rest) else visits_from u g h busy (m + 1) k rest) is

  pick : (k m b : ℕ) → suc k + m ≡ to → m ≤ b → bit_at busy b ≡ 1 → HasGap busy m b
      → (m + 1 ≤ b → visits_from u g h busy (m + 1) k rest ≡ visit_of b)
      → visits_from u g h busy m (suc k) rest ≡ visit_of b
  pick k m b e le is gap ih = go (m == b) refl
    where
      go : (t : Bool) → (m == b) ≡ t → visits_from u g h busy m (suc k) rest ≡ visit_of b
      go true q =
          let same : m ≡ b = eqb-true m b q in
          let one : is_busy busy m ≡ true = ap (λ x. bit_at busy x == 1) same ∙ ap (λ x. x == 1) is in
          let more : k ≡ to - (m + 1) = omega arith in
          visit_if k m true one ∙ (ap (λ x. visit_job u m g h (visits_from u g h busy (m + 1) x rest)) more ∙ ap visit_of same)
      go false q =
          let less : m < b = omega (arith, eqb-false m b q) in
          visit_if k m false (ap (λ x. x == 1) (gap m (omega arith) less)) ∙ ih (omega arith)

  -- to the first busy node,
  pub first_visit : (k m b : ℕ) → k + m ≡ to → m ≤ b → b < to → bit_at busy b ≡ 1 → HasGap busy m b → visits_from u g h busy m k rest ≡ visit_of b
  first_visit zero m b e le lt is gap = absurd (omega arith)
  first_visit (suc k) m b e le lt is gap = pick k m b e le is gap (λ more. first_visit k (m + 1) b (omega arith) more lt is (λ x p q. gap x (omega arith) q))

  -- or past all nodes
  pub no_visit : (k m : ℕ) → k + m ≡ to → HasGap busy m to → visits_from u g h busy m k rest ≡ rest
  no_visit zero m e gap = refl
  no_visit (suc k) m e gap =
      visit_if k m false (ap (λ x. x == 1) (gap m (omega arith) (omega arith))) ∙ no_visit k (m + 1) (omega arith) (λ x p q. gap x (omega arith) q)
