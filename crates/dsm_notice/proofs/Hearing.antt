-- The pages of which a node hears, from the next one on.
use Rattle.std.proofs.Common.{◌≡◌, ℕ, zero, suc, ◌+◌, ◌-◌, ◌<◌, ◌≤◌, ◌==◌, Bool, true, false, refl, ap, ◌∙◌, arith, eqb-true}
use Rattle.std.proofs.lemmas.Bool.{eqb-false}
use Rattle.std.specs.Int.{bit_at}
use Rattle.dsm_words.specs.Place.{Lay, groups}
use Rattle.dsm_words.specs.Script.{Script}
use Rattle.dsm_notice.specs.Notices.{hear, hear_from, drain_groups, drain_from}
use Rattle.dsm_notice.specs.Finding.{HasGap}

module _ (l : Lay) (n k bits to : ℕ) (rest : Script (Unit {0})) where
  -- what is left at page b
  abbrev pub at_page : ℕ → Script (Unit {0})
  at_page b = hear l n k b (hear_from l n k bits (b + 1) (to - (b + 1)) rest)

  pick : (c from b : ℕ) → suc c + from ≡ to → from ≤ b → bit_at bits b ≡ 1 → HasGap bits from b → (from + 1 ≤ b → hear_from l n k bits (from + 1) c rest ≡ at_page b) → hear_from l n k bits from (suc c) rest ≡ at_page b
  pick c from b e le is gap ih = go (from == b) refl
    where
      go : (t : Bool) → (from == b) ≡ t → hear_from l n k bits from (suc c) rest ≡ at_page b
      go true q =
          let same : from ≡ b = eqb-true from b q in
          let one : bit_at bits from ≡ 1 = ap (λ x. bit_at bits x) same ∙ is in
          let more : c ≡ to - (from + 1) = omega arith in
          rw one (ap (λ x. hear l n k from (hear_from l n k bits (from + 1) x rest)) more ∙ ap at_page same)
      go false q =
          let less : from < b = omega (arith, eqb-false from b q) in
          let none : bit_at bits from ≡ 0 = gap from (omega arith) less in
          rw none (ih (omega arith))

  -- page b is the next one
  pub heard : (c from b : ℕ) → c + from ≡ to → from ≤ b → b < to → bit_at bits b ≡ 1 → HasGap bits from b → hear_from l n k bits from c rest ≡ at_page b
  heard zero from b e le lt is gap = absurd (omega arith)
  heard (suc c) from b e le lt is gap = pick c from b e le is gap (λ more. heard c (from + 1) b (omega arith) more lt is (λ x p q. gap x (omega arith) q))

  -- there is none any more
  pub none_heard : (c from : ℕ) → c + from ≡ to → HasGap bits from to → hear_from l n k bits from c rest ≡ rest
  none_heard zero from e gap = refl
  none_heard (suc c) from e gap =
      let none : bit_at bits from ≡ 0 = gap from (omega arith) (omega arith) in
      rw none (none_heard c (from + 1) (omega arith) (λ x p q. gap x (omega arith) q))

module _ (l : Lay) (n : ℕ) where
  -- all words are before it
  pub first_node : 0 < l.nodes → 0 < groups l → drain_groups l n 0 0 (suc (groups l - (0 + 1))) (drain_from l n (0 + 1) (l.nodes - (0 + 1))) ≡ drain_from l n 0 l.nodes
  first_node h k =
      let e : suc (groups l - (0 + 1)) ≡ groups l = omega arith in
      let f : suc (l.nodes - (0 + 1)) ≡ l.nodes = omega arith in
      ap (λ c. drain_groups l n 0 0 c (drain_from l n (0 + 1) (l.nodes - (0 + 1)))) e ∙ ap (λ c. drain_from l n 0 c) f

  -- behind the last group of a node comes the next node
  pub next_node : (m k : ℕ) → groups l ≤ k + 1 → m + 1 < l.nodes → 0 < groups l → drain_groups l n (m + 1) 0 (suc (groups l - (0 + 1))) (drain_from l n (m + 1 + 1) (l.nodes - (m + 1 + 1))) ≡ drain_groups l n m (k + 1) (groups l - (k + 1)) (drain_from l n (m + 1) (l.nodes - (m + 1)))
  next_node m k last more some =
      let e : suc (groups l - (0 + 1)) ≡ groups l = omega arith in
      let f : suc (l.nodes - (m + 1 + 1)) ≡ l.nodes - (m + 1) = omega arith in
      let z : 0 ≡ groups l - (k + 1) = omega arith in
      ap (λ c. drain_groups l n (m + 1) 0 c (drain_from l n (m + 1 + 1) (l.nodes - (m + 1 + 1)))) e
      ∙ (ap (λ c. drain_from l n (m + 1) c) f ∙ ap (λ c. drain_groups l n m (k + 1) c (drain_from l n (m + 1) (l.nodes - (m + 1)))) z)
