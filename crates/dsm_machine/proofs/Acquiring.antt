-- The next page at which an acquire looks.
use Rattle.std.proofs.Common.{◌≡◌, ℕ, zero, suc, ◌+◌, ◌-◌, ◌<◌, ◌≤◌, ◌==◌, Bool, true, false, List, if◌then◌else◌, refl, ap, ◌∙◌, arith, eqb-true}
use Rattle.std.proofs.lemmas.Bool.{eqb-false}
use Rattle.dsm_machine.specs.Acquires.{is_mapped_in, HasNoMapped}
use Rattle.dsm_protocol.specs.Own.{Own, Who}
use Rattle.dsm_protocol.specs.Steps.{next_instruction, acquire_from, acquire_page}
use Rattle.dsm_protocol.specs.Processors.{Processor, settled}

module _ (u : Who) (o : Own) (set : List ℕ) (to : ℕ) where
  abbrev pub at_mapped : ℕ → Processor
  at_mapped g = settled o (acquire_page u g (acquire_from u set (g + 1) (to - (g + 1)) next_instruction))

  pick : (c from g : ℕ) → suc c + from ≡ to → from ≤ g → is_mapped_in set o.maps g ≡ true → HasNoMapped set o.maps from g → (from + 1 ≤ g → settled o (acquire_from u set (from + 1) c next_instruction) ≡ at_mapped g) → settled o (acquire_from u set from (suc c) next_instruction) ≡ at_mapped g
  pick c from g e le is gap ih = go (from == g) refl
    where
      go : (t : Bool) → (from == g) ≡ t → settled o (acquire_from u set from (suc c) next_instruction) ≡ at_mapped g
      go true q =
          let same : from ≡ g = eqb-true from g q in
          let one : is_mapped_in set o.maps from ≡ true = ap (λ x. is_mapped_in set o.maps x) same ∙ is in
          let more : c ≡ to - (from + 1) = omega arith in
          ap (λ b. settled o (if b then acquire_page u from (acquire_from u set (from + 1) c next_instruction) else acquire_from u set (from + 1) c next_instruction)) one
          ∙ (ap (λ x. settled o (acquire_page u from (acquire_from u set (from + 1) x next_instruction))) more ∙ ap at_mapped same)
      go false q =
          let less : from < g = omega (arith, eqb-false from g q) in
          let none : is_mapped_in set o.maps from ≡ false = gap from (omega arith) less in
          ap (λ b. settled o (if b then acquire_page u from (acquire_from u set (from + 1) c next_instruction) else acquire_from u set (from + 1) c next_instruction)) none ∙ ih (omega arith)

  pub next_mapped : (c from g : ℕ) → c + from ≡ to → from ≤ g → g < to → is_mapped_in set o.maps g ≡ true → HasNoMapped set o.maps from g → settled o (acquire_from u set from c next_instruction) ≡ at_mapped g
  next_mapped zero from g e le lt is gap = absurd (omega arith)
  next_mapped (suc c) from g e le lt is gap = pick c from g e le is gap (λ more. next_mapped c (from + 1) g (omega arith) more lt is (λ x p q. gap x (omega arith) q))

  pub none_mapped : (c from : ℕ) → c + from ≡ to → HasNoMapped set o.maps from to → settled o (acquire_from u set from c next_instruction) ≡ settled o next_instruction
  none_mapped zero from e gap = refl
  none_mapped (suc c) from e gap =
      let none : is_mapped_in set o.maps from ≡ false = gap from (omega arith) (omega arith) in
      ap (λ b. settled o (if b then acquire_page u from (acquire_from u set (from + 1) c next_instruction) else acquire_from u set (from + 1) c next_instruction)) none ∙ none_mapped c (from + 1) (omega arith) (λ x p q. gap x (omega arith) q)
