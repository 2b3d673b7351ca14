-- Phases that read or write at the home of a page: as parts of a job.
use Rattle.std.proofs.Common.{◌≡◌, ℕ, ap, ◌∙◌}
use Rattle.dsm_exclusive.specs.declared.breaking.Break.{Break as BreakPhase}
use Rattle.dsm_exclusive.specs.Breaking.{break_rest, break_script}
use Rattle.dsm_incoming.specs.declared.merge.Merge.{Merge as MergePhase}
use Rattle.dsm_incoming.specs.Getting.{merge_rest, merge_script}
use Rattle.dsm_protocol.specs.Own.{Who, node_of}
use Rattle.dsm_protocol.specs.Jobs.{Job, Happen, Began, call, call_noting}
use Rattle.dsm_machine.specs.declared.any_phase.AnyPhase.TheVariants.{OpenMerge, Break}
use Rattle.dsm_machine.specs.declared.outcome.Outcome.{Outcome}
use Rattle.dsm_machine.specs.declared.outcome.Outcome.TheVariants.{Nothing}
use Rattle.dsm_machine.specs.Phases.{phase_job}

module _ (u : Who) (f : Outcome → Job) where
  pub break_begun : (m g p h : ℕ) (x : BreakPhase) → g ≡ p → break_rest x ≡ break_script u.lay m g h
      → phase_job (Break x) f ≡ call (break_script u.lay m p h) (λ _. f Nothing)
  break_begun m g p h x e is = ap (λ s. call s (λ _. f Nothing)) (is ∙ ap (λ y. break_script u.lay m y h) e)

  pub merge_begun : (n g p h : ℕ) (x : MergePhase) → n ≡ node_of u → g ≡ p → merge_rest x ≡ merge_script u.lay (node_of u) g h
      → phase_job (OpenMerge n g x) f ≡ call_noting (Happen (Began (node_of u) p)) (merge_script u.lay (node_of u) p h) (λ _. f Nothing)
  merge_begun n g p h x d e is =
      ap (λ s. call_noting (Happen (Began n g)) s (λ _. f Nothing)) (is ∙ ap (λ y. merge_script u.lay (node_of u) y h) e)
      ∙ (ap (λ y. call_noting (Happen (Began y g)) (merge_script u.lay (node_of u) p h) (λ _. f Nothing)) d
      ∙ ap (λ y. call_noting (Happen (Began (node_of u) y)) (merge_script u.lay (node_of u) p h) (λ _. f Nothing)) e)
