-- What the top call does.
use Rattle.std.specs.Prelude.{◌≡◌, ◌≢◌, ℕ, ◌≤◌, ◌⊎◌, ◌↔◌, List, IsSome, IsSomeAnd, IfSome}
use Rattle.dsm_io.specs.Faults.{Rose}
use Rattle.dsm_runs.specs.Outcomes.{AllHalted, SomeWants}
use Rattle.dsm_top.specs.declared.plans.Plan.{Plan}
use Rattle.dsm_top.specs.declared.answering.Answer.{Answer}
use Rattle.dsm_top.specs.declared.top.Done.{Done}
use Rattle.dsm_top.specs.Plans.{PlanOf, FirstFault}
use Rattle.dsm_top.specs.Refusals.{refused_word}
use Rattle.dsm_top.specs.Answer.{RefusesAndWrites, WritesLine, Accepts, AskToRun, AskToGenerate, HasRun}
use Rattle.dsm_top.specs.Streams.{Reading, Writing, WritesAll, WritesPrefix}

-- the status of an answer that was written and handed on whole
abbrev pub Answered : Done → Type 0
Answered d = (d.status ≡ 0) ⊎ ((d.status ≡ 1) ⊎ (d.status ≡ 7))

-- The answer was written, or a prefix of it where a call of the sink failed: status 0 where all processors halted, 7 where one ended for want of memory, and else 1.
pub record Concludes (w : Writing) (d : Done) (a : Answer) : Type 0 where
  pub status : Answered d ⊎ (d.status ≡ 5)
  pub ran : d.ran ≡ a.ran
  pub halted : d.status ≡ 0 → IfSome a.ran (λ r. AllHalted r.ends)
  pub wanted : d.status ≡ 7 → IsSomeAnd a.ran (λ r. SomeWants r.ends)
  pub stopped : d.status ≡ 1 → IsSomeAnd a.ran (λ r. (AllHalted r.ends → ⊥) × (SomeWants r.ends → ⊥))
  pub whole : Answered d → WritesAll w a.text.items
  pub prefix : d.status ≡ 5 → WritesPrefix w a.text.items

-- What the top call does with these words: how it ends, what it read and what it wrote. The source is unread, or the sink unwritten, where it is as it was.
pub record IsDone (words : List (List ℕ)) (r : Reading) (w : Writing) (Unread Unwritten : Type 0) (d : Done) : Type 0 where
  pub status : d.status ≤ 7
  -- Status 2 exactly where the words ask for no plan. Nothing is read then, and the line that names the first faulty word is written.
  pub words_fault : (d.status ≡ 2) ↔ ((p : Plan) → PlanOf words p → ⊥)
  pub words_line : d.status ≡ 2 → (k : ℕ) × FirstFault words k × WritesLine w (refused_word k)
  pub words_unread : d.status ≡ 2 → Unread
  -- Status 3 where the text is too long or has a fault. The line with its first fault is written.
  pub text : d.status ≡ 3 → RefusesAndWrites r w
  -- Status 4 only where a read failed, and all others only where none did: so 6, for want of memory. Nothing is written at 4 and 6.
  pub read_fault : d.status ≡ 4 → Rose r.faults_before r.faults_after
  pub read_well : d.status ≢ 4 → r.faults_after ≡ r.faults_before
  pub unwritten : (d.status ≡ 4) ⊎ (d.status ≡ 6) → Unwritten
  -- Where the words ask for the program of a seed nothing is read, and so no read fails and no text is refused.
  pub generated : AskToGenerate words → Unread × (d.status ≢ 3) × (d.status ≢ 4)
  -- In all other cases the plan's program was taken: that of the seed, or the one of the text, which was read whole and has no fault. The answer of the plan
  -- to it was made. It was written and handed on, but for status 5, which comes only where a write or the finish failed: then a prefix was written.
  pub whole : Answered d → (bytes : List ℕ) × Accepts words r d.ran bytes × WritesAll w bytes
  pub prefix : d.status ≡ 5 → (bytes : List ℕ) × Accepts words r d.ran bytes × WritesPrefix w bytes
  -- Where the words ask to run a program, it was run, and the run is as promised.
  pub ran : IsSome d.ran ↔ (AskToRun words × (Answered d ⊎ (d.status ≡ 5)))
  pub run : IfSome d.ran (HasRun words r)
  -- Status 0 where all processors halted, 7 where one ended for want of memory, and else 1.
  pub halted : d.status ≡ 0 → IfSome d.ran (λ a. AllHalted a.ends)
  pub wanted : d.status ≡ 7 → IsSomeAnd d.ran (λ a. SomeWants a.ends)
  pub stopped : d.status ≡ 1 → IsSomeAnd d.ran (λ a. (AllHalted a.ends → ⊥) × (SomeWants a.ends → ⊥))
