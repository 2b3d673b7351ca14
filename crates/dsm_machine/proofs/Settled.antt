-- A point whose job has begun stands before an operation, or has ended.
use Rattle.std.proofs.Common.{◌≡◌, true, List, refl}
use Rattle.dsm_isa.specs.declared.instr.Instr.{Instr}
use Rattle.dsm_words.specs.declared.op.Op.{Op}
use Rattle.dsm_words.specs.Place.{Lay}
use Rattle.dsm_words.specs.Script.{op_of}
use Rattle.dsm_machine.specs.declared.any_phase.AnyPhase.{AnyPhase}
use Rattle.dsm_machine.specs.declared.outcome.Outcome.{Outcome}
use Rattle.dsm_machine.specs.declared.point.Access.TheVariants.{Load, Store}
use Rattle.dsm_machine.specs.declared.point.Next.{Next}
use Rattle.dsm_machine.specs.declared.point.Point.{Point}
use Rattle.dsm_machine.specs.declared.point.Point.TheVariants.{At, Accessing, Setting, Jumping, Printing, Working, Heeding, Stopping, Over}
use Rattle.dsm_machine.specs.Phases.{phase_job}
use Rattle.dsm_machine.specs.Points.{job_at, next_job, point_open, has_begun}
use Rattle.dsm_machine.proofs.Calling.{going_phase}
use Rattle.dsm_protocol.specs.Own.{Own, Who}
use Rattle.dsm_protocol.specs.Jobs.{Job, first_act}
use Rattle.dsm_protocol.specs.Processors.{going_on}

-- its operation is that of the phase
pub first_phase : (u : Who) (p : AnyPhase) (next : Next) (op : Op) (l : Lay) → ((f : Outcome → Job) → op ≡ op_of l (first_act (phase_job p f))) → op ≡ op_of l (first_act (job_at u p (Working next)))
first_phase u p next op l is = is (next_job u next)

-- no head is near
pub going_point : (u : Who) (code : List Instr) (o : Own) (phase : AnyPhase) (at : Point) → point_open phase at ≡ true → has_begun at ≡ true → going_on u code (record { own = o; todo = job_at u phase at }) ≡ record { own = o; todo = job_at u phase at }
going_point u code o phase (Working next) live h = going_phase phase (next_job u next) live u code o
going_point u code o phase (Accessing (Load d w)) live h = refl
going_point u code o phase (Accessing (Store w v)) live h = refl
going_point u code o phase (Setting d v) live h = refl
going_point u code o phase (Jumping to) live h = refl
going_point u code o phase (Printing v) live h = refl
going_point u code o phase (Heeding again) live h = refl
going_point u code o phase (Stopping e) live h = refl
going_point u code o phase (Over e) live h = refl
going_point u code o phase (At head) live h = absurd (cc h)
