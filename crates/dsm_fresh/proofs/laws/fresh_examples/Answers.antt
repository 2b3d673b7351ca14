use Rattle.std.proofs.Common.{refl, inr, arith}
use Rattle.dsm_fresh.specs.Examples.{worked, reached, Anything, IsStampedFault, IsIdle, NoneMapped, Faults, IsRegisteredFault, IsUsedFault, IsNotEntering, IsNotAlone, IsNotOpen, IsUnused, Rests, LooksUnheld, IsFlagging, IsDrained, IsTaken, IsTakenIdle, without_reset, without_register, without_claim, without_share, without_current_unregistered, without_leave_mapped, without_leave_fetching, without_draw, without_current_unfetched, without_current_stale, without_current_sole, without_enter, without_map, without_send_alone, without_send_entering, without_pass_by, without_tell, without_break_used, without_break_fetching, without_pass, without_drain_none, without_flagged, without_other_time, without_give, without_take, without_skip, without_keep, without_keep_sole, without_settle}
use Rattle.dsm_fresh.proofs.Worked.{meets, breaks}
use Rattle.dsm_fresh.proofs.Tests.{none_passes}
use Rattle.dsm_fresh.proofs.laws.fresh_examples.Goals as goal

pub returns : goal.returns
returns c = record {
  worked = meets worked refl;
  worked_end = (refl, refl, refl);
  reset = breaks Anything without_reset (tt) refl refl refl refl (omega arith);
  register = breaks Anything without_register (tt) refl refl refl refl (omega arith);
  claim = breaks Anything without_claim (tt) refl refl refl refl (omega arith);
  share = breaks Anything without_share (tt) refl refl refl refl (omega arith);
  current_unregistered = breaks IsStampedFault without_current_unregistered ((((omega arith, omega arith), refl, refl), (λ e. absurd (omega (arith, e))), omega arith)) refl refl refl refl (omega arith);
  leave_mapped = breaks IsIdle without_leave_mapped (refl) refl refl refl refl (omega arith);
  leave_fetching = breaks NoneMapped without_leave_fetching (none_passes 2 4 (reached without_leave_fetching) refl) refl refl refl refl (omega arith);
  draw = breaks Faults without_draw (((omega arith, omega arith), refl, refl)) refl refl refl refl (omega arith);
  current_unfetched = breaks IsRegisteredFault without_current_unfetched ((((omega arith, omega arith), refl, refl), (λ e. absurd (omega (arith, e))), omega arith)) refl refl refl refl (omega arith);
  current_stale = breaks IsUsedFault without_current_stale ((((omega arith, omega arith), refl, refl), (λ e. absurd (omega (arith, e))), λ e. absurd (omega (arith, e)))) refl refl refl refl (omega arith);
  current_sole = breaks Faults without_current_sole (((omega arith, omega arith), refl, refl)) refl refl refl refl (omega arith);
  enter = breaks Anything without_enter (tt) refl refl refl refl (omega arith);
  map = breaks Anything without_map (tt) refl refl refl refl (omega arith);
  send_alone = breaks IsNotEntering without_send_alone (refl) refl refl refl refl (omega arith);
  send_entering = breaks IsNotAlone without_send_entering (λ e. absurd (omega (arith, e))) refl refl refl refl (omega arith);
  pass_by = breaks Anything without_pass_by (tt) refl refl refl refl (omega arith);
  tell = breaks Anything without_tell (tt) refl refl refl refl (omega arith);
  break_used = breaks IsNotOpen without_break_used (refl) refl refl refl refl (omega arith);
  break_fetching = breaks IsUnused without_break_fetching (inr refl) refl refl refl refl (omega arith);
  pass = breaks Rests without_pass (refl) refl refl refl refl (omega arith);
  drain_none = breaks LooksUnheld without_drain_none ((refl, refl)) refl refl refl refl (omega arith);
  flagged = breaks IsFlagging without_flagged ((2, refl)) refl refl refl refl (omega arith);
  other_time = breaks Anything without_other_time (tt) refl refl refl refl (omega arith);
  give = breaks IsDrained without_give (refl) refl refl refl refl (omega arith);
  take = breaks Anything without_take (tt) refl refl refl refl (omega arith);
  skip = breaks IsTaken without_skip (refl) refl refl refl refl (omega arith);
  keep = breaks IsTakenIdle without_keep ((refl, refl)) refl refl refl refl (omega arith);
  keep_sole = breaks IsTaken without_keep_sole (refl) refl refl refl refl (omega arith);
  settle = breaks Anything without_settle (tt) refl refl refl refl (omega arith);
}
