use Rattle.std.proofs.Common.{◌≡◌, length}
use Rattle.judging.proofs.counter.counter.Given as goal

abbrev pub invariant-loop : goal.invariant-loop
invariant-loop l = length l.traces.items ≡ l.counter

abbrev pub invariant-loop-c : goal.invariant-loop-c
invariant-loop-c l = length l.traces.items ≡ l.processors
