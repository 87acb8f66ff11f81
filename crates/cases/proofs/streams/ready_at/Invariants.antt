use Rattle.std.proofs.Common.{◌≤◌, length}
use Rattle.cases.proofs.streams.ready_at.Given as goal

abbrev pub invariant-loop : goal.invariant-loop
invariant-loop l = l.at ≤ length l.bytes
