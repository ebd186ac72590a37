-- No line comes back.
use Rattle.std.proofs.Common.{◌≤◌, length}
use Rattle.marktrace.proofs.day.Given as goal

abbrev pub invariant-loop-number : goal.invariant-loop-number
invariant-loop-number g l = length l.lines.rest.now ≤ length l.fn.lines.rest.now
