-- Whether the bytes so far are the same.
use Rattle.checks.proofs.Gaps.{Gap}
use Rattle.checks.proofs.sheet.confirm.same_front.Given as goal

abbrev pub invariant-loop-k : goal.invariant-loop-k
invariant-loop-k l = Gap l.full l.tag l.k l.gap
