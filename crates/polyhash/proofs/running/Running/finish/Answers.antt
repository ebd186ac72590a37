-- The padding's bytes are absorbed one by one, and so the sum is the hash of the string that was absorbed before.
use Rattle.std.proofs.Common.{arith}
use Rattle.polyhash.proofs.Runs.{finishing}
use Rattle.polyhash.proofs.running.Running.finish.Goals as goal

pub loop-init : goal.loop-init
loop-init c = grind (arith, finishing)

pub loop-preserved : goal.loop-preserved
loop-preserved c = grind (arith, finishing)

pub returns-clause-value : goal.returns-clause-value
returns-clause-value c = grind (arith, finishing)

pub returns-clause-whole : goal.returns-clause-whole
returns-clause-whole c = grind (arith, finishing)
