-- A byte makes the part longer, or ends the block.
use Rattle.std.proofs.Common.{arith}
use Rattle.polyhash.proofs.Runs.{stepping}
use Rattle.polyhash.proofs.running.Running.step.Goals as goal

pub returns-then-self-lt15 : goal.returns-then-self-lt15
returns-then-self-lt15 c = grind (arith, stepping)

pub returns-else-self-lt15 : goal.returns-else-self-lt15
returns-else-self-lt15 c = grind (arith, stepping)
