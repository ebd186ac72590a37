-- The loop over the bytes is the fold over them.
use Rattle.std.proofs.Common.{arith}
use Rattle.polyhash.proofs.Runs.{absorbing, laws}
use Rattle.polyhash.proofs.running.Running.absorb.Goals as goal

pub loop-b-init : goal.loop-b-init
loop-b-init c = grind (arith, absorbing)

pub loop-b-preserved : goal.loop-b-preserved
loop-b-preserved c = grind (arith, absorbing)

pub returns-clause-laws : goal.returns-clause-laws
returns-clause-laws c = laws
