-- The figures are computed.
use Rattle.std.proofs.Common.{refl}
use Rattle.figures.proofs.Worked.{figures}
use Rattle.figures.proofs.worked_example.Goals as goal

pub returns : goal.returns
returns c = record { value = refl; figures = figures }
