-- A turn reads two digits more, or meets two characters that are no byte.
use Rattle.std.proofs.Common.{arith}
use Rattle.digits.proofs.Pairs.{pairing}
use Rattle.digits.proofs.bytes.Goals as goal

pub returns-then-not-is_empty : goal.returns-then-not-is_empty
returns-then-not-is_empty c = grind (arith, pairing)

pub returns-in_default : goal.returns-in_default
returns-in_default c = grind (arith, pairing)

pub loop-high-preserved : goal.loop-high-preserved
loop-high-preserved c = grind (arith, pairing)

pub returns : goal.returns
returns c = grind (arith, pairing)
