-- A turn reads one byte more.
use Rattle.std.proofs.Common.{sym, arith, lit<}
use Rattle.sheetreader.proofs.Sums.{number_none, number_more, pow_more, seven_bytes}
use Rattle.sheetreader.proofs.sheet.number.Goals as goal

pub loop-byte-init : goal.loop-byte-init
loop-byte-init c = (sym (number_none c.args.bytes.now), lit< tt)

pub overflow_mul-sum : goal.overflow_mul-sum
overflow_mul-sum c = omega (arith, seven_bytes c.loop-byte.sum c.loop-byte.byte-index c.loop-byte.invariant.1 (omega arith))

pub loop-byte-preserved : goal.loop-byte-preserved
loop-byte-preserved c = grind (arith, number_more, pow_more)
