-- The place that is found is the last used cell.
use Rattle.std.proofs.Common.{sym, rules}
use Rattle.stores.proofs.Cells.{used_none, used_last}
use Rattle.stores.proofs.strip.Strip.mark.Goals as goal

pub returns-in-Some : goal.returns-in-Some
returns-in-Some c = rw c.counted.ensures at (sym (used_last c.counted.result.now c.in-Some.last (search rules) (search rules) (search rules)))

pub returns-in-None : goal.returns-in-None
returns-in-None c = rw c.counted.ensures at (sym (used_none c.counted.result.now (search rules)))
