-- The first 65,536 cells, or all.
use Rattle.std.proofs.lemmas.List.{take_min}
use Rattle.stores.proofs.strip.Strip.counted.Goals as goal

pub returns : goal.returns
returns c = rw c.min.ensures (take_min 65536 c.args.self.now.cells.now)
