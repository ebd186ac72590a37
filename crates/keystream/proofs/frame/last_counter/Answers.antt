-- A message's blocks and the masks of their frames, counted.
use Rattle.std.proofs.Common.{rules}
use Rattle.keystream.proofs.Uses.{each_counter-once}
use Rattle.keystream.proofs.frame.last_counter.Goals as goal

pub returns : goal.returns
returns c = record { value = search rules; counted = each_counter-once c.args.blocks }
