-- The image of the block's counter, xored with the mask.
use Rattle.std.proofs.Common.{rules}
use Rattle.keystream.specs.Counters.{block_under}
use Rattle.keystream.proofs.Keystream.reached_block.Goals as goal

pub returns : goal.returns
unfolding block_under
returns g c = search rules
