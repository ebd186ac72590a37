-- The mask is the image of its frame's first counter.
use Rattle.std.proofs.Common.{rules}
use Rattle.keystream.specs.Counters.{mask}
use Rattle.keystream.proofs.Keystream.reached_mask.Goals as goal

pub returns : goal.returns
unfolding mask
returns g c = search rules
