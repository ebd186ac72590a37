-- The block under its frame's mask, the closed form of the published keystream, and three blocks worked out.
use Rattle.std.proofs.Common.{rules}
use Rattle.keystream.proofs.Figures.{practice_figures}
use Rattle.keystream.proofs.Parts.{masked}
use Rattle.keystream.proofs.Streams.{keystream_closed}
use Rattle.keystream.proofs.Keystream.block_of.Goals as goal

pub returns : goal.returns
returns g c = record { value = search (rules, masked); closed = keystream_closed; figures = practice_figures }
