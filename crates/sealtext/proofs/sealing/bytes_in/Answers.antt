-- What was decoded is the front of the room.
use Rattle.sealtext.proofs.Decodes.{decoded_in}
use Rattle.sealtext.proofs.sealing.bytes_in.Goals as goal

pub returns : goal.returns
returns c = decoded_in c.args.text.now c.args.room.now c.decode.new.out c.requires c.decode.ensures
