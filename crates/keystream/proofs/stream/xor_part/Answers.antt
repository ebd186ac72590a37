-- The front is xored, and behind it is nothing of the block.
use Rattle.std.proofs.Common.{rules}
use Rattle.keystream.proofs.Parts.{xored_front}
use Rattle.keystream.proofs.stream.xor_part.Goals as goal

pub returns : goal.returns
returns c =
    let p = c.args.part.now in
    let end = c.min-end.result in
    xored_front c.args.word c.args.skip c.min-from.result end p c.loop-k.front c.min-from.ensures c.min-end.ensures c.loop-k.auto.front
    (λ k h. search rules)
