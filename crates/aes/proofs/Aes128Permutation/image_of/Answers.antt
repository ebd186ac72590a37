-- To a state, through the rounds, and back to a block.
use Rattle.std.proofs.Common.{ap, ◌∙◌}
use Rattle.blocks.specs.Blocks.{number}
use Rattle.aes.specs.Cipher.{cipher}
use Rattle.aes.specs.Keyed.{held}
use Rattle.aes.specs.State.{input, output}
use Rattle.aes.proofs.Aes128Permutation.image_of.Goals as goal

pub returns : goal.returns
returns c =
    let w = held c.args.self.now.keys in
    c.from_bytes.ensures.value
    ∙ ap number
    (c.to_block.ensures
    ∙ ap output (c.encipher.ensures ∙ ap (cipher w) (c.from_block-state.ensures ∙ ap input c.to_bytes.ensures.value)))
