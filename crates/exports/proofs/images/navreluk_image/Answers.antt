-- The cipher was made, and the image is its own.
use Rattle.std.proofs.Common.{◌≡◌, ◌+◌, ◌*◌, ◌^◌, length, ◌∙◌, eq-eqb, rules}
use Rattle.blocks.specs.Blocks.{bytes_of}
use Rattle.cipherlines.specs.Chosen.{chosen_image}
use Rattle.exports.proofs.Under.{under_made}
use Rattle.exports.specs.Images.{cipher_of}
use Rattle.exports.proofs.images.navreluk_image.Goals as goal

pub returns-in-Ok-clause-wrote : goal.returns-in-Ok-clause-wrote
returns-in-Ok-clause-wrote c =
    let b = c.args.high * 2 ^ 64 + c.args.low in
    let out = c.args.out.now in
    let image : c.copy_from_slice.new.self ≡ bytes_of 16 (chosen_image c.in-Ok.chosen b) = search rules in
    rw (eq-eqb (length out) 16 c.if-out-ne-BLOCK_BYTES.false)
    (image ∙ under_made (cipher_of c.args.cipher) c.args.key.now out out (λ E. bytes_of 16 (E b)) (chosen_image c.in-Ok.chosen) c.in-Ok.ensures)
