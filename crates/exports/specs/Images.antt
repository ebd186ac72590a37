-- The image of a block under a cipher that is named by a number. Assumes nothing.
-- cipher_of n: the cipher with that number.
-- image_answer c key room: 0, or why there is no image; room is the length of the buffer.
-- image_out c key b buffer: the buffer with the image of block b, or as it was.
use Rattle.std.specs.Prelude.{ℕ, cond, List, length, Some, None, Option, ◌==◌}
use Rattle.blocks.specs.Blocks.{bytes_of}
use Rattle.cipherlines.specs.declared.chosen.Name.{Name}
use Rattle.cipherlines.specs.declared.chosen.Name.TheVariants.{Practice, Aes, Speck}
use Rattle.exports.specs.Sheets.{under}

abbrev pub cipher_of : ℕ → Option Name
cipher_of n = cond (n == 1) (Some Practice) (cond (n == 2) (Some Aes) (cond (n == 3) (Some Speck) None))

abbrev pub image_answer : Option Name → List ℕ → ℕ → ℕ
image_answer c key room = cond (room == 16) (under c key 255 7 (λ E. 0)) 255

abbrev pub image_out : Option Name → List ℕ → ℕ → List ℕ → List ℕ
image_out c key b buffer = cond (length buffer == 16) (under c key buffer buffer (λ E. bytes_of 16 (E b))) buffer
