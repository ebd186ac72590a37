-- Keystream blocks under the practice cipher: the key falls out of a block xored with its mask.
use Rattle.std.proofs.Common.{◌≡◌, ℕ, ◌%◌, ◌^◌, ap, ◌∙◌}
use lib.Bits.{bit_xor, xor_self, xor_zero_r}
use Rattle.blocks.specs.Blocks.{number}
use Rattle.blocks.proofs.Xors.{xor_middle}
use Rattle.keystream.specs.Counters.{mask, block_at}
use Rattle.keystream.specs.Laws.{PracticeFigures}

both-keyed : (a b k : ℕ) → bit_xor (bit_xor a k) (bit_xor b k) ≡ bit_xor a b
both-keyed a b k = xor_middle a k b k ∙ ap (bit_xor (bit_xor a b)) (xor_self k) ∙ xor_zero_r (bit_xor a b)

pub practice_figures : PracticeFigures
unfolding block_at mask
practice_figures key = let k = number key % 2 ^ 128 in (both-keyed 1 0 k, both-keyed 256 0 k, both-keyed 258 257 k)
