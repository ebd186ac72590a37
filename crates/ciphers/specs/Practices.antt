-- The practice cipher. Assumes nothing.
use Rattle.std.specs.Prelude.{ℕ, ◌%◌, ◌^◌, List, bit_xor}
use Rattle.blocks.specs.Blocks.{number}

-- the block xor the number k; the remainder makes a block of any number, and changes nothing at a block
abbrev pub xor_image : ℕ → ℕ → ℕ
xor_image k b = bit_xor b (k % 2 ^ 128)

-- the block xor the key
abbrev pub practice : List ℕ → ℕ → ℕ
practice key = xor_image (number key)
