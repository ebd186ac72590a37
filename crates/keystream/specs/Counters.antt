-- Counters, masks and keystream blocks of a nonce N under a function E from blocks to blocks, by their numbers. Assumes nothing.
-- counter N j: one zero bit, the nonce in 63 bits, j in 64 bits.
-- mask E N f: the mask of frame f; a frame has 256 keystream blocks.
-- block_counter i, block_at E N i: the counter behind keystream block i, and the block.
-- block_under E N v i: the same with v for the mask.
-- stream_byte E N o: the byte that message byte o is xored with. Keystream block 0 is for the tag.
-- stream_from E N o n: n of these bytes, from message byte o on.
-- ciphered E N o p: the bytes p, which stand at message byte o, xored with the keystream.
-- xored w skip p: the bytes p xored with those of one keystream block.
-- const0, const1: the blocks whose images are the hash keys. No nonce below 2^63 has them as counters.
use Rattle.std.specs.Prelude.{ℕ, ◌+◌, ◌-◌, ◌*◌, ◌/◌, ◌%◌, ◌^◌, List, map, length, bit_xor, slice_index}
use Rattle.std.specs.List.{range_with_len}
use Rattle.blocks.specs.Blocks.{bytes_of}

abbrev pub counter : ℕ → ℕ → ℕ
counter N j = N * 2 ^ 64 + j

-- a frame takes 257 counters, the first for its mask
abbrev pub mask_counter : ℕ → ℕ
mask_counter f = 257 * f

abbrev pub block_counter : ℕ → ℕ
block_counter i = 257 * (i / 256) + i % 256 + 1

unfoldable pub mask : (ℕ → ℕ) → ℕ → ℕ → ℕ
mask E N f = E (counter N (mask_counter f))

-- keystream block i under the mask v
unfoldable pub block_under : (ℕ → ℕ) → ℕ → ℕ → ℕ → ℕ
block_under E N v i = bit_xor (E (counter N (block_counter i))) v

unfoldable pub block_at : (ℕ → ℕ) → ℕ → ℕ → ℕ
block_at E N i = bit_xor (E (counter N (block_counter i))) (mask E N (i / 256))

unfoldable pub stream_byte : (ℕ → ℕ) → ℕ → ℕ → ℕ
stream_byte E N o = slice_index (bytes_of 16 (block_at E N (1 + o / 16))) (o % 16)

abbrev pub stream_from : (ℕ → ℕ) → ℕ → ℕ → ℕ → List ℕ
stream_from E N o n = map (λ k. stream_byte E N (o + k)) (range_with_len 0 n)

abbrev pub ciphered : (ℕ → ℕ) → ℕ → ℕ → List ℕ → List ℕ
ciphered E N o p = map (λ k. bit_xor (slice_index p k) (stream_byte E N (o + k))) (range_with_len 0 (length p))

-- the bytes p xored with those of the block w from byte `skip` on; past the block's end they stay
abbrev pub xored : ℕ → ℕ → List ℕ → List ℕ
xored w skip p = map (λ k. bit_xor (slice_index p k) (slice_index (bytes_of 16 w) (skip + k))) (range_with_len 0 (length p))

-- 127 one bits and a zero
abbrev pub const0 : ℕ
const0 = 2 ^ 128 - 2

-- 128 one bits
abbrev pub const1 : ℕ
const1 = 2 ^ 128 - 1
