-- xor with a block gives a block, and undoes itself. Assumes nothing.
use Rattle.std.proofs.Common.{◌≡◌, ℕ, ◌%◌, ◌^◌, ◌<◌, arith}
use Rattle.std.proofs.lemmas.Nat.{xor_lt}
use Rattle.blocks.proofs.Xors.{xor_apart}
use Rattle.ciphers.specs.Practices.{xor_image}

pub xor_image-block : (k b : ℕ) → b < 2 ^ 128 → xor_image k b < 2 ^ 128
xor_image-block k b h = xor_lt 128 b (k % 2 ^ 128) h (omega arith)

pub xor_image-apart : (k a b : ℕ) → xor_image k a ≡ xor_image k b → a ≡ b
xor_image-apart k a b e = xor_apart a b (k % 2 ^ 128) e
