-- A chosen cipher permutes blocks, since each of the ciphers does. Assumes nothing.
use Rattle.std.proofs.Common.{◌≡◌, ℕ, ◌^◌, ◌<◌, get_or}
use Rattle.ciphers.specs.Practiced.{xor_image-block, xor_image-apart}
use Rattle.aes.specs.Keyed.{held}
use Rattle.aes.specs.Images as aes
use Rattle.speck.specs.Apart as speck
use Rattle.cipherlines.specs.Chosen.{chosen_image}
use Rattle.cipherlines.specs.declared.chosen.Chosen.{Chosen}
use Rattle.cipherlines.specs.declared.chosen.Chosen.TheVariants as chosen

pub image-block : (c : Chosen) (b : ℕ) → b < 2 ^ 128 → chosen_image c b < 2 ^ 128
image-block (chosen.Practice c) b h = xor_image-block c.key b h
image-block (chosen.Aes c) b h = aes.image-block (held c.keys) b
image-block (chosen.Speck c) b h = speck.image-block (λ i. get_or c.keys i 0) b h

pub image-apart : (c : Chosen) (a b : ℕ) → a < 2 ^ 128 → b < 2 ^ 128 → chosen_image c a ≡ chosen_image c b → a ≡ b
image-apart (chosen.Practice c) a b ha hb e = xor_image-apart c.key a b e
image-apart (chosen.Aes c) a b ha hb e = aes.image-apart (held c.keys) a b ha hb e
image-apart (chosen.Speck c) a b ha hb e = speck.image-apart (λ i. get_or c.keys i 0) a b ha hb e
