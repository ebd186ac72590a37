-- The substitution of AES: the inverse in the field, and then a rule for each bit. Assumes nothing.
-- substitution a: the byte that stands for a.
-- FieldRules: what makes the definitions of the field convincing, whatever way they are worked out.
use Rattle.std.specs.Prelude.{◌≡◌, ℕ, ◌+◌, ◌*◌, ◌/◌, ◌%◌, ◌^◌, ◌<◌}
use Rattle.std.specs.Int.Bits.{bit_xor}
use Rattle.bytefield.specs.Field.{times_x, product, inverse}

-- bit i, from the lowest; places count modulo 8
abbrev pub bit : ℕ → ℕ → ℕ
bit a i = a / 2 ^ (i % 8) % 2

-- output bit i: the xor of bits i, i+4, i+5, i+6 and i+7, and of bit i of 63 hexadecimal
abbrev pub affine_bit : ℕ → ℕ → ℕ
affine_bit a i = (bit a i + bit a (i + 4) + bit a (i + 5) + bit a (i + 6) + bit a (i + 7) + bit 0x63 i) % 2

abbrev pub affine : ℕ → ℕ
affine a =
    affine_bit a 0 + affine_bit a 1 * 2 + affine_bit a 2 * 4 + affine_bit a 3 * 8
    + affine_bit a 4 * 16 + affine_bit a 5 * 32 + affine_bit a 6 * 64 + affine_bit a 7 * 128

unfoldable pub substitution : ℕ → ℕ
substitution a = affine (inverse a)

-- of every byte: its inverse is a byte, 0 for 0, and gives 1 as the product with it; 2 is x; and the product with 3 is the
-- sum of those with 2 and 1
pub record FieldRules (a : ℕ) : Type 0 where
  pub byte : inverse a < 256
  pub at_zero : a ≡ 0 → inverse a ≡ 0
  pub inverts : 0 < a → product a (inverse a) ≡ 1
  pub twice : product a 2 ≡ times_x a
  pub thrice : product a 3 ≡ bit_xor (times_x a) a

-- of every two bytes: different ones are substituted by different ones
abbrev pub Substitutes : Type 0
Substitutes = ((a : ℕ) → a < 256 → FieldRules a) × ((a b : ℕ) → a < 256 → b < 256 → substitution a ≡ substitution b → a ≡ b)
