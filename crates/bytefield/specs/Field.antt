-- The field of the 256 bytes, as FIPS 197 has it: a byte is a polynomial over the bits whose bit i is the coefficient of x^i,
-- the sum is xor, and the product is that of polynomials modulo x^8 + x^4 + x^3 + x + 1. Assumes nothing.
-- times_x a: x times a.
-- product a b: the product of two bytes.
-- inverse a: the byte whose product with a is 1, and 0 for 0.
use Rattle.std.specs.Prelude.{Bool, if◌then◌else◌, ℕ, zero, suc, ◌*◌, ◌/◌, ◌%◌, eqb}
use Rattle.std.specs.Int.Bits.{bit_xor}

-- a shift to the left; the coefficient that x^8 gets is replaced by x^4 + x^3 + x + 1, which is 1b hexadecimal
abbrev pub times_x : ℕ → ℕ
times_x a = bit_xor ((a * 2) % 256) (a / 128 * 0x1b)

-- the sum of the products of a and each of the n lowest terms of b
unfoldable pub times_low : ℕ → ℕ → ℕ → ℕ
times_low zero a b = 0
times_low (suc n) a b = bit_xor ((b % 2) * a) (times_low n (times_x a) (b / 2))

abbrev pub product : ℕ → ℕ → ℕ
product a b = times_low 8 a b

-- the highest number below n that passes the test, or 0 where none does
unfoldable pub found_below : (ℕ → Bool) → ℕ → ℕ
found_below test zero = 0
found_below test (suc n) = if test n then n else found_below test n

unfoldable pub inverse : ℕ → ℕ
inverse a = found_below (λ b. eqb (product a b) 1) 256
