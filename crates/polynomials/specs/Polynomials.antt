-- Polynomials over the two-element field as numbers, and their product modulo x^128 + x^7 + x^2 + x + 1. Assumes nothing.
-- Bit i of a number, from the lowest, is the coefficient of x^i. So the first bit of a block, the highest of its number, is
-- the coefficient of x^127, and its last bit that of x^0: 1 is the polynomial 1, and 2 is x. The sum is bitXor, and 2 * f is x
-- times f. A block is a number below 2^128: a polynomial of degree below 128.
-- times f g: the product of two polynomials of any degree.
-- modulus: x^128 + x^7 + x^2 + x + 1.
-- remainder f: what the long division of f by the modulus leaves.
-- product a b: the remainder of times a b.
-- times_x a: x times the block a, by the doubling rule.
use Rattle.std.specs.Prelude.{ℕ, zero, suc, ◌+◌, ◌-◌, ◌*◌, ◌/◌, ◌%◌, ◌^◌, if◌then◌else◌, bit_xor, nat_lt}

-- by the coefficients of g, the lowest first: f times (c + x g') is c f + x (f g'). At most n coefficients are read
unfoldable pub times_low : ℕ → ℕ → ℕ → ℕ
times_low n f zero = 0
times_low zero f (suc g) = 0
times_low (suc n) f (suc g) = bit_xor (suc g % 2 * f) (2 * times_low n f (suc g / 2))

-- a number has no more bits than its value, so that g is enough to read all its coefficients
unfoldable pub times : ℕ → ℕ → ℕ
unfolding times_low
times f g = times_low g f g

abbrev pub modulus : ℕ
modulus = 2 ^ 128 + 2 ^ 7 + 2 ^ 2 + 2 + 1

-- a step of the long division: where the degree has come to 128, the modulus is taken away
abbrev pub reduced : ℕ → ℕ
reduced r = if nat_lt r (2 ^ 128) then r else bit_xor r modulus

-- the coefficients of f are brought down one by one, the highest first. At most the n lowest are
unfoldable pub remainder_low : ℕ → ℕ → ℕ
remainder_low n zero = 0
remainder_low zero (suc f) = 0
remainder_low (suc n) (suc f) = reduced (2 * remainder_low n (suc f / 2) + suc f % 2)

unfoldable pub remainder : ℕ → ℕ
unfolding remainder_low
remainder f = remainder_low f f

unfoldable pub product : ℕ → ℕ → ℕ
product a b = remainder (times a b)

-- the doubling rule: a shift to the left. From 2^127 on it carries to x^128, which is replaced by x^7 + x^2 + x + 1 (135)
abbrev pub times_x : ℕ → ℕ
times_x a = if nat_lt a (2 ^ 127) then 2 * a else bit_xor (2 * a - 2 ^ 128) 135
