-- What makes the definitions of the products convincing, whatever way they are worked out. Assumes nothing.
-- Ring: polynomials of any degree are a commutative ring in which 2 is x.
-- ProductLaws: the product modulo x^128 + x^7 + x^2 + x + 1 is the block that the division leaves, it is a commutative
-- ring's, and 2 is x.
use Rattle.std.specs.Prelude.{◌≡◌, ℕ, ◌*◌, ◌^◌, ◌<◌, bit_xor}
use Rattle.polynomials.specs.Polynomials.{times, modulus, product, times_x}

-- sums may be taken before the product or after it, the order and the grouping of factors do not count, 1 changes nothing
pub record Ring : Type 0 where
  pub adds_left : (f g h : ℕ) → times (bit_xor f g) h ≡ bit_xor (times f h) (times g h)
  pub adds_right : (f g h : ℕ) → times f (bit_xor g h) ≡ bit_xor (times f g) (times f h)
  pub commutes : (f g : ℕ) → times f g ≡ times g f
  pub regroups : (f g h : ℕ) → times (times f g) h ≡ times f (times g h)
  pub one : (f : ℕ) → times f 1 ≡ f
  pub two : (f : ℕ) → times f 2 ≡ 2 * f

-- block, divides and only say which number the product is: a block that differs from times a b by a multiple of the modulus,
-- and no other block does. The rest is as above, and two is the doubling rule
pub record ProductLaws : Type 0 where
  pub block : (a b : ℕ) → product a b < 2 ^ 128
  pub divides : (a b : ℕ) → (q : ℕ) × (times a b ≡ bit_xor (times q modulus) (product a b))
  pub only : (a b q r : ℕ) → r < 2 ^ 128 → times a b ≡ bit_xor (times q modulus) r → product a b ≡ r
  pub adds_left : (a b c : ℕ) → product (bit_xor a b) c ≡ bit_xor (product a c) (product b c)
  pub adds_right : (a b c : ℕ) → product a (bit_xor b c) ≡ bit_xor (product a b) (product a c)
  pub commutes : (a b : ℕ) → product a b ≡ product b a
  pub regroups : (a b c : ℕ) → product (product a b) c ≡ product a (product b c)
  pub one : (a : ℕ) → a < 2 ^ 128 → product a 1 ≡ a
  pub two : (a : ℕ) → a < 2 ^ 128 → product a 2 ≡ times_x a
