-- What xor does to numbers, beside the laws of `lib.Bits`. Assumes nothing.
use Rattle.std.proofs.Common.{◌≡◌, ℕ, zero, suc, ◌+◌, ◌*◌, ◌<◌, sym, ap, ap₂, ◌∙◌, zero-mul, arith}
use lib.Bits.{bit_xor, xor_assoc, xor_comm, xor_self, xor_zero_r, xor_block}

pub xor_twice : (a k : ℕ) → bit_xor (bit_xor a k) k ≡ a
xor_twice a k = xor_assoc a k k ∙ ap (bit_xor a) (xor_self k) ∙ xor_zero_r a

-- xor with one number takes different numbers to different numbers
pub xor_apart : (a b k : ℕ) → bit_xor a k ≡ bit_xor b k → a ≡ b
xor_apart a b k e = sym (xor_twice a k) ∙ ap (λ n. bit_xor n k) e ∙ xor_twice b k

-- the two middle ones of four change places
pub xor_middle : (a b c d : ℕ) → bit_xor (bit_xor a b) (bit_xor c d) ≡ bit_xor (bit_xor a c) (bit_xor b d)
xor_middle a b c d =
    xor_assoc a b (bit_xor c d)
    ∙ ap (bit_xor a) (sym (xor_assoc b c d) ∙ ap (λ n. bit_xor n d) (xor_comm b c) ∙ xor_assoc c b d)
    ∙ sym (xor_assoc a c (bit_xor b d))

-- twice a sum is the sum of the doubles
pub xor_doubled : (a b : ℕ) → 2 * bit_xor a b ≡ bit_xor (2 * a) (2 * b)
xor_doubled a b =
    let e : bit_xor (a * 2 + 0) (b * 2 + 0) ≡ bit_xor a b * 2 + 0 = xor_block 1 a b 0 0 (omega arith) (omega arith) in
    let l : 2 * bit_xor a b ≡ bit_xor a b * 2 + 0 = omega arith in
    let p : a * 2 + 0 ≡ 2 * a = omega arith in
    let q : b * 2 + 0 ≡ 2 * b = omega arith in
    l ∙ sym e ∙ ap₂ bit_xor p q

-- a sum of two bits times a number is the sum of the products
pub xor_bits : (p q a : ℕ) → p < 2 → q < 2 → bit_xor p q * a ≡ bit_xor (p * a) (q * a)
xor_bits zero q a hp hq = ap (λ n. bit_xor n (q * a)) (sym (zero-mul a))
xor_bits (suc zero) zero a hp hq = sym (ap (bit_xor (1 * a)) (zero-mul a) ∙ xor_zero_r (1 * a))
xor_bits (suc zero) (suc zero) a hp hq = zero-mul a ∙ sym (xor_self (1 * a))
xor_bits (suc zero) (suc (suc q)) a hp hq = omega arith
xor_bits (suc (suc p)) q a hp hq = omega arith
