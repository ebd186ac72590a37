-- Sums of polynomials: what xor does beside doubling and beside a coefficient. Assumes nothing.
use Rattle.std.proofs.Common.{◌≡◌, ℕ, zero, suc, ◌+◌, ◌*◌, ◌/◌, ◌%◌, ◌<◌, sym, ap, ◌∙◌, ap₂, one-mul, zero-mul, arith}
use lib.Bits.{bit_xor, xor_comm, xor_shifted}
use Rattle.blocks.proofs.Xors.{xor_twice}

pub xor_none : (a b : ℕ) → bit_xor a b ≡ 0 → a ≡ b
xor_none a b e = sym (xor_twice a b) ∙ ap (λ n. bit_xor n b) e

-- p (a + b) is p a + p b, where p is a coefficient
pub coefficient_xor : (p a b : ℕ) → p < 2 → p * bit_xor a b ≡ bit_xor (p * a) (p * b)
coefficient_xor zero a b hp = zero-mul (bit_xor a b) ∙ sym (ap₂ bit_xor (zero-mul a) (zero-mul b))
coefficient_xor (suc zero) a b hp = one-mul (bit_xor a b) ∙ sym (ap₂ bit_xor (one-mul a) (one-mul b))
coefficient_xor (suc (suc p)) a b hp = omega arith

-- x h + p, where p is a coefficient
pub xor_last : (h p : ℕ) → p < 2 → bit_xor (2 * h) p ≡ 2 * h + p
xor_last h p hp =
    let m : 2 * h ≡ h * 2 = omega arith in
    ap (λ n. bit_xor n p) m ∙ xor_shifted h 1 p hp ∙ omega arith

-- a polynomial is its lowest coefficient and x times the rest
pub whole : (n : ℕ) → bit_xor (n % 2) (2 * (n / 2)) ≡ n
whole n = xor_comm (n % 2) (2 * (n / 2)) ∙ xor_last (n / 2) (n % 2) (omega arith) ∙ omega arith
