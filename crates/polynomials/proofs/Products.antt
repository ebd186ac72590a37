-- The product modulo x^128 + x^7 + x^2 + x + 1: its laws, and the steps by which doublings work it out. Assumes nothing.
use Rattle.std.proofs.Common.{◌≡◌, ℕ, zero, suc, ◌-◌, ◌*◌, ◌/◌, ◌%◌, ◌^◌, ◌<◌, cond, sym, ap, ◌∙◌, ap₂, inl, inr, one-mul, zero-mul, arith, le-ltb, lt-ltb}
use lib.Bits.{bit_xor, xor_comm, xor_lt}
use Rattle.std.proofs.lemmas.Bool.{cases_lt}
use Rattle.polynomials.specs.Polynomials.{times, modulus, remainder, product, times_x}
use Rattle.polynomials.specs.Laws.{ProductLaws, Ring}
use Rattle.blocks.proofs.Xors.{xor_twice}
use Rattle.polynomials.proofs.Ring.{times_zero, times-step, times_xor_l, times_xor_r, times_double_l}
use Rattle.polynomials.proofs.Ring.{times_comm, times_assoc, times-one, times-two, one-times}
use Rattle.polynomials.proofs.Remainders.{top_off, remainder_lt, remainder-divides, remainder_unique}
use Rattle.polynomials.proofs.Remainders.{remainder-small, remainder_xor, remainder-times-l}

pub product_lt : (a b : ℕ) → product a b < 2 ^ 128
unfolding product
product_lt a b = remainder_lt (times a b)

pub product_xor_l : (a b c : ℕ) → product (bit_xor a b) c ≡ bit_xor (product a c) (product b c)
unfolding product
product_xor_l a b c = ap remainder (times_xor_l a b c) ∙ remainder_xor (times a c) (times b c)

pub product_xor_r : (a b c : ℕ) → product a (bit_xor b c) ≡ bit_xor (product a b) (product a c)
unfolding product
product_xor_r a b c = ap remainder (times_xor_r a b c) ∙ remainder_xor (times a b) (times a c)

pub product_comm : (a b : ℕ) → product a b ≡ product b a
unfolding product
product_comm a b = ap remainder (times_comm a b)

-- (a b) c, reduced once
grouped : (a b c : ℕ) → product (product a b) c ≡ remainder (times (times a b) c)
unfolding product
grouped a b c = remainder-times-l (times a b) c

pub product_assoc : (a b c : ℕ) → product (product a b) c ≡ product a (product b c)
product_assoc a b c =
    grouped a b c
    ∙ ap remainder (times_assoc a b c ∙ times_comm a (times b c))
    ∙ sym (grouped b c a)
    ∙ product_comm (product b c) a

pub product_zero : (a : ℕ) → product a 0 ≡ 0
unfolding product
product_zero a = ap remainder (times_zero a) ∙ remainder-small 0 (omega arith)

pub product-one : (a : ℕ) → a < 2 ^ 128 → product a 1 ≡ a
unfolding product
product-one a h = ap remainder (times-one a) ∙ remainder-small a h

-- the doubling rule
times_x_is : (a : ℕ) → a < 2 ^ 128 → times_x a ≡ remainder (2 * a)
times_x_is a h =
    elim (cases_lt a (2 ^ 127)) [
      | inl lo ↦ ap (λ t. cond t (2 * a) (bit_xor (2 * a - 2 ^ 128) 135)) (lt-ltb a (2 ^ 127) lo) ∙ sym (remainder-small (2 * a) (omega arith))
      | inr hi ↦
          let e : bit_xor (2 * a) modulus ≡ bit_xor (2 * a - 2 ^ 128) 135 = top_off (2 * a) (omega arith) (omega arith) in
          ap (λ t. cond t (2 * a) (bit_xor (2 * a - 2 ^ 128) 135)) (le-ltb a (2 ^ 127) hi)
          ∙ sym (remainder_unique (2 * a) 1 (bit_xor (2 * a - 2 ^ 128) 135) (xor_lt 128 (2 * a - 2 ^ 128) 135 (omega arith) (omega arith))
          (sym (ap (λ n. bit_xor n (bit_xor (2 * a - 2 ^ 128) 135)) (one-times modulus)
          ∙ ap (bit_xor modulus) (sym e) ∙ xor_comm modulus (bit_xor (2 * a) modulus) ∙ xor_twice (2 * a) modulus)))
    ]

pub product-two : (a : ℕ) → a < 2 ^ 128 → product a 2 ≡ times_x a
unfolding product
product-two a h = ap remainder (times-two a) ∙ sym (times_x_is a h)

digit_low : (p a : ℕ) → p < 2 → a < 2 ^ 128 → remainder (p * a) ≡ p * a
digit_low zero a hp h = ap remainder (zero-mul a) ∙ remainder-small 0 (omega arith) ∙ sym (zero-mul a)
digit_low (suc zero) a hp h = ap remainder (one-mul a) ∙ remainder-small a h ∙ sym (one-mul a)
digit_low (suc (suc p)) a hp h = omega arith

-- by the lowest coefficient c of b: a (c + x b') is c a + (x a) b'
pub product_step : (a b : ℕ) → a < 2 ^ 128 → product a b ≡ bit_xor (b % 2 * a) (product (times_x a) (b / 2))
unfolding product
product_step a b h =
    ap remainder (times-step a b)
    ∙ remainder_xor (b % 2 * a) (2 * times a (b / 2))
    ∙ ap₂ bit_xor (digit_low (b % 2) a (omega arith) h)
    (ap remainder (sym (times_double_l a (b / 2))) ∙ sym (remainder-times-l (2 * a) (b / 2))
    ∙ ap (λ n. remainder (times n (b / 2))) (sym (times_x_is a h)))

pub product_laws : ProductLaws
unfolding product
product_laws = record {
  block = product_lt;
  divides = λ a b. remainder-divides (times a b);
  only = λ a b q r h e. remainder_unique (times a b) q r h e;
  adds_left = product_xor_l;
  adds_right = product_xor_r;
  commutes = product_comm;
  regroups = product_assoc;
  one = product-one;
  two = product-two;
}

pub ring : Ring
ring = record {
  adds_left = times_xor_l;
  adds_right = times_xor_r;
  commutes = times_comm;
  regroups = times_assoc;
  one = times-one;
  two = times-two;
}
