-- Polynomials over the two-element field are a commutative ring, each law by induction over the bits of one factor. Assumes nothing.
use Rattle.std.proofs.Common.{◌≡◌, ℕ, zero, suc, ◌*◌, ◌/◌, ◌%◌, ◌<◌, ◌≤◌, sym, refl, ap, ◌∙◌, ap₂, le_refl, not-suc-le-zero, one-mul, mul-zero, zero-mul, mul-one, mul_left_comm, arith}
use native.Mathlib.Decide.{le_ind}
use lib.Arith.{bin_ind, half_le}
use lib.Bits.{bit_xor, xor_zero_r, xor_mod, xor_shr}
use Rattle.polynomials.specs.Polynomials.{times_low, times}
use Rattle.blocks.proofs.Xors.{xor_middle, xor_doubled, xor_bits}
use Rattle.polynomials.proofs.Sums.{coefficient_xor, whole}

-- more coefficients than there are change nothing
more : (n a b : ℕ) → b ≤ n → times_low (suc n) a b ≡ times_low n a b
unfolding times_low
more n a zero h = refl
more zero a (suc b) h = absurd (not-suc-le-zero h)
more (suc n) a (suc b) h = ap (λ m. bit_xor (suc b % 2 * a) (2 * m)) (more n a (suc b / 2) (half_le h))

enough : (n a b : ℕ) → b ≤ n → times_low n a b ≡ times_low b a b
enough n a b h = le_ind (λ (m : ℕ). times_low m a b ≡ times_low b a b) refl (λ m k e. more m a b k ∙ e) n h

pub times_zero : (a : ℕ) → times a 0 ≡ 0
unfolding times_low times
times_zero a = refl

-- by the lowest coefficient of b
pub times-step : (a b : ℕ) → times a b ≡ bit_xor (b % 2 * a) (2 * times a (b / 2))
unfolding times_low times
times-step a zero = sym (ap (λ n. bit_xor n 0) (zero-mul a))
times-step a (suc b) = ap (λ m. bit_xor (suc b % 2 * a) (2 * m)) (enough b a (suc b / 2) (half_le (le_refl (suc b))))

digit : (n : ℕ) → n % 2 < 2
digit n = omega arith

-- a (b + c) is a b + a c
pub times_xor_r : (a b c : ℕ) → times a (bit_xor b c) ≡ bit_xor (times a b) (times a c)
times_xor_r a =
    bin_ind (λ (b : ℕ). (c : ℕ) → times a (bit_xor b c) ≡ bit_xor (times a b) (times a c))
    (λ c. sym (ap (λ n. bit_xor n (times a c)) (times_zero a)))
    (λ b ih c.
    times-step a (bit_xor b c)
    ∙ ap₂ (λ (p m : ℕ). bit_xor (p * a) (2 * times a m)) (xor_mod b c 1) (xor_shr b c 1)
    ∙ ap₂ bit_xor (xor_bits (b % 2) (c % 2) a (digit b) (digit c))
    (ap (λ m. 2 * m) (ih (c / 2)) ∙ xor_doubled (times a (b / 2)) (times a (c / 2)))
    ∙ xor_middle (b % 2 * a) (c % 2 * a) (2 * times a (b / 2)) (2 * times a (c / 2))
    ∙ ap₂ bit_xor (sym (times-step a b)) (sym (times-step a c)))

-- (a + b) c is a c + b c
pub times_xor_l : (a b c : ℕ) → times (bit_xor a b) c ≡ bit_xor (times a c) (times b c)
times_xor_l a b =
    bin_ind (λ (c : ℕ). times (bit_xor a b) c ≡ bit_xor (times a c) (times b c))
    (times_zero (bit_xor a b) ∙ sym (ap₂ bit_xor (times_zero a) (times_zero b)))
    (λ c ih.
    times-step (bit_xor a b) c
    ∙ ap₂ bit_xor (coefficient_xor (c % 2) a b (digit c)) (ap (λ m. 2 * m) ih ∙ xor_doubled (times a (c / 2)) (times b (c / 2)))
    ∙ xor_middle (c % 2 * a) (c % 2 * b) (2 * times a (c / 2)) (2 * times b (c / 2))
    ∙ ap₂ bit_xor (sym (times-step a c)) (sym (times-step b c)))

-- (x a) b is x (a b), and so is a (x b)
pub times_double_l : (a b : ℕ) → times (2 * a) b ≡ 2 * times a b
times_double_l a =
    bin_ind (λ (b : ℕ). times (2 * a) b ≡ 2 * times a b)
    (times_zero (2 * a) ∙ ap (λ m. 2 * m) (sym (times_zero a)))
    (λ b ih.
    times-step (2 * a) b
    ∙ ap₂ bit_xor (mul_left_comm (b % 2) 2 a) (ap (λ m. 2 * m) ih)
    ∙ sym (xor_doubled (b % 2 * a) (2 * times a (b / 2)))
    ∙ ap (λ m. 2 * m) (sym (times-step a b)))

pub times_double_r : (a b : ℕ) → times a (2 * b) ≡ 2 * times a b
times_double_r a b =
    let e : (2 * b) % 2 ≡ 0 = omega arith in
    let h : (2 * b) / 2 ≡ b = omega arith in
    times-step a (2 * b) ∙ ap₂ (λ (p m : ℕ). bit_xor (p * a) (2 * times a m)) e h ∙ ap (λ m. bit_xor m (2 * times a b)) (zero-mul a)

pub zero_times : (b : ℕ) → times 0 b ≡ 0
zero_times =
    bin_ind (λ (b : ℕ). times 0 b ≡ 0) (times_zero 0)
    (λ b ih. times-step 0 b ∙ ap₂ (λ (m n : ℕ). bit_xor m (2 * n)) (mul-zero (b % 2)) ih)

pub times-one : (a : ℕ) → times a 1 ≡ a
times-one a = times-step a 1 ∙ ap₂ (λ (m n : ℕ). bit_xor m (2 * n)) (one-mul a) (times_zero a) ∙ xor_zero_r a

pub times-two : (a : ℕ) → times a 2 ≡ 2 * a
times-two a = times_double_r a 1 ∙ ap (λ m. 2 * m) (times-one a)

pub one-times : (b : ℕ) → times 1 b ≡ b
one-times =
    bin_ind (λ (b : ℕ). times 1 b ≡ b) (times_zero 1)
    (λ b ih. times-step 1 b ∙ ap₂ (λ (m n : ℕ). bit_xor m (2 * n)) (mul-one (b % 2)) ih ∙ whole b)

-- a coefficient as a polynomial
digit-times : (p a : ℕ) → p < 2 → times p a ≡ p * a
digit-times zero a h = zero_times a ∙ sym (zero-mul a)
digit-times (suc zero) a h = one-times a ∙ sym (one-mul a)
digit-times (suc (suc p)) a h = omega arith

pub times_comm : (a b : ℕ) → times a b ≡ times b a
times_comm a =
    bin_ind (λ (b : ℕ). times a b ≡ times b a) (times_zero a ∙ sym (zero_times a))
    (λ b ih.
    times-step a b
    ∙ ap₂ bit_xor (sym (digit-times (b % 2) a (digit b))) (ap (λ m. 2 * m) ih ∙ sym (times_double_l (b / 2) a))
    ∙ sym (times_xor_l (b % 2) (2 * (b / 2)) a)
    ∙ ap (λ m. times m a) (whole b))

pub times_assoc : (a b c : ℕ) → times (times a b) c ≡ times a (times b c)
times_assoc a b =
    bin_ind (λ (c : ℕ). times (times a b) c ≡ times a (times b c))
    (times_zero (times a b) ∙ sym (ap (times a) (times_zero b) ∙ times_zero a))
    (λ c ih.
    times-step (times a b) c
    ∙ ap₂ bit_xor (scale (c % 2) (digit c)) (ap (λ m. 2 * m) ih ∙ sym (times_double_r a (times b (c / 2))))
    ∙ sym (times_xor_r a (c % 2 * b) (2 * times b (c / 2)))
    ∙ ap (times a) (sym (times-step b c)))
  where
    scale : (p : ℕ) → p < 2 → p * times a b ≡ times a (p * b)
    scale zero h = zero-mul (times a b) ∙ sym (ap (times a) (zero-mul b) ∙ times_zero a)
    scale (suc zero) h = one-mul (times a b) ∙ sym (ap (times a) (one-mul b))
    scale (suc (suc p)) h = omega arith
