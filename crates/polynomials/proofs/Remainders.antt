-- The remainder by the modulus: a block that meets the division's equation, and the only one. Assumes nothing.
use Rattle.std.proofs.Common.{◌≡◌, ℕ, zero, suc, ◌+◌, ◌-◌, ◌*◌, ◌/◌, ◌%◌, ◌^◌, ◌<◌, ◌≤◌, cond, sym, refl, ap, ◌∙◌, subst, ap₂, inl, inr, le_refl, not-suc-le-zero, arith, le-ltb, lt-ltb}
use native.Mathlib.Decide.{le_ind}
use lib.Arith.{bin_ind, half_le}
use lib.Bits.{bit_xor, xor_assoc, xor_comm, xor_self, xor_zero_r, xor_lt, xor_shr, xor_block}
use Rattle.polynomials.specs.Polynomials.{times, modulus, reduced, remainder_low, remainder}
use Rattle.std.proofs.lemmas.Bool.{cases_lt}
use Rattle.blocks.proofs.Xors.{xor_middle, xor_doubled}
use Rattle.polynomials.proofs.Sums.{xor_none, xor_last, whole}
use Rattle.polynomials.proofs.Ring.{times-step, times_xor_l, times_double_l, times_comm, times_assoc, times-one, one-times, zero_times}

-- more coefficients than there are change nothing
more : (n f : ℕ) → f ≤ n → remainder_low (suc n) f ≡ remainder_low n f
unfolding remainder_low
more n zero h = refl
more zero (suc f) h = absurd (not-suc-le-zero h)
more (suc n) (suc f) h = ap (λ m. reduced (2 * m + suc f % 2)) (more n (suc f / 2) (half_le h))

enough : (n f : ℕ) → f ≤ n → remainder_low n f ≡ remainder_low f f
enough n f h = le_ind (λ (m : ℕ). remainder_low m f ≡ remainder_low f f) refl (λ m k e. more m f k ∙ e) n h

remainder_zero : remainder 0 ≡ 0
unfolding remainder_low remainder
remainder_zero = refl

remainder-step : (f : ℕ) → remainder f ≡ reduced (2 * remainder (f / 2) + f % 2)
unfolding remainder_low remainder
remainder-step zero = refl
remainder-step (suc f) = ap (λ m. reduced (2 * m + suc f % 2)) (enough f (suc f / 2) (half_le (le_refl (suc f))))

reduced_low : (r : ℕ) → r < 2 ^ 128 → reduced r ≡ r
reduced_low r h = ap (λ t. cond t r (bit_xor r modulus)) (lt-ltb r (2 ^ 128) h)

reduced_high : (r : ℕ) → 2 ^ 128 ≤ r → reduced r ≡ bit_xor r modulus
reduced_high r h = ap (λ t. cond t r (bit_xor r modulus)) (le-ltb r (2 ^ 128) h)

-- taking the modulus from a polynomial of degree 128
pub top_off : (r : ℕ) → 2 ^ 128 ≤ r → r < 2 ^ 129 → bit_xor r modulus ≡ bit_xor (r - 2 ^ 128) 135
top_off r lo hi =
    let e : r ≡ 1 * 2 ^ 128 + (r - 2 ^ 128) = omega arith in
    let s : r - 2 ^ 128 < 2 ^ 128 = omega arith in
    let b : bit_xor (1 * 2 ^ 128 + (r - 2 ^ 128)) (1 * 2 ^ 128 + 135) ≡ 0 * 2 ^ 128 + bit_xor (r - 2 ^ 128) 135 =
    xor_block 128 1 1 (r - 2 ^ 128) 135 s (omega arith) in
    ap (λ n. bit_xor n modulus) e ∙ b ∙ omega arith

reduced_lt : (r : ℕ) → r < 2 ^ 129 → reduced r < 2 ^ 128
reduced_lt r h =
    elim (cases_lt r (2 ^ 128)) [
      | inl lo ↦ subst (λ n. n < 2 ^ 128) (sym (reduced_low r lo)) lo
      | inr hi ↦ subst (λ n. n < 2 ^ 128) (sym (reduced_high r hi ∙ top_off r hi h)) (xor_lt 128 (r - 2 ^ 128) 135 (omega arith) (omega arith))
    ]

pub remainder_lt : (f : ℕ) → remainder f < 2 ^ 128
remainder_lt =
    bin_ind (λ (f : ℕ). remainder f < 2 ^ 128) (subst (λ n. n < 2 ^ 128) (sym remainder_zero) (omega arith))
    (λ f ih. subst (λ n. n < 2 ^ 128) (sym (remainder-step f)) (reduced_lt (2 * remainder (f / 2) + f % 2) (omega arith)))

-- a step of the division takes a multiple of the modulus away
reduced_by : (m r : ℕ) → (q : ℕ) × (bit_xor (times m modulus) r ≡ bit_xor (times q modulus) (reduced r))
reduced_by m r =
    elim (cases_lt r (2 ^ 128)) [
      | inl lo ↦ (m, ap (bit_xor (times m modulus)) (sym (reduced_low r lo)))
      | inr hi ↦ (
        bit_xor m 1,
        sym (
            ap (bit_xor (times (bit_xor m 1) modulus)) (reduced_high r hi)
            ∙ ap (λ n. bit_xor n (bit_xor r modulus)) (times_xor_l m 1 modulus ∙ ap (bit_xor (times m modulus)) (one-times modulus))
            ∙ xor_middle (times m modulus) modulus r modulus
            ∙ ap (bit_xor (bit_xor (times m modulus) r)) (xor_self modulus)
            ∙ xor_zero_r (bit_xor (times m modulus) r)),
      )
    ]

-- the division's equation
pub remainder-divides : (f : ℕ) → (q : ℕ) × (f ≡ bit_xor (times q modulus) (remainder f))
remainder-divides =
    bin_ind (λ (f : ℕ). (q : ℕ) × (f ≡ bit_xor (times q modulus) (remainder f)))
    (0, sym (ap₂ bit_xor (zero_times modulus) remainder_zero))
    (λ f ih.
    let q = ih.0 in
    let r = remainder (f / 2) in
    let l = reduced_by (2 * q) (2 * r + f % 2) in
    let d : f % 2 < 2 = omega arith in (
      l.0,
      sym (whole f) ∙ xor_comm (f % 2) (2 * (f / 2))
          ∙ ap (λ n. bit_xor (2 * n) (f % 2)) ih.1
          ∙ ap (λ n. bit_xor n (f % 2)) (xor_doubled (times q modulus) r)
          ∙ xor_assoc (2 * times q modulus) (2 * r) (f % 2)
          ∙ ap₂ bit_xor (sym (times_double_l q modulus)) (xor_last r (f % 2) d)
          ∙ l.1
          ∙ ap (bit_xor (times l.0 modulus)) (sym (remainder-step f)),
    ))

-- a multiple of the modulus other than 0 has degree 128 or more
high : (p n : ℕ) → p < 2 → 2 ^ 128 ≤ n → 2 ^ 128 ≤ bit_xor (p * modulus) (2 * n)
high p n hp hn =
    let small : p * modulus < 2 ^ 129 = omega arith in
    let z : (p * modulus) / 2 ^ 129 ≡ 0 = omega arith in
    let e : bit_xor (p * modulus) (2 * n) / 2 ^ 129 ≡ 2 * n / 2 ^ 129 = xor_shr (p * modulus) (2 * n) 129 ∙ ap (λ m. bit_xor m (2 * n / 2 ^ 129)) z in
    omega arith

multiple_high : (q : ℕ) → 0 < q → 2 ^ 128 ≤ times modulus q
multiple_high =
    bin_ind (λ (q : ℕ). 0 < q → 2 ^ 128 ≤ times modulus q) (λ h. omega arith)
    (λ q ih h. elim (cases_lt 0 (q / 2)) [
      | inl more ↦ subst (λ n. 2 ^ 128 ≤ n) (sym (times-step modulus q)) (high (q % 2) (times modulus (q / 2)) (omega arith) (ih more))
      | inr last ↦
          let e : q ≡ 1 = omega arith in
          subst (λ n. 2 ^ 128 ≤ n) (sym (ap (times modulus) e ∙ times-one modulus)) (omega arith)
    ])

multiple_low : (q r : ℕ) → r < 2 ^ 128 → r ≡ times q modulus → r ≡ 0
multiple_low q r h e =
    elim (cases_lt 0 q) [
      | inl pos ↦ let b = multiple_high q pos in let c = times_comm modulus q in omega arith
      | inr none ↦ let z : q ≡ 0 = omega arith in e ∙ ap (λ n. times n modulus) z ∙ zero_times modulus
    ]

-- one number below 2^128 meets the division's equation
pub remainder_unique : (f q r : ℕ) → r < 2 ^ 128 → f ≡ bit_xor (times q modulus) r → remainder f ≡ r
remainder_unique f q r h e =
    let d = remainder-divides f in
    let t = remainder f in
    let same : bit_xor (bit_xor (times d.0 modulus) t) (bit_xor (times q modulus) r) ≡ 0 = ap₂ bit_xor (sym d.1) (sym e) ∙ xor_self f in
    let split : bit_xor (times (bit_xor d.0 q) modulus) (bit_xor t r) ≡ 0 =
    ap (λ n. bit_xor n (bit_xor t r)) (times_xor_l d.0 q modulus) ∙ xor_middle (times d.0 modulus) (times q modulus) t r ∙ same in
    xor_none t r (multiple_low (bit_xor d.0 q) (bit_xor t r) (xor_lt 128 t r (remainder_lt f) h)
    (sym (xor_none (times (bit_xor d.0 q) modulus) (bit_xor t r) split)))

pub remainder-small : (r : ℕ) → r < 2 ^ 128 → remainder r ≡ r
remainder-small r h = remainder_unique r 0 r h (sym (ap (λ n. bit_xor n r) (zero_times modulus)))

-- the remainder of a sum is the sum of the remainders
pub remainder_xor : (f g : ℕ) → remainder (bit_xor f g) ≡ bit_xor (remainder f) (remainder g)
remainder_xor f g =
    let c = remainder-divides f in
    let d = remainder-divides g in
    remainder_unique (bit_xor f g) (bit_xor c.0 d.0) (bit_xor (remainder f) (remainder g))
    (xor_lt 128 (remainder f) (remainder g) (remainder_lt f) (remainder_lt g))
    (ap₂ bit_xor c.1 d.1
    ∙ xor_middle (times c.0 modulus) (remainder f) (times d.0 modulus) (remainder g)
    ∙ ap (λ n. bit_xor n (bit_xor (remainder f) (remainder g))) (sym (times_xor_l c.0 d.0 modulus)))

-- multiples of the modulus do not count
remainder_multiple : (q r : ℕ) → remainder (bit_xor (times q modulus) r) ≡ remainder r
remainder_multiple q r =
    let d = remainder-divides r in
    remainder_unique (bit_xor (times q modulus) r) (bit_xor q d.0) (remainder r) (remainder_lt r)
    (ap (bit_xor (times q modulus)) d.1
    ∙ sym (xor_assoc (times q modulus) (times d.0 modulus) (remainder r))
    ∙ ap (λ n. bit_xor n (remainder r)) (sym (times_xor_l q d.0 modulus)))

-- a factor may be reduced first
pub remainder-times-l : (f g : ℕ) → remainder (times (remainder f) g) ≡ remainder (times f g)
remainder-times-l f g =
    let d = remainder-divides f in
    let q = d.0 in
    let swapped : times (times q modulus) g ≡ times (times q g) modulus =
    times_assoc q modulus g ∙ ap (times q) (times_comm modulus g) ∙ sym (times_assoc q g modulus) in
    sym (ap (λ n. remainder (times n g)) d.1
    ∙ ap remainder (times_xor_l (times q modulus) (remainder f) g ∙ ap (λ n. bit_xor n (times (remainder f) g)) swapped)
    ∙ remainder_multiple (times q g) (times (remainder f) g))
