-- 128 turns move all terms of b into the sum, and then it is the product.
use Rattle.std.proofs.Common.{◌≡◌, ℕ, ◌*◌, ◌/◌, ◌%◌, ◌^◌, ◌<◌, sym, ap, ◌∙◌, ap₂, arith}
use lib.Bits.{bit_xor, bit_and, xor_assoc, xor_zero_r, and_mask}
use Rattle.std.proofs.lemmas.Nat.{shr-shr}
use Rattle.polynomials.specs.Polynomials.{product, times_x}
use Rattle.polynomials.proofs.Products.{product_step, product_zero, product_laws, ring}
use Rattle.polynomials.proofs.multiply.Goals as goal

-- a turn moves the lowest term of the rest into the sum
turn : (sum x m next : ℕ) → x < 2 ^ 128 → next ≡ times_x x →
    bit_xor (bit_xor sum (bit_and m 1 * x)) (product next (m / 2)) ≡ bit_xor sum (product x m)
turn sum x m next h d =
    ap₂ (λ (b n : ℕ). bit_xor (bit_xor sum (b * x)) (product n (m / 2))) (and_mask m 1) d
    ∙ xor_assoc sum (m % 2 * x) (product (times_x x) (m / 2))
    ∙ ap (bit_xor sum) (sym (product_step x m h))

pub loop-preserved : goal.loop-preserved
loop-preserved c =
    let p = c.loop in
    let next = c.times_x-shifted in (
      omega arith,
      ap (λ n. n / 2) p.invariant.1 ∙ shr-shr c.args.b p.counter 1,
      turn p.sum p.shifted p.rest next.result p.invariant.0 next.ensures ∙ p.invariant.2,
    )

pub returns : goal.returns
returns c =
    let p = c.loop in
    let done : p.counter ≡ 128 = omega arith in
    let none : c.args.b / 2 ^ 128 ≡ 0 = omega arith in
    let rest : p.rest ≡ 0 = p.invariant.1 ∙ ap (λ n. c.args.b / 2 ^ n) done ∙ none in
    let value : p.sum ≡ product c.args.a c.args.b =
    sym (xor_zero_r p.sum) ∙ ap (bit_xor p.sum) (sym (ap (product p.shifted) rest ∙ product_zero p.shifted)) ∙ p.invariant.2 in
    record { value = value; ring = ring; laws = product_laws }
