-- A turn reads one digit more, or meets a character that is none.
use Rattle.std.proofs.Common.{◌≡◌, ℕ, ◌+◌, ◌*◌, ◌^◌, ◌<◌, List, get_or, Some, arith}
use Rattle.digits.specs.Digits.{value_of}
use Rattle.digits.proofs.Numbers.{value_lt, number_more, more_bits, few_bits, reading}
use Rattle.digits.proofs.number.Goals as goal

pub loop-c-init : goal.loop-c-init
loop-c-init c = grind (arith, reading)

pub returns-in_err-value-clause-value : goal.returns-in_err-value-clause-value
returns-in_err-value-clause-value c = grind (arith, reading)

-- what a turn makes of the sum fits
next_fits : (cs : List ℕ) (i n d : ℕ) → i < 32 → n < 2 ^ (4 * i) → Some d ≡ value_of (get_or cs i 0) → n * 16 + d < 2 ^ 128
next_fits cs i n d h g e = few_bits (n * 16 + d) (i + 1) (more_bits n d i g (value_lt (get_or cs i 0) d e)) (omega arith)

pub overflow_mul-sum : goal.overflow_mul-sum
overflow_mul-sum c =
    omega (arith, next_fits c.args.text.now c.loop-c.c-index c.loop-c.sum c.in_ok-value.value (omega arith) c.loop-c.invariant.1 c.in_ok-value.ensures)

pub overflow_add-sum : goal.overflow_add-sum
overflow_add-sum c =
    omega (arith, c.from.ensures, next_fits c.args.text.now c.loop-c.c-index c.loop-c.sum c.in_ok-value.value (omega arith) c.loop-c.invariant.1 c.in_ok-value.ensures)

pub loop-c-preserved : goal.loop-c-preserved
loop-c-preserved c =
    let i = c.loop-c.c-index in
    let cs = c.args.text.now in
    let is : c.from.result ≡ c.in_ok-value.value = c.from.ensures in
    let d = value_lt (get_or cs i 0) c.in_ok-value.value c.in_ok-value.ensures in
    rw is (
      number_more cs i c.loop-c.sum c.in_ok-value.value (omega arith) c.loop-c.invariant.0 c.in_ok-value.ensures,
      more_bits c.loop-c.sum c.in_ok-value.value i c.loop-c.invariant.1 d,
    )
