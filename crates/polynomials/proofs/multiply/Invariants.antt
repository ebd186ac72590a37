-- What holds at each turn of the doublings.
use Rattle.std.proofs.Common.{◌≡◌, ◌/◌, ◌^◌, ◌<◌}
use lib.Bits.{bit_xor}
use Rattle.polynomials.specs.Polynomials.{product}
use Rattle.polynomials.proofs.multiply.Given as goal

-- the sum, and what the rest of b still brings, is the product
abbrev pub invariant-loop : goal.invariant-loop
invariant-loop l =
    (l.shifted < 2 ^ 128) × (l.rest ≡ l.b / 2 ^ l.counter) × (bit_xor l.sum (product l.shifted l.rest) ≡ product l.a l.b)
