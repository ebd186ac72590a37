use Rattle.std.proofs.Common.{◌≡◌, ◌*◌, drop, vec_items}
use Rattle.digits.specs.Digits.{digits_bytes}
use Rattle.digits.proofs.Pairs.{after}
use Rattle.digits.proofs.bytes.Given as goal

-- the text's bytes are those so far, and then those of the rest
abbrev pub invariant-loop-high : goal.invariant-loop-high
invariant-loop-high l = digits_bytes l.text ≡ after (vec_items l.out) (digits_bytes (drop (2 * l.high-index) l.text))
