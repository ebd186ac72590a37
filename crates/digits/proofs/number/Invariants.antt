use Rattle.std.proofs.Common.{◌≡◌, ◌*◌, ◌^◌, ◌<◌, take, Some}
use Rattle.digits.specs.Digits.{digits_number}
use Rattle.digits.proofs.number.Given as goal

-- the digits so far are the sum, which has four bits a digit
abbrev pub invariant-loop-c : goal.invariant-loop-c
invariant-loop-c l = (digits_number (take l.c-index l.text) ≡ Some l.sum) × (l.sum < 2 ^ (4 * l.c-index))
