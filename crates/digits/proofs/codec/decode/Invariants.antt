use Rattle.std.proofs.Common.{◌≡◌, ◌++◌, take, drop}
use Rattle.digits.specs.Hex.{unhex}
use Rattle.digits.proofs.codec.decode.Given as goal

-- the bytes so far, and then the buffer as it was
abbrev pub invariant-loop-i : goal.invariant-loop-i
invariant-loop-i l = l.out ≡ take l.i (unhex l.text) ++ drop l.i l.initial.out
