-- The digits of the bytes so far are appended.
use Rattle.std.proofs.Common.{◌≡◌, ◌++◌, take, vec_items}
use Rattle.digits.specs.Hex.{hex}
use Rattle.opentext.proofs.text.push_line.Given as goal

abbrev pub invariant-loop-byte : goal.invariant-loop-byte
invariant-loop-byte l = vec_items l.out ≡ vec_items l.initial.out ++ hex (take l.byte-index l.bytes)
