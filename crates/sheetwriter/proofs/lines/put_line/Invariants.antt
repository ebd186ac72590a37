use Rattle.std.proofs.Common.{◌≡◌, ◌+◌, ◌*◌, take}
use Rattle.digits.specs.Hex.{hex}
use Rattle.sheetwriter.specs.Puts.{put}
use Rattle.sheetwriter.proofs.lines.put_line.Given as goal

-- the digits of the bytes so far
abbrev pub invariant-loop-byte : goal.invariant-loop-byte
invariant-loop-byte l = (l.out ≡ put l.initial.out l.at (hex (take l.byte-index l.bytes))) × (l.end ≡ l.at + 2 * l.byte-index)
