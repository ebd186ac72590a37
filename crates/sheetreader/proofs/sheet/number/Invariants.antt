-- The sum is the number of the bytes so far, and has eight bits a byte.
use Rattle.std.proofs.Common.{◌≡◌, ◌^◌, ◌<◌, take}
use Rattle.blocks.specs.Blocks.{number}
use Rattle.sheetreader.proofs.sheet.number.Given as goal

abbrev pub invariant-loop-byte : goal.invariant-loop-byte
invariant-loop-byte l = (l.sum ≡ number (take l.byte-index l.bytes)) × (l.sum < 256 ^ l.byte-index)
