-- What holds at each byte of the piece.
use Rattle.std.proofs.Common.{◌≡◌, take}
use Rattle.polyhash.specs.Running.{absorbed}
use Rattle.polyhash.proofs.running.Running.absorb.Given as goal

-- the bytes before this one are absorbed
abbrev pub invariant-loop-b : goal.invariant-loop-b
invariant-loop-b l = l.self ≡ absorbed l.initial.self (take l.b-index l.bytes)
