-- A turn xors one byte more.
use Rattle.std.proofs.Common.{◌≡◌, ℕ, ◌+◌, ◌<◌, ◌≤◌, get_or}
use lib.Bits.{bit_xor}
use Rattle.keystream.proofs.stream.xor_part.Given as goal

abbrev pub invariant-loop-k : goal.invariant-loop-k
invariant-loop-k l =
    ((k : ℕ) → k < l.k → get_or l.front k 0 ≡ bit_xor (get_or l.initial.front k 0) (get_or l.stream (l.from + k) 0))
    × ((k : ℕ) → l.k ≤ k → get_or l.front k 0 ≡ get_or l.initial.front k 0)
