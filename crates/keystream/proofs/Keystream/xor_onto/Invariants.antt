-- Below `at` the bytes are xored, from there on they are as they were, and the mask is that of the last block's frame.
use Rattle.std.proofs.Common.{◌≡◌, ℕ, ◌+◌, ◌-◌, ◌/◌, ◌%◌, ◌<◌, ◌≤◌, length, get_or, drop}
use lib.Bits.{bit_xor}
use Rattle.keystream.specs.Counters.{mask, stream_byte}
use Rattle.keystream.proofs.Keystream.xor_onto.Given as goal

abbrev pub invariant-loop-at : goal.invariant-loop-at
invariant-loop-at g l =
    ((k : ℕ) → k < l.at →
    get_or l.bytes k 0 ≡ bit_xor (get_or l.initial.bytes k 0) (stream_byte (g.C.Permutation.image l.self.cipher.now) l.self.nonce (l.offset + k)))
    × (drop l.at l.bytes ≡ drop l.at l.initial.bytes)
    × (l.at ≤ length l.bytes)
    × (0 < l.at → l.at < length l.bytes → (l.offset + l.at) % 16 ≡ 0)
    × (0 < l.at → l.at < length l.bytes →
    l.veil ≡ mask (g.C.Permutation.image l.self.cipher.now) l.self.nonce ((l.offset + l.at) / 16 / 256))

abbrev pub decreases-loop-at : goal.decreases-loop-at
decreases-loop-at g l = length l.bytes - l.at
