-- Below `at` the bytes are written, and the words are those after `at` bytes.
use Rattle.std.proofs.Common.{◌≡◌, ℕ, ◌+◌, ◌-◌, ◌<◌, ◌≤◌, length, get_or}
use lib.Bits.{bit_xor}
use Rattle.chm.specs.Words.{steps, step_byte}
use Rattle.chm.proofs.words.KeyWords.send.Given as goal

abbrev pub invariant-loop-at : goal.invariant-loop-at
invariant-loop-at g l =
    ((k : ℕ) → k < l.at →
    get_or l.out k 0 ≡ bit_xor (get_or l.piece k 0) (step_byte (g.C.Permutation.image l.stream.cipher.now) l.stream.nonce l.fn.self k))
    × (l.at ≤ length l.piece)
    × (l.words ≡ steps (g.C.Permutation.image l.stream.cipher.now) l.stream.nonce l.fn.self l.at)
    × (l.words.len ≡ l.fn.self.len + l.at)

abbrev pub decreases-loop-at : goal.decreases-loop-at
decreases-loop-at g l = length l.piece - l.at
