-- Before a turn so many rounds are done.
use Rattle.std.proofs.Common.{◌≡◌}
use Rattle.aes.specs.Cipher.{rounds}
use Rattle.aes.specs.Keyed.{held}
use Rattle.aes.proofs.rounds.encipher.Given as goal

abbrev pub invariant-loop-key : goal.invariant-loop-key
invariant-loop-key l = l.t ≡ rounds l.key-index (held l.keys) l.initial.t
