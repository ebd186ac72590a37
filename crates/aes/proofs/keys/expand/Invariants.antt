-- Before turn i the round keys 0 to i are in place, and the last of them is at hand.
use Rattle.std.proofs.Common.{◌≡◌, ℕ, List, length}
use Rattle.aes.specs.State.{input}
use Rattle.aes.proofs.Begun.{Begun}
use Rattle.aes.proofs.keys.expand.Given as goal

-- the key itself is spent: it is any that gives the first round key
abbrev pub invariant-loop-i : goal.invariant-loop-i
invariant-loop-i l = (length l.keys ≡ 11) × ((key : List ℕ) → l.initial.k.columns ≡ input key → Begun key l.i l.k l.keys)
