use mathlib.Core.Path.{◌≡◌}
use Prim.Native.Nat.{ℕ, ◌<◌}
use lib.ListN.{length, get_or}
use Rattle.speck.specs.Rounds.{schedule, round_key}
use Rattle.speck.proofs.expand.Given as goal

-- the keys so far, and the schedule's words at the round to come
abbrev pub invariant-loop-i : goal.invariant-loop-i
invariant-loop-i l =
    (length l.key-items ≡ 34) × ((j : ℕ) → j < l.i → get_or l.key-items j 0 ≡ round_key l.key j)
    × (record { k = l.k; l = l.l; l1 = l.l1; l2 = l.l2 } ≡ schedule l.key l.i)
