use mathlib.Core.Path.{◌≡◌}
use lib.ListN.{get_or}
use Rattle.speck.specs.Rounds.{rounds}
use Rattle.speck.proofs.all_rounds.Given as goal

abbrev pub invariant-loop-k : goal.invariant-loop-k
invariant-loop-k l = l.v ≡ rounds l.k-index (λ i. get_or l.keys i 0) l.initial.v
