-- The current batch of a sealer, or none: which batch it is, and how many of its nonces were given out. Assumes nothing.
use Rattle.std.specs.Prelude.{ℕ, Some, None, Option}
use Rattle.chm.specs.declared.batch.Batch.{Batch}

-- 0 without a batch
abbrev pub number_of : Option Batch → ℕ
number_of None = 0
number_of (Some b) = b.number

abbrev pub given_of : Option Batch → ℕ
given_of None = 0
given_of (Some b) = b.given
