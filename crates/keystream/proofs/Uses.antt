-- The counters of a message of l blocks are 0 to the last one, and each is behind one mask or one keystream block.
use Rattle.std.proofs.Common.{◌≡◌, ℕ, ◌+◌, ◌-◌, ◌*◌, ◌/◌, ◌%◌, ◌≤◌, ap, arith}
use native.Mathlib.Decide.{ℕ_discrete}
use Rattle.keystream.specs.Laws.{Use, Used, use_counter, last_counter, Counted}
use Rattle.keystream.specs.Laws.Use.{for_mask, for_block}

within : (l : ℕ) (u : Use) → Used l u → use_counter u ≤ last_counter l
within l (for_mask f) h = omega arith
within l (for_block i) h = omega arith

-- a counter's place in its frame of 257 says what it is behind
covered : (l j : ℕ) → j ≤ last_counter l → (u : Use) × Used l u × (use_counter u ≡ j)
covered l j h =
    elim (ℕ_discrete (j % 257) 0) [
      | yes e ↦ (for_mask (j / 257), omega arith, omega arith)
      | no ne ↦ (for_block (256 * (j / 257) + (j % 257 - 1)), omega arith, omega arith)
    ]

-- the place in the frame and the frame are the counter's remainder and quotient by 257
once : (u v : Use) → use_counter u ≡ use_counter v → u ≡ v
once (for_mask f) (for_mask g) e = let s : f ≡ g = omega arith in ap for_mask s
once (for_mask f) (for_block i) e = let z : ⊥ = omega arith in absurd z
once (for_block i) (for_mask f) e = let z : ⊥ = omega arith in absurd z
once (for_block i) (for_block k) e = let s : i ≡ k = omega arith in ap for_block s

pub each_counter-once : (l : ℕ) → Counted l
each_counter-once l = record { within = within l; covered = covered l; once = once }
