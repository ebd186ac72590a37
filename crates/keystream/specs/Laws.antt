-- What is shown of the keystream: its closed form, three blocks worked out, and which counters a message uses. Assumes nothing.
-- Closed: the published keystream is the list of the blocks in closed form.
-- PracticeFigures: keystream blocks 0, 255 and 256 of nonce 0 under the practice cipher, whatever the key.
-- last_counter l: the last counter of a message of l blocks.
-- Counted: a message of l blocks has keystream blocks 0 to l and the masks of their frames, and behind these lie the counters
-- 0 to last_counter l, each behind exactly one of them.
use Rattle.std.specs.Prelude.{◌≡◌, ℕ, ◌+◌, ◌*◌, ◌/◌, ◌^◌, ◌<◌, ◌≤◌, List, map}
use Rattle.std.specs.List.{range_with_len}
use Rattle.ciphers.specs.Practices.{practice}
use Rattle.keystream.specs.Counters.{block_at, mask_counter, block_counter}
use Rattle.keystream.specs.Published.{keystream, up}

-- no counter of l keystream blocks and their masks passes 64 bits
abbrev pub Closed : Type 0
Closed = (E : ℕ → ℕ) (N l : ℕ) → N < 2 ^ 63 → l + up l 256 ≤ 2 ^ 64 → keystream E (N * 2 ^ 64) l ≡ map (block_at E N) (range_with_len 0 l)

abbrev pub PracticeFigures : Type 0
PracticeFigures = (key : List ℕ) →
    (block_at (practice key) 0 0 ≡ 1) × (block_at (practice key) 0 255 ≡ 256) × (block_at (practice key) 0 256 ≡ 3)

abbrev pub last_counter : ℕ → ℕ
last_counter l = l + up (l + 1) 256

-- what a counter is behind: the mask of a frame, or a keystream block
pub data Use : Type 0 where
  for_mask : ℕ → Use
  for_block : ℕ → Use

-- the uses that a message of l blocks has
abbrev pub Used : ℕ → Use → Type 0
Used l (for_mask f) = f ≤ l / 256
Used l (for_block i) = i ≤ l

abbrev pub use_counter : Use → ℕ
use_counter (for_mask f) = mask_counter f
use_counter (for_block i) = block_counter i

pub record Counted (l : ℕ) : Type 0 where
  pub within : (u : Use) → Used l u → use_counter u ≤ last_counter l
  pub covered : (j : ℕ) → j ≤ last_counter l → (u : Use) × Used l u × (use_counter u ≡ j)
  pub once : (u v : Use) → use_counter u ≡ use_counter v → u ≡ v
