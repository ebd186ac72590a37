-- Speck128/256 as its designers publish it: words of 64 bits, 34 rounds, a key of four words. Assumes nothing.
-- round k w: the pair of words w after a round with the round key k.
-- round_key key i: the word k_i that the key schedule gives.
-- speck key b: the image of the block b under the key.
use Rattle.std.specs.Prelude.{List, ℕ, zero, suc, ◌+◌, ◌*◌, ◌/◌, ◌%◌, ◌^◌, take, drop}
use Rattle.std.specs.Int.Bits.{bit_or, bit_xor}
use Rattle.blocks.specs.Blocks.{number}

-- the words x and y
abbrev pub Words : Type 0
Words = ℕ × ℕ

-- x rotated right by 8
abbrev pub right_8 : ℕ → ℕ
right_8 x = bit_or (x / 2 ^ 8) ((x * 2 ^ 56) % 2 ^ 64)

-- y rotated left by 3
abbrev pub left_3 : ℕ → ℕ
left_3 y = bit_or ((y * 2 ^ 3) % 2 ^ 64) (y / 2 ^ 61)

-- the new x: the rotated x plus y modulo 2^64, xor the round key; the key's remainder changes nothing at a word
abbrev pub next_x : ℕ → ℕ → ℕ → ℕ
next_x k x y = bit_xor ((right_8 x + y) % 2 ^ 64) (k % 2 ^ 64)

-- the new y: the rotated y xor the new x
abbrev pub round : ℕ → Words → Words
round k w = (next_x k w.0 w.1, bit_xor (left_3 w.1) (next_x k w.0 w.1))

-- rounds 0 to n - 1, with the round keys w
unfoldable pub rounds : ℕ → (ℕ → ℕ) → Words → Words
rounds zero w v = v
rounds (suc n) w v = round (w n) (rounds n w v)

-- the key schedule at round i: the round key k_i, and the words l_i, l_(i+1), l_(i+2) that wait
pub record Schedule : Type 0 where
  pub k : ℕ
  pub l : ℕ
  pub l1 : ℕ
  pub l2 : ℕ

-- a round on l_i and k_i, with i for its key, gives l_(i+3) and k_(i+1)
unfoldable pub scheduled : ℕ → Schedule → Schedule
scheduled i s = record { k = (round i (s.l, s.k)).1; l = s.l1; l1 = s.l2; l2 = (round i (s.l, s.k)).0 }

-- word j of the key's bytes, the first byte the highest
abbrev pub key_word : List ℕ → ℕ → ℕ
key_word key j = number (take 8 (drop (8 * j) key))

-- the key is the words l_2, l_1, l_0, k_0 in this order
abbrev pub first_schedule : List ℕ → Schedule
first_schedule key = record { k = key_word key 3; l = key_word key 2; l1 = key_word key 1; l2 = key_word key 0 }

unfoldable pub schedule : List ℕ → ℕ → Schedule
schedule key zero = first_schedule key
schedule key (suc i) = scheduled i (schedule key i)

abbrev pub round_key : List ℕ → ℕ → ℕ
round_key key i = (schedule key i).k

abbrev pub words : ℕ → Words
words b = (b / 2 ^ 64, b % 2 ^ 64)

abbrev pub joined : Words → ℕ
joined v = v.0 * 2 ^ 64 + v.1

-- the image of a block under the round keys w
abbrev pub image_with : (ℕ → ℕ) → ℕ → ℕ
image_with w b = joined (rounds 34 w (words b))

abbrev pub speck : List ℕ → ℕ → ℕ
speck key b = image_with (round_key key) b
