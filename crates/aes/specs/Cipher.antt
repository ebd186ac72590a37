-- AES-128: its rounds, and the round keys that the key expansion gives, as FIPS 197 has them. Assumes nothing.
-- cipher w s: the state s enciphered with the round keys w.
-- round_key key i: the round key i of a key of sixteen bytes.
-- aes_128 key b: the image of the block b under the key.
use Rattle.std.specs.Prelude.{ℕ, zero, suc, List, [], ◌∷◌, bit_xor, slice_index, slice_index_or}
use Rattle.blocks.specs.Blocks.{number, bytes_of}
use Rattle.bytefield.specs.Substitution.{substitution}
use Rattle.aes.specs.State.{Column, State, column_of, input, output, sub_bytes, shift_rows, mix_columns, add_round_key}

-- a round with the round key k
unfoldable pub round : State → State → State
round k s = add_round_key k (mix_columns (shift_rows (sub_bytes s)))

-- the last round mixes no columns
unfoldable pub final_round : State → State → State
final_round k s = add_round_key k (shift_rows (sub_bytes s))

-- rounds 1 to n
unfoldable pub rounds : ℕ → (ℕ → State) → State → State
rounds zero w s = s
rounds (suc n) w s = round (w (suc n)) (rounds n w s)

abbrev pub cipher : (ℕ → State) → State → State
cipher w s = final_round (w 10) (rounds 9 w (add_round_key (w 0) s))

abbrev pub round_constants : List ℕ
round_constants = 0x01 ∷ 0x02 ∷ 0x04 ∷ 0x08 ∷ 0x10 ∷ 0x20 ∷ 0x40 ∷ 0x80 ∷ 0x1b ∷ 0x36 ∷ []

abbrev pub add_column : Column → Column → Column
add_column a b = column_of (λ r. bit_xor (slice_index a r) (slice_index b r))

-- a column moved up by one place round and round, substituted, and the constant added to its first byte
abbrev pub turned : ℕ → Column → Column
turned constant a =
    bit_xor (substitution (slice_index a 1)) constant ∷ substitution (slice_index a 2) ∷ substitution (slice_index a 3) ∷ substitution (slice_index a 0) ∷ []

-- the round key after k: the first column takes the last one turned, and each other the one before it
unfoldable pub next_round_key : ℕ → State → State
next_round_key constant k =
    let a = add_column (slice_index_or k 0 []) (turned constant (slice_index_or k 3 [])) in
    let b = add_column (slice_index_or k 1 []) a in
    let c = add_column (slice_index_or k 2 []) b in
    let d = add_column (slice_index_or k 3 []) c in
    a ∷ b ∷ c ∷ d ∷ []

unfoldable pub round_key : List ℕ → ℕ → State
round_key key zero = input key
round_key key (suc i) = next_round_key (slice_index round_constants i) (round_key key i)

-- the image of a block under the round keys w
abbrev pub image_with : (ℕ → State) → ℕ → ℕ
image_with w b = number (output (cipher w (input (bytes_of 16 b))))

abbrev pub aes_128 : List ℕ → ℕ → ℕ
aes_128 key b = image_with (round_key key) b
