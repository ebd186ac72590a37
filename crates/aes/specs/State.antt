-- The state of AES and the four transformations of a round, as FIPS 197 has them. Assumes nothing.
-- State: four columns of four bytes.
-- byte_at s c r: the byte in column c and row r.
-- input, output: sixteen bytes as a state, column by column, and back.
-- sub_bytes, shift_rows, mix_columns, add_round_key: the transformations.
use Rattle.std.specs.Prelude.{ℕ, ◌+◌, ◌*◌, ◌%◌, List, [], ◌∷◌, bit_xor, slice_index, slice_index_or}
use Rattle.bytefield.specs.Field.{times_x}
use Rattle.bytefield.specs.Substitution.{substitution}

abbrev pub Column : Type 0
Column = List ℕ

abbrev pub State : Type 0
State = List Column

abbrev pub byte_at : State → ℕ → ℕ → ℕ
byte_at s c r = slice_index (slice_index_or s c []) r

abbrev pub column_of : (ℕ → ℕ) → Column
column_of f = f 0 ∷ f 1 ∷ f 2 ∷ f 3 ∷ []

-- the state that has f c r in column c and row r
abbrev pub state_of : (ℕ → ℕ → ℕ) → State
state_of f = column_of (f 0) ∷ column_of (f 1) ∷ column_of (f 2) ∷ column_of (f 3) ∷ []

abbrev pub input : List ℕ → State
input xs = state_of (λ c r. slice_index xs (4 * c + r))

abbrev pub output : State → List ℕ
output s =
    byte_at s 0 0 ∷ byte_at s 0 1 ∷ byte_at s 0 2 ∷ byte_at s 0 3
    ∷ byte_at s 1 0 ∷ byte_at s 1 1 ∷ byte_at s 1 2 ∷ byte_at s 1 3
    ∷ byte_at s 2 0 ∷ byte_at s 2 1 ∷ byte_at s 2 2 ∷ byte_at s 2 3
    ∷ byte_at s 3 0 ∷ byte_at s 3 1 ∷ byte_at s 3 2 ∷ byte_at s 3 3 ∷ []

-- each byte is substituted
abbrev pub sub_bytes : State → State
sub_bytes s = state_of (λ c r. substitution (byte_at s c r))

-- row r goes r columns to the left, round and round
abbrev pub shift_rows : State → State
shift_rows s = state_of (λ c r. byte_at s ((c + r) % 4) r)

-- 2 a + 3 b + c + d in the field
abbrev pub mixed : ℕ → ℕ → ℕ → ℕ → ℕ
mixed a b c d = bit_xor (bit_xor (times_x a) (bit_xor (times_x b) b)) (bit_xor c d)

-- each byte of a column becomes 2, 3, 1 and 1 times it and the three below it, round and round
abbrev pub mix_columns : State → State
mix_columns s =
    state_of (λ c r. mixed (byte_at s c r) (byte_at s c ((r + 1) % 4)) (byte_at s c ((r + 2) % 4)) (byte_at s c ((r + 3) % 4)))

-- the xor with a round key; the remainder changes nothing at bytes
abbrev pub add_round_key : State → State → State
add_round_key k s = state_of (λ c r. bit_xor (byte_at s c r) (byte_at k c r % 256))
