-- Bytes as digits, and digits as bytes: two digits a byte, the higher first. Assumes nothing.
-- digit d: the digit of a value below 16.
-- hex bs: the digits of the bytes bs.
-- block_text b: the 32 digits of the block b, leading zeros too.
-- is_digit c, value c: whether c is a digit, and its value, 0 where it is none.
-- unhex cs: the bytes that the digits cs are; a last digit without a second one is left out.
-- decoded cs out: the buffer out with these bytes at its front, as many as it has room for.
use Rattle.std.specs.Prelude.{ℕ, ◌+◌, ◌*◌, ◌/◌, ◌%◌, Bool, if◌then◌else◌, List, [], ◌∷◌, ◌++◌, length, take, drop, is_some, nat_lt}
use Rattle.std.specs.Option.{unwrap_or}
use Rattle.blocks.specs.Blocks.{bytes_of}
use Rattle.digits.specs.Digits.{value_of}

abbrev pub digit : ℕ → ℕ
digit d = if nat_lt d 10 then 48 + d else 87 + d

abbrev pub hex : List ℕ → List ℕ
hex [] = []
hex (b ∷ bs) = digit (b / 16) ∷ digit (b % 16) ∷ hex bs

abbrev pub block_text : ℕ → List ℕ
block_text b = hex (bytes_of 16 b)

abbrev pub is_digit : ℕ → Bool
is_digit c = is_some (value_of c)

abbrev pub value : ℕ → ℕ
value c = unwrap_or (value_of c) 0

abbrev pub unhex : List ℕ → List ℕ
unhex [] = []
unhex (a ∷ []) = []
unhex (a ∷ b ∷ cs) = (16 * value a + value b) ∷ unhex cs

abbrev pub decoded : List ℕ → List ℕ → List ℕ
decoded cs out = take (length out) (unhex cs) ++ drop (length (unhex cs)) out
