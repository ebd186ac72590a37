-- Numbers and bytes written in digits: 0 to 9 and a to f, the first the highest, two digits a byte. Assumes nothing.
-- value_of c: the value of the character c, where it is a digit.
-- digits_number cs: the number that the text cs is, where each character is a digit.
-- digits_bytes cs: the bytes that the text cs is, where it is digits and their number is even.
-- number_of n cs: the number that a text of n digits is, of 32 at the most.
use Rattle.std.specs.Prelude.{ℕ, ◌+◌, ◌-◌, ◌*◌, if◌then◌else◌, ◌&&◌, List, [], ◌∷◌, length, Some, None, Option, ◌==◌, nat_le}

abbrev pub value_of : ℕ → Option ℕ
value_of c =
    if nat_le 48 c && nat_le c 57 then Some (c - 48)
    else if nat_le 97 c && nat_le c 102 then Some (c - 87)
    else None

-- the number n, and then a digit
abbrev pub then_digit : Option ℕ → Option ℕ → Option ℕ
then_digit None d = None
then_digit (Some n) None = None
then_digit (Some n) (Some d) = Some (n * 16 + d)

-- the number, if any, that a text already read is, and then the text cs
unfoldable pub digits_from : Option ℕ → List ℕ → Option ℕ
digits_from n [] = n
digits_from n (c ∷ cs) = digits_from (then_digit n (value_of c)) cs

abbrev pub digits_number : List ℕ → Option ℕ
digits_number cs = digits_from (Some 0) cs

abbrev pub number_of : ℕ → List ℕ → Option ℕ
number_of n cs = if length cs == n && nat_le n 32 then digits_number cs else None

-- a byte before bytes
abbrev pub byte_before : Option ℕ → Option (List ℕ) → Option (List ℕ)
byte_before None bs = None
byte_before (Some b) None = None
byte_before (Some b) (Some bs) = Some (b ∷ bs)

unfoldable pub digits_bytes : List ℕ → Option (List ℕ)
digits_bytes [] = Some []
digits_bytes (a ∷ []) = None
digits_bytes (a ∷ b ∷ cs) = byte_before (then_digit (value_of a) (value_of b)) (digits_bytes cs)
