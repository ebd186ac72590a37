-- Bytes as a number, and a number as bytes: the first byte is the highest. Assumes nothing.
-- number xs: the number that the bytes xs are.
-- bytes_of n x: the n lowest bytes of x.
-- AllBytes xs: each member of xs is a byte.
use Rattle.std.specs.Prelude.{ℕ, zero, suc, ◌+◌, ◌*◌, ◌/◌, ◌%◌, ◌^◌, ◌<◌, List, [], ◌∷◌}

-- the number n, and then the bytes xs
unfoldable pub number_from : ℕ → List ℕ → ℕ
number_from n [] = n
number_from n (x ∷ xs) = number_from (n * 256 + x) xs

abbrev pub number : List ℕ → ℕ
number xs = number_from 0 xs

unfoldable pub bytes_of : ℕ → ℕ → List ℕ
bytes_of zero x = []
bytes_of (suc n) x = (x / 256 ^ n % 256) ∷ bytes_of n x

abbrev pub AllBytes : List ℕ → Type 0
AllBytes [] = Unit {0}
AllBytes (x ∷ xs) = (x < 256) × AllBytes xs
