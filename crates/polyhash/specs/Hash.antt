-- The hash of a string of bytes under a block S, as CHM is published. Assumes nothing.
-- padded m: the string, a one bit, and the fewest zero bits up to a whole block.
-- blocks_of n xs: the first n blocks of sixteen bytes.
-- chained s bs: from zero, each block is xored in and the result multiplied by s.
-- hash s m: the hash.
use Rattle.std.specs.Prelude.{ℕ, zero, suc, ◌-◌, ◌/◌, ◌%◌, List, [], ◌∷◌, ◌++◌, length, take, drop, replicate, fold, bit_xor}
use Rattle.blocks.specs.Blocks.{number}
use Rattle.polynomials.specs.Polynomials.{product}

-- the byte 80 hexadecimal begins with the one bit; a string of whole blocks gets a block of padding more
abbrev pub padded : List ℕ → List ℕ
padded m = m ++ (128 ∷ replicate (15 - length m % 16) 0)

unfoldable pub blocks_of : ℕ → List ℕ → List ℕ
blocks_of zero xs = []
blocks_of (suc n) xs = number (take 16 xs) ∷ blocks_of n (drop 16 xs)

unfoldable pub chained : ℕ → List ℕ → ℕ
chained s bs = fold (λ h b. product (bit_xor h b) s) 0 bs

unfoldable pub hash : ℕ → List ℕ → ℕ
hash s m = chained s (blocks_of (length (padded m) / 16) (padded m))
