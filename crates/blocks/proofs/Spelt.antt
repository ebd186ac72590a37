-- Bytes and their number, as the library's conversions have them. Assumes nothing.
use Rattle.std.proofs.Common.{◌≡◌, ℕ, zero, suc, ◌/◌, ◌%◌, ◌^◌, List, [], ◌∷◌, map, length, get_or, sym, refl, ap, ◌∙◌, div-one, arith}
use mir.Syntax.{w64, w128}
use Rattle.std.specs.Int.{bytes_high_first, from_be_bytes}
use Rattle.std.specs.List.{range_with_len}
use Rattle.std.proofs.lemmas.List.FromFn.{fill_by_all}
use Rattle.blocks.specs.Blocks.{number, number_from, bytes_of}

-- a list of n numbers is its places in turn: at a numeral n the right side computes to a written list
pub spelt : (n : ℕ) (xs : List ℕ) → length xs ≡ n → xs ≡ map (λ i. get_or xs i 0) (range_with_len 0 n)
spelt n xs e = fill_by_all (λ i. get_or xs i 0) xs n 0 e (λ i h. refl)

-- the library's number of bytes, the highest first
pub number_16 : (xs : List ℕ) → length xs ≡ 16 → from_be_bytes w128 xs ≡ number xs
unfolding number_from
number_16 xs e = sym (ap number (spelt 16 xs e) ∙ omega arith)

pub number_8 : (xs : List ℕ) → length xs ≡ 8 → from_be_bytes w64 xs ≡ number xs
unfolding number_from
number_8 xs e = sym (ap number (spelt 8 xs e) ∙ omega arith)

-- the library's bytes of a number, the highest first
pub bytes_high_first_is : (n x : ℕ) → bytes_high_first n x ≡ bytes_of n x
unfolding bytes_of
bytes_high_first_is zero x = refl
bytes_high_first_is (suc zero) x = ap (λ y. (y % 256) ∷ []) (sym (div-one x))
bytes_high_first_is (suc (suc n)) x = ap (λ bs. (x / 256 ^ suc n % 256) ∷ bs) (bytes_high_first_is (suc n) x)
