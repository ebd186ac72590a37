-- The bytes of line 1, written out as the numbers' own conversions have them. Assumes nothing.
use Rattle.std.proofs.Common.{◌≡◌, ℕ, ◌/◌, ◌%◌, ◌^◌, ◌<◌, List, [], ◌∷◌, ◌++◌, div-one, arith}
use Rattle.blocks.specs.Blocks.{bytes_of}
use Rattle.sheetlines.specs.Sheets.{first_bytes}

abbrev pub bytes_8 : ℕ → List ℕ
bytes_8 x =
    (x / 2 ^ 56 % 256) ∷ (x / 2 ^ 48 % 256) ∷ (x / 2 ^ 40 % 256) ∷ (x / 2 ^ 32 % 256)
    ∷ (x / 2 ^ 24 % 256) ∷ (x / 2 ^ 16 % 256) ∷ (x / 2 ^ 8 % 256) ∷ (x % 256) ∷ []

abbrev pub bytes_4 : ℕ → List ℕ
bytes_4 x = (x / 2 ^ 24 % 256) ∷ (x / 2 ^ 16 % 256) ∷ (x / 2 ^ 8 % 256) ∷ (x % 256) ∷ []

abbrev pub bytes_2 : ℕ → List ℕ
bytes_2 x = (x / 2 ^ 8 % 256) ∷ (x % 256) ∷ []

-- the last byte of each number is written as a quotient by 256 ^ 0
pub first_spelt : (N m h t : ℕ) → t < 256 → bytes_8 N ++ (bytes_4 m ++ (bytes_2 h ++ t ∷ [])) ≡ first_bytes N m h t
unfolding bytes_of
first_spelt N m h t lt =
    let n1 = div-one N in
    let m1 = div-one m in
    let h1 = div-one h in
    let t1 : t ≡ t / 1 % 256 = omega (arith, div-one t) in
    cc
