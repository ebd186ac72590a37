-- Bytes of blocks in a row, and strings xored. Assumes nothing.
use Rattle.std.proofs.Common.{◌≡◌, ℕ, zero, suc, ◌-◌, ◌*◌, ◌/◌, ◌%◌, ◌<◌, ◌≤◌, List, [], ◌∷◌, ◌++◌, length, get_or, refl, ap, ◌∙◌, ⊎_elim, arith}
use lib.Bits.{bit_xor}
use Rattle.std.proofs.lemmas.List.{length-append, get_or_append_left, get_or-append_right}
use Rattle.std.proofs.lemmas.Bool.{cases_lt}
use Rattle.std.specs.List.{flat_map}
use Rattle.blocks.proofs.Numbers.{length-bytes_of}
use Rattle.blocks.specs.Blocks.{bytes_of}
use Rattle.method.specs.Published.{xored}

pub length-joined : (xs : List ℕ) → length (flat_map (bytes_of 16) xs) ≡ 16 * length xs
length-joined [] = refl
length-joined (x ∷ xs) = omega (arith, length-append (bytes_of 16 x) (flat_map (bytes_of 16) xs), length-bytes_of 16 x, length-joined xs)

-- byte o stands in block o / 16
pub getD_joined : (xs : List ℕ) (o : ℕ) → o < 16 * length xs → get_or (flat_map (bytes_of 16) xs) o 0 ≡ get_or (bytes_of 16 (get_or xs (o / 16) 0)) (o % 16) 0
getD_joined [] o h = let z : ⊥ = omega arith in absurd z
getD_joined (x ∷ xs) o h = ⊎_elim here (there (λ u. getD_joined xs (o - 16) (omega arith))) (cases_lt o 16)
  where
    here : o < 16 → get_or (bytes_of 16 x ++ flat_map (bytes_of 16) xs) o 0 ≡ get_or (bytes_of 16 (get_or (x ∷ xs) (o / 16) 0)) (o % 16) 0
    here u =
        let q : o / 16 ≡ 0 = omega arith in
        let r : o % 16 ≡ o = omega arith in
        rw (q, r) (get_or_append_left (bytes_of 16 x) (flat_map (bytes_of 16) xs) 0 o (omega (arith, length-bytes_of 16 x)))

    there : (16 ≤ o → get_or (flat_map (bytes_of 16) xs) (o - 16) 0 ≡ get_or (bytes_of 16 (get_or xs ((o - 16) / 16) 0)) ((o - 16) % 16) 0) → 16 ≤ o
        → get_or (bytes_of 16 x ++ flat_map (bytes_of 16) xs) o 0 ≡ get_or (bytes_of 16 (get_or (x ∷ xs) (o / 16) 0)) (o % 16) 0
    there next u =
        let q : o / 16 ≡ suc ((o - 16) / 16) = omega arith in
        let r : o % 16 ≡ (o - 16) % 16 = omega arith in
        rw (q, r) (get_or-append_right (bytes_of 16 x) (flat_map (bytes_of 16) xs) 16 o 0 (length-bytes_of 16 x) u ∙ next u)

pub length-xored : (xs ys : List ℕ) → length xs ≤ length ys → length (xored xs ys) ≡ length xs
length-xored [] ys h = refl
length-xored (x ∷ xs) [] h = let z : ⊥ = omega arith in absurd z
length-xored (x ∷ xs) (y ∷ ys) h = ap suc (length-xored xs ys (omega arith))

pub getD_xored : (xs ys : List ℕ) (k : ℕ) → k < length xs → length xs ≤ length ys → get_or (xored xs ys) k 0 ≡ bit_xor (get_or xs k 0) (get_or ys k 0)
getD_xored [] ys k h u = let z : ⊥ = omega arith in absurd z
getD_xored (x ∷ xs) [] k h u = let z : ⊥ = omega arith in absurd z
getD_xored (x ∷ xs) (y ∷ ys) zero h u = refl
getD_xored (x ∷ xs) (y ∷ ys) (suc k) h u = getD_xored xs ys k (omega arith) (omega arith)
