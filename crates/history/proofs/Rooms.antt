-- The pairs of two lists. Assumes nothing.
use Rattle.std.proofs.Common.{◌≡◌, ℕ, zero, suc, ◌<◌, List, [], ◌∷◌, length, get_or, ap, ◌∙◌, arith}
use Rattle.std.proofs.lemmas.Slice.Zip.{length-zip, get_or-zip}
use Rattle.std.specs.List.{AllZip, zip}

-- a pair of the list of pairs, found at n
pub zipped_at : {A B : Type 0} (xs : List A) (ys : List B) (x : A × B) (n : ℕ) → (n < length (zip xs ys)) × (x ≡ get_or (zip xs ys) n x)
    → (n < length xs) × (x.0 ≡ get_or xs n x.0) × (x.1 ≡ get_or ys n x.1)
zipped_at xs ys x n at =
    let left : n < length xs = omega (arith, at.0, length-zip xs ys) in
    let right : n < length ys = omega (arith, at.0, length-zip xs ys) in
    let e = at.1 ∙ get_or-zip xs ys n x left right in
    (left, ap (λ p. p.0) e, ap (λ p. p.1) e)

-- what holds of each pair
pub AllZip-at : {A B : Type 0} (R : A → B → Type 0) (xs : List A) (ys : List B) (n : ℕ) (d : A) (e : B) → AllZip R xs ys → n < length xs
    → R (get_or xs n d) (get_or ys n e)
AllZip-at R [] ys n d e h k = absurd (omega arith)
AllZip-at R (x ∷ xs) [] n d e h k = absurd h
AllZip-at R (x ∷ xs) (y ∷ ys) zero d e h k = h.0
AllZip-at R (x ∷ xs) (y ∷ ys) (suc n) d e h k = AllZip-at R xs ys n d e h.1 (omega arith)
