-- Lists made from a count.
use Rattle.std.proofs.Common.{◌≡◌, ℕ, zero, suc, ◌+◌, ◌<◌, ◌∷◌, ◌++◌, map, sym, refl, ap, ◌∙◌, arith}
use Rattle.std.specs.List.{range_with_len}
use Rattle.std.proofs.lemmas.List.{same_lists, map-append}
use Rattle.std.proofs.lemmas.List.FromFn.{length-map-range_with_len, get_or-map-range_with_len}

pub map_counting_same : {X : Type 0} (f g : ℕ → X) (a b n : ℕ) → ((i : ℕ) → i < n → f (a + i) ≡ g (b + i)) →
    map f (range_with_len a n) ≡ map g (range_with_len b n)
map_counting_same f g a b n h =
    same_lists _ _ (length-map-range_with_len f a n ∙ sym (length-map-range_with_len g b n))
    (λ k d l. let u : k < n = omega (arith, length-map-range_with_len f a n) in
    get_or-map-range_with_len f a n k (a + k) d u refl ∙ h k u ∙ sym (get_or-map-range_with_len g b n k (b + k) d u refl))

pub counting_append : (a m n : ℕ) → range_with_len a (m + n) ≡ range_with_len a m ++ range_with_len (a + m) n
counting_append a zero n = let z : zero + n ≡ n = omega arith in let e : a + zero ≡ a = omega arith in rw (z, e) refl
counting_append a (suc m) n =
    let z : suc m + n ≡ suc (m + n) = omega arith in
    let e : a + suc m ≡ a + 1 + m = omega arith in
    rw (z, e) (ap (λ xs. a ∷ xs) (counting_append (a + 1) m n))

pub map_counting_append : {X : Type 0} (f : ℕ → X) (a m n : ℕ) →
    map f (range_with_len a (m + n)) ≡ map f (range_with_len a m) ++ map f (range_with_len (a + m) n)
map_counting_append f a m n = ap (map f) (counting_append a m n) ∙ map-append f (range_with_len a m) (range_with_len (a + m) n)
