-- The mark of a strip's cells: how it is found from the last cell down, and what a write to the cell at the mark makes of it.
use Rattle.std.proofs.Common.{◌≡◌, ◌≢◌, ℕ, zero, suc, ◌+◌, ◌<◌, ◌≤◌, List, [], ◌∷◌, length, get_or, set, refl, ap, ◌∙◌, arith}
use lib.Seq.{take-set-lt}
use Rattle.std.proofs.lemmas.List.{length-set, length-take}
use Rattle.std.proofs.lemmas.Bool.Decides.{nat_tests}
use Rattle.stores.specs.Store.{cut_mark}
use Rattle.stores.specs.Strips.{used, counted, strip_mark, strip_capacity}

-- cells of ff alone
pub used_none : (cs : List ℕ) → ((k : ℕ) → k < length cs → get_or cs k 0 ≡ 255) → used cs ≡ 0
used_none [] all = refl
used_none (x ∷ xs) all =
    let rest = used_none xs (λ k h. all (suc k) (omega arith)) in
    let first : x ≡ 255 = all 0 (omega arith) in
    grind (arith, nat_tests)

-- the last cell that is not ff
pub used_last : (cs : List ℕ) (i : ℕ) → i < length cs → get_or cs i 0 ≢ 255 → ((k : ℕ) → i + 1 ≤ k → k < length cs → get_or cs k 0 ≡ 255) → used cs ≡ i + 1
used_last [] i h e above = absurd (omega arith)
used_last (x ∷ xs) zero h e above =
    let rest = used_none xs (λ k h. above (suc k) (omega arith) (omega arith)) in
    grind (arith, nat_tests)
used_last (x ∷ xs) (suc i) h e above =
    let rest = used_last xs i (omega arith) e (λ k p h. above (suc k) (omega arith) (omega arith)) in
    grind (arith, nat_tests)

-- a write to the first cell past the used ones: it is the first cell of all, or the first past the used ones of the rest
used-set : (cs : List ℕ) (v : ℕ) → used cs < length cs → used (set cs (used cs) v) ≡ cut_mark (used cs) v
used-set [] v h = absurd (omega arith)
used-set (x ∷ xs) v h = go (used (x ∷ xs)) refl h (used-set xs v)
  where
    go : (k : ℕ) → used (x ∷ xs) ≡ k → k < suc (length xs)
        → (used xs < length xs → used (set xs (used xs) v) ≡ cut_mark (used xs) v) → used (set (x ∷ xs) k v) ≡ cut_mark k v
    go zero e h ih = grind (arith, nat_tests)
    go (suc k) e h ih =
        let u : used xs ≡ k = grind (arith, nat_tests) in
        let w : used (set xs k v) ≡ cut_mark k v = rw u at (ih (omega arith)) in
        grind (arith, nat_tests)

-- the mark after a write to the cell at the mark
pub mark_set : (cs : List ℕ) (v : ℕ) → strip_mark cs < strip_capacity cs → strip_mark (set cs (strip_mark cs) v) ≡ cut_mark (strip_mark cs) v
mark_set cs v h =
    ap used (take-set-lt 65536 cs (strip_mark cs) v (omega (arith, length-take 65536 cs))) ∙ used-set (counted cs) v h

-- a write leaves the capacity
pub capacity-set : (cs : List ℕ) (i v : ℕ) → strip_capacity (set cs i v) ≡ strip_capacity cs
capacity-set cs i v = omega (arith, length-take 65536 (set cs i v), length-take 65536 cs, length-set cs i v)
