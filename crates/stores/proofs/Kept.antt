-- What a raise of a strip leaves alone: the cells that do not count, and every cell where the power fails on a leftover of ff.
use Rattle.std.proofs.Common.{◌≡◌, ℕ, zero, suc, ◌<◌, Bool, true, false, eqb, List, [], ◌∷◌, get_or, drop, set, sym, refl, ap, ◌∙◌, arith}
use Rattle.std.proofs.lemmas.List.{drop-set-lt, get_or-take, length-take, set-get_or}
use Rattle.std.proofs.lemmas.Bool.{cond_both, eqb-false}
use Rattle.std.proofs.lemmas.Bool.Decides.{nat_tests}
use Rattle.stores.specs.Strips.{used, counted, strip_mark, strip_capacity, raised_cells, used-within}

below : (cs : List ℕ) → eqb (strip_mark cs) (strip_capacity cs) ≡ false → strip_mark cs < 65536
below cs e = let ne = eqb-false (strip_mark cs) (strip_capacity cs) e in omega (arith, used-within (counted cs), length-take 65536 cs)

-- a cell that does not count
pub uncounted_kept : (cs : List ℕ) (on : Bool) (p v : ℕ) → drop 65536 (raised_cells cs on p v) ≡ drop 65536 cs
uncounted_kept cs false p v = refl
uncounted_kept cs true p v = cond_both _ _ _ (λ ds. drop 65536 ds ≡ drop 65536 cs) (λ _. refl) (λ e. drop-set-lt 65536 cs (strip_mark cs) _ (below cs e))

-- the first cell past the used ones holds ff
used_free : (cs : List ℕ) → get_or cs (used cs) 255 ≡ 255
used_free [] = refl
used_free (x ∷ xs) = go (used (x ∷ xs)) refl (used_free xs)
  where
    go : (k : ℕ) → used (x ∷ xs) ≡ k → get_or xs (used xs) 255 ≡ 255 → get_or (x ∷ xs) k 255 ≡ 255
    go zero e ih = grind (arith, nat_tests)
    go (suc k) e ih =
        let u : used xs ≡ k = grind (arith, nat_tests) in
        rw u at ih

-- ff over ff
pub cut_kept : (cs : List ℕ) (on : Bool) → raised_cells cs on 0 255 ≡ cs
cut_kept cs false = refl
cut_kept cs true = cond_both _ _ _ (λ ds. ds ≡ cs) (λ _. refl) (λ e. ff (below cs e))
  where
    ff : strip_mark cs < 65536 → set cs (strip_mark cs) 255 ≡ cs
    ff h =
        let free : get_or cs (strip_mark cs) 255 ≡ 255 = sym (get_or-take 65536 cs (strip_mark cs) 255 h) ∙ used_free (counted cs) in
        ap (set cs (strip_mark cs)) (sym free) ∙ set-get_or cs (strip_mark cs) 255
