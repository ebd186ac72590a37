-- A text with its first space in sight, and one without a space. Assumes nothing.
use Rattle.std.proofs.Common.{◌≡◌, ℕ, suc, ◌<◌, List, [], ◌∷◌, ◌++◌, length, get_or, Some, None, refl, arith, ne_eqb}
use Rattle.words.specs.Splits.{parted}

abbrev pub Spaceless : List ℕ → Type 0
Spaceless cs = (i : ℕ) → i < length cs → get_or cs i 0 ≡ 32 → ⊥

rest_spaceless : (c : ℕ) (cs : List ℕ) → Spaceless (c ∷ cs) → Spaceless cs
rest_spaceless c cs h i l e = h (suc i) (omega arith) e

pub parted_none : (cs : List ℕ) → Spaceless cs → parted cs ≡ None
unfolding parted
parted_none [] h = refl
parted_none (c ∷ cs) h = rw (ne_eqb c 32 (h 0 (omega arith)), parted_none cs (rest_spaceless c cs h)) refl

pub parted_some : (xs ys : List ℕ) → Spaceless xs → parted (xs ++ 32 ∷ ys) ≡ Some (xs, ys)
unfolding parted
parted_some [] ys h = refl
parted_some (c ∷ xs) ys h = rw (ne_eqb c 32 (h 0 (omega arith)), parted_some xs ys (rest_spaceless c xs h)) refl
