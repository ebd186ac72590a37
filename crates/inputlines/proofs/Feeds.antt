-- A text with its first line feed in sight, and one without a line feed. Assumes nothing.
use Rattle.std.proofs.Common.{◌≡◌, ℕ, zero, suc, ◌+◌, ◌<◌, List, [], ◌∷◌, length, get_or, take, drop, Some, None, refl, add-one, arith, eq-eqb, ne_eqb}
use Rattle.inputlines.specs.Lines.{feed, parted_line}

-- no line feed among the first n
abbrev pub Feedless : ℕ → List ℕ → Type 0
Feedless n cs = (i : ℕ) → i < n → get_or cs i 0 ≡ feed → ⊥

rest_feedless : (n c : ℕ) (cs : List ℕ) → Feedless (suc n) (c ∷ cs) → Feedless n cs
rest_feedless n c cs h i l e = h (suc i) (omega arith) e

pub parted_none : (cs : List ℕ) → Feedless (length cs) cs → parted_line cs ≡ None
unfolding parted_line
parted_none [] h = refl
parted_none (c ∷ cs) h = rw (ne_eqb c feed (h 0 (omega arith)), parted_none cs (rest_feedless (length cs) c cs h)) refl

parted_suc : (cs : List ℕ) (i : ℕ) → i < length cs → Feedless i cs → get_or cs i 0 ≡ feed → parted_line cs ≡ Some (take i cs, drop (suc i) cs)
unfolding parted_line
parted_suc [] i l h e = let z : ⊥ = omega arith in absurd z
parted_suc (c ∷ cs) zero l h e = rw (eq-eqb c feed e) refl
parted_suc (c ∷ cs) (suc i) l h e =
    rw (ne_eqb c feed (h 0 (omega arith)), parted_suc cs i (omega arith) (rest_feedless i c cs h) e) refl

pub parted-at : (cs : List ℕ) (i : ℕ) → i < length cs → Feedless i cs → get_or cs i 0 ≡ feed → parted_line cs ≡ Some (take i cs, drop (i + 1) cs)
parted-at cs i l h e = rw (add-one i) (parted_suc cs i l h e)
