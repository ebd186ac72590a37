-- Comparing two strings by the or of their xors. Assumes nothing.
use Rattle.std.proofs.Common.{◌≡◌, ℕ, ◌+◌, ◌<◌, List, length, get_or, take, sym, ap, ◌∙◌, arith}
use lib.Bits.{bit_or, bit_xor, or_add_and, xor_assoc, xor_self, xor_zero_l, xor_zero_r}
use Rattle.std.proofs.lemmas.Nat.{and_le_l, and_le_r}
use Rattle.std.proofs.lemmas.List.{take_more, take_more_same, same_from_push}

or_none : (a b : ℕ) → bit_or a b ≡ 0 → (a ≡ 0) × (b ≡ 0)
or_none a b e = (omega (arith, or_add_and a b, and_le_l a b, and_le_r a b), omega (arith, or_add_and a b, and_le_l a b, and_le_r a b))

xor_none : (a b : ℕ) → bit_xor a b ≡ 0 → a ≡ b
xor_none a b e = sym (xor_zero_r a) ∙ ap (bit_xor a) (sym (xor_self b)) ∙ sym (xor_assoc a b b) ∙ ap (λ n. bit_xor n b) e ∙ xor_zero_l b

-- g tells whether the first i bytes are the same
abbrev pub Gap : List ℕ → List ℕ → ℕ → ℕ → Type 0
Gap xs ys i g = (g ≡ 0 → take i xs ≡ take i ys) × (take i xs ≡ take i ys → g ≡ 0)

pub gap_more : (xs ys : List ℕ) (i g : ℕ) → i < length xs → i < length ys → Gap xs ys i g →
    Gap xs ys (i + 1) (bit_or g (bit_xor (get_or xs i 0) (get_or ys i 0)))
gap_more xs ys i g u v h = (
  (λ z. let p = or_none g (bit_xor (get_or xs i 0) (get_or ys i 0)) z in
      take_more_same xs ys i 0 u v (h.0 p.0) (xor_none (get_or xs i 0) (get_or ys i 0) p.1)),
  (λ e.
      let s = same_from_push (take i xs) (take i ys) (get_or xs i 0) (get_or ys i 0) (sym (take_more xs i 0 u) ∙ e ∙ take_more ys i 0 v) in
      ap (λ n. bit_or n (bit_xor (get_or xs i 0) (get_or ys i 0))) (h.1 s.0)
      ∙ ap (bit_or 0) (ap (λ x. bit_xor x (get_or ys i 0)) s.1 ∙ xor_self (get_or ys i 0))),
)
