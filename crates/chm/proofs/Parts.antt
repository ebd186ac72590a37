-- One part more of a piece written to its output. Assumes nothing.
use Rattle.std.proofs.Common.{◌≡◌, ℕ, ◌+◌, ◌-◌, ◌<◌, ◌≤◌, List, ◌++◌, length, get_or, take, ap, ◌∙◌, ⊎_elim, arith}
use borrow.Rule.Slice.PartMut.{put_mid, post_of}
use lib.Bits.{bit_xor}
use Rattle.std.proofs.lemmas.Bool.{cases_lt}
use Rattle.std.proofs.lemmas.List.{length-take-le, get_or_append_left, get_or-append_right, get_or-take}
use Rattle.std.proofs.lemmas.List.Edits.{get_or-between}
use Rattle.std.specs.List.{between}

-- p is the piece; out has its entries below `at` xored; ys takes the place of out's entries from `at` to `end`
module _ (σ : ℕ → ℕ) (at end : ℕ) (p out ys : List ℕ)
    (in_order : at ≤ end) (inside : end ≤ length p) (same : length out ≡ length p) (fits : length ys ≡ end - at) where
  pub part_put :
      ((k : ℕ) → k < at → get_or out k 0 ≡ bit_xor (get_or p k 0) (σ k)) →
      ((k : ℕ) → k < end - at → get_or ys k 0 ≡ bit_xor (get_or (between at end p) k 0) (σ (at + k))) →
      (k : ℕ) → k < end → get_or (put_mid at (end - at) out ys) k 0 ≡ bit_xor (get_or p k 0) (σ k)
  part_put before part k h = ⊎_elim below within (cases_lt k at)
    where
      front : length (take at out) ≡ at
      front = length-take-le at out (omega arith)

      below : k < at → get_or (put_mid at (end - at) out ys) k 0 ≡ bit_xor (get_or p k 0) (σ k)
      below u =
          get_or_append_left (take at out) (ys ++ post_of at (end - at) out) 0 k (omega (arith, front))
          ∙ get_or-take at out k 0 u ∙ before k u

      within : at ≤ k → get_or (put_mid at (end - at) out ys) k 0 ≡ bit_xor (get_or p k 0) (σ k)
      within u =
          let e : at + (k - at) ≡ k = omega arith in
          get_or-append_right (take at out) (ys ++ post_of at (end - at) out) at k 0 front u
          ∙ get_or_append_left ys (post_of at (end - at) out) 0 (k - at) (omega arith)
          ∙ part (k - at) (omega arith)
          ∙ ap (λ x. bit_xor x (σ (at + (k - at)))) (get_or-between p at end (k - at) 0 (omega arith))
          ∙ ap (λ i. bit_xor (get_or p i 0) (σ i)) e
