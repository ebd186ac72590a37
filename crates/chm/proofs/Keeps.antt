-- The words that a draft holds, over pieces and within a block. Assumes nothing.
use Rattle.std.proofs.Common.{◌≡◌, ℕ, zero, suc, ◌+◌, ◌%◌, ◌<◌, ◌≤◌, Bool, true, false, cond, eqb, get_or, sym, refl, ap, ◌∙◌, arith}
use Rattle.std.proofs.lemmas.Bool.{ne_eqb}
use Rattle.blocks.specs.Blocks.{bytes_of}
use Rattle.chm.specs.Words.{key_words, more, turned, steps, step_byte}
use Rattle.chm.specs.declared.words.KeyWords.{KeyWords}

len_cond : (b : Bool) (x w : KeyWords) → x.len ≡ w.len → (cond b x w).len ≡ w.len
len_cond true x w e = e
len_cond false x w e = refl

module _ (E : ℕ → ℕ) (N : ℕ) where
  pub turned_len : (w : KeyWords) → (turned E N w).len ≡ w.len
  unfolding turned
  turned_len w = len_cond (eqb (w.len % 16) 0) _ w refl

  pub turned_same : (w : KeyWords) → (w.len % 16 ≡ 0 → ⊥) → turned E N w ≡ w
  unfolding turned
  turned_same w h = rw (ne_eqb (w.len % 16) 0 h) refl

  pub steps_len : (w : KeyWords) (k : ℕ) → (steps E N w k).len ≡ w.len + k
  unfolding steps
  steps_len w zero = omega arith
  steps_len w (suc k) = ap (λ n. n + 1) (turned_len (steps E N w k) ∙ steps_len w k) ∙ omega arith

  pub steps_add : (w : KeyWords) (m n : ℕ) → steps E N w (m + n) ≡ steps E N (steps E N w m) n
  unfolding steps
  steps_add w m zero = ap (steps E N w) (omega arith)
  steps_add w m (suc n) =
      let e : m + suc n ≡ suc (m + n) = omega arith in
      ap (steps E N w) e ∙ ap (λ x. more 1 (turned E N x)) (steps_add w m n)

  -- inside a block the words stay
  pub steps-run : (w : KeyWords) (n : ℕ) → w.len % 16 + suc n ≤ 16 → steps E N w (suc n) ≡ more (suc n) (turned E N w)
  unfolding steps
  steps-run w zero h = refl
  steps-run w (suc n) h =
      ap (λ x. more 1 (turned E N x)) (steps-run w n (omega arith))
      ∙ ap (more 1) (turned_same (more (suc n) (turned E N w)) (λ z. omega (arith, turned_len w)))
      ∙ ap (λ l. key_words l (turned E N w).veil (turned E N w).word) (omega arith)

  pub steps_part : (w : KeyWords) (n : ℕ) → 0 < n → w.len % 16 + n ≤ 16 → steps E N w n ≡ more n (turned E N w)
  steps_part w zero u h = let z : ⊥ = omega arith in absurd z
  steps_part w (suc n) u h = steps-run w n h

  -- within one block, the bytes from `at` on are those of one keystream block
  pub part_byte : (s : KeyWords) (at k : ℕ) → (s.len + at) % 16 + k < 16 →
      get_or (bytes_of 16 (turned E N (steps E N s at)).word) ((s.len + at) % 16 + k) 0 ≡ step_byte E N s (at + k)
  part_byte s at k h =
      let e : at + k + 1 ≡ at + (k + 1) = omega arith in
      let r : (s.len + (at + k)) % 16 ≡ (s.len + at) % 16 + k = omega arith in
      sym (ap (λ i. get_or (bytes_of 16 (steps E N s (at + k + 1)).word) i 0) r
      ∙ ap (λ x. get_or (bytes_of 16 x.word) ((s.len + at) % 16 + k) 0)
      (ap (steps E N s) e ∙ steps_add s at (k + 1)
      ∙ steps_part (steps E N s at) (k + 1) (omega arith) (omega (arith, steps_len s at))))
