-- The words that a draft holds are those of its length, and what it sends from there on is the keystream in closed form. Assumes nothing.
use Rattle.std.proofs.Common.{◌≡◌, ℕ, zero, suc, ◌+◌, ◌-◌, ◌/◌, ◌%◌, ◌<◌, cond, ◌||◌, eqb, List, length, get_or, sym, refl, ap, ◌∙◌, ⊎_elim, arith}
use lib.Bits.{bit_xor}
use Rattle.std.proofs.lemmas.Bool.{ne_eqb, eq-eqb, cases_eq}
use Rattle.blocks.specs.Blocks.{bytes_of}
use Rattle.keystream.proofs.Counts.{map_counting_same}
use Rattle.keystream.proofs.Parts.{masked}
use Rattle.keystream.specs.Counters.{mask, block_at, stream_byte, ciphered}
use Rattle.chm.proofs.Keeps.{turned_same}
use Rattle.chm.specs.Words.{key_words, more, turned, steps, step_byte, held, sent}
use Rattle.chm.specs.declared.words.KeyWords.{KeyWords}

module _ (E : ℕ → ℕ) (N : ℕ) where
  pub held_some : (m : ℕ) → 0 < m → held E N m ≡ key_words m (mask E N ((1 + (m - 1) / 16) / 256)) (block_at E N (1 + (m - 1) / 16))
  unfolding held
  held_some m h = rw (ne_eqb m 0 (λ e. omega arith)) refl

  -- the words after one byte more
  last_of : ℕ → KeyWords
  last_of m = key_words (m + 1) (mask E N ((1 + m / 16) / 256)) (block_at E N (1 + m / 16))

  held_next : (m : ℕ) → held E N (m + 1) ≡ last_of m
  unfolding last_of
  held_next m =
      let e : m + 1 - 1 ≡ m = omega arith in
      held_some (m + 1) (omega arith) ∙ ap (λ n. key_words (m + 1) (mask E N ((1 + n / 16) / 256)) (block_at E N (1 + n / 16))) e

  -- at a whole number of blocks, under the right mask
  fresh : (w : KeyWords) → w.len % 16 ≡ 0 → cond (eqb w.len 0 || eqb ((1 + w.len / 16) % 256) 0) (mask E N ((1 + w.len / 16) / 256)) w.veil ≡ mask E N ((1 + w.len / 16) / 256) →
      more 1 (turned E N w) ≡ last_of w.len
  unfolding turned last_of
  fresh w h v =
      rw (eq-eqb (w.len % 16) 0 h, v) (ap (key_words (w.len + 1) (mask E N ((1 + w.len / 16) / 256))) (masked E N (1 + w.len / 16) _ _ refl refl))

  step_some : (m : ℕ) → 0 < m → more 1 (turned E N (key_words m (mask E N ((1 + (m - 1) / 16) / 256)) (block_at E N (1 + (m - 1) / 16)))) ≡ last_of m
  unfolding last_of
  step_some m h = ⊎_elim whole inside (cases_eq (m % 16) 0)
    where
      w : KeyWords
      w = key_words m (mask E N ((1 + (m - 1) / 16) / 256)) (block_at E N (1 + (m - 1) / 16))

      whole : m % 16 ≡ 0 → more 1 (turned E N w) ≡ last_of m
      whole z = fresh w z (⊎_elim
          (λ a. rw (ne_eqb m 0 (λ e. omega arith), eq-eqb ((1 + m / 16) % 256) 0 a) refl)
          (λ b. rw (ne_eqb m 0 (λ e. omega arith), ne_eqb ((1 + m / 16) % 256) 0 b)
          (ap (mask E N) (omega arith)))
          (cases_eq ((1 + m / 16) % 256) 0))

      inside : (m % 16 ≡ 0 → ⊥) → more 1 (turned E N w) ≡ last_of m
      inside z =
          let e : (m - 1) / 16 ≡ m / 16 = omega arith in
          ap (more 1) (turned_same E N w z) ∙ ap (λ q. key_words (m + 1) (mask E N ((1 + q) / 256)) (block_at E N (1 + q))) e

  pub held_more : (m : ℕ) → more 1 (turned E N (held E N m)) ≡ held E N (m + 1)
  unfolding held
  held_more zero = fresh (key_words 0 0 0) refl refl ∙ sym (held_next 0)
  held_more (suc m) =
      ap (λ w. more 1 (turned E N w)) (held_some (suc m) (omega arith)) ∙ step_some (suc m) (omega arith) ∙ sym (held_next (suc m))

  pub steps-held : (m k : ℕ) → steps E N (held E N m) k ≡ held E N (m + k)
  unfolding steps
  steps-held m zero = ap (held E N) (omega arith)
  steps-held m (suc k) =
      ap (λ w. more 1 (turned E N w)) (steps-held m k) ∙ held_more (m + k) ∙ ap (held E N) (omega arith)

  pub held_len : (m : ℕ) → (held E N m).len ≡ m
  unfolding held
  held_len zero = refl
  held_len (suc m) = ap (λ w. w.len) (held_some (suc m) (omega arith))

  pub held-byte : (m k : ℕ) → step_byte E N (held E N m) k ≡ stream_byte E N (m + k)
  unfolding last_of stream_byte
  held-byte m k =
      let e : m + (k + 1) ≡ m + k + 1 = omega arith in
      ap (λ n. get_or (bytes_of 16 (steps E N (held E N m) (k + 1)).word) ((n + k) % 16) 0) (held_len m)
      ∙ ap (λ w. get_or (bytes_of 16 w.word) ((m + k) % 16) 0) (steps-held m (k + 1) ∙ ap (held E N) e ∙ held_next (m + k) ∙ lasts (m + k))
    where
      lasts : (n : ℕ) → last_of n ≡ key_words (n + 1) (mask E N ((1 + n / 16) / 256)) (block_at E N (1 + n / 16))
      lasts n = refl

  -- what is sent from there is the closed form
  pub sent-held : (m : ℕ) (p : List ℕ) → sent E N (held E N m) p ≡ ciphered E N m p
  sent-held m p = map_counting_same _ _ 0 0 (length p) (λ i h. ap (bit_xor (get_or p (0 + i) 0)) (held-byte m (0 + i)))
