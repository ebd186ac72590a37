-- The law on the begun seals of a sound history, over a cipher whose images differ. Assumes nothing.
use Rattle.std.proofs.Common.{◌≡◌, ℕ, ◌+◌, ◌*◌, ◌/◌, ◌%◌, ◌^◌, ◌<◌, ◌≤◌, false, List, [], map, length, get_or, take, drop, Ok, sym, refl, ap, ◌∙◌, mod-lt, arith}
use native.Mathlib.Nat.{div-add-mod}
use lib.Bits.{bit_xor, xor_zero_l}
use Rattle.std.proofs.lemmas.List.{get_or-map, get_or_default}
use Rattle.blocks.proofs.Xors.{xor_twice, xor_apart}
use Rattle.checks.proofs.Proved.{check_laws}
use Rattle.checks.specs.Checks.{check_answer, read_out}
use Rattle.keystream.specs.Counters.{counter, block_counter, mask, block_at}
use Rattle.method.specs.Published.{tag}
use Rattle.history.proofs.Holes.{places}
use Rattle.history.proofs.Soundness.{Apart, sound_apart, nonce_low}
use Rattle.history.specs.Held.{Fine, Sound}
use Rattle.history.specs.Laws.{Use, hash_key, mask_of, block_of, nonce_of, blocks_of, Used, input, mask_value, block_value, Law}
use Rattle.history.specs.Runs.{Seal, seal, History}

-- two numbers whose xor is zero are one
zero_same : (a b : ℕ) → bit_xor a b ≡ 0 → a ≡ b
zero_same a b e = sym (xor_twice a b) ∙ ap (λ x. bit_xor x b) e ∙ xor_zero_l b

parts : (i : ℕ) → (256 * (i / 256) + i % 256 ≡ i) × (i % 256 < 256)
parts i = (div-add-mod i 256, mod-lt i (omega arith))

module _ (E : ℕ → ℕ) (h : History) (g : Sound E h) where
  w : Apart h.seals
  w = sound_apart E h g

  -- a message within the limit has at most 65,536 blocks
  few_blocks : (s : ℕ) → s < length h.seals → blocks_of h.seals s ≤ 65536
  few_blocks s k =
      let d = seal 0 0 [] [] [] false in
      let e : get_or (map (λ x. length x.message) h.seals) s 0 ≡ length (get_or h.seals s d).message =
      get_or-map (λ x. length x.message) h.seals s d 0 k in
      omega (arith, e, (g.fine s d k).message_short)

  -- one input of two seals: one seal, one counter
  unite : (s s' a b : ℕ) → s < length h.seals → s' < length h.seals → a < 2 ^ 64 → b < 2 ^ 64
      → counter (nonce_of h.seals s) a ≡ counter (nonce_of h.seals s') b → (s ≡ s') × (a ≡ b)
  unite s s' a b k k' ka kb e =
      let n : nonce_of h.seals s ≡ nonce_of h.seals s' = omega arith in
      (w.same s s' k k' n, omega arith)

  low : (u : Use) → Used h.seals u → input h.seals u < 2 ^ 128
  low (mask_of s f) m = omega (arith, few_blocks s m.0, w.low s m.0, m.1)
  low (block_of s i) m = let p = parts i in omega (arith, few_blocks s m.0, w.low s m.0, m.1, p.0, p.1)
  low (hash_key k) m = omega arith

  only : (u v : Use) → Used h.seals u → Used h.seals v → input h.seals u ≡ input h.seals v → u ≡ v
  only (mask_of s f) (mask_of s' f') m m' e =
      let q = unite s s' (257 * f) (257 * f') m.0 m'.0 (omega (arith, few_blocks s m.0, m.1)) (omega (arith, few_blocks s' m'.0, m'.1)) e in
      let same : f ≡ f' = omega (arith, q.1) in
      rw (q.0, same) refl
  only (mask_of s f) (block_of s' i) m m' e =
      let p = parts i in
      let q = unite s s' (257 * f) (257 * (i / 256) + i % 256 + 1) m.0 m'.0 (omega (arith, few_blocks s m.0, m.1)) (omega (arith, few_blocks s' m'.0, m'.1, p.0, p.1)) e in
      absurd (omega (arith, q.1, p.1))
  only (mask_of s f) (hash_key k) m m' e = absurd (omega (arith, few_blocks s m.0, w.low s m.0, m.1, m', e))
  only (block_of s i) (mask_of s' f) m m' e =
      let p = parts i in
      let q = unite s s' (257 * (i / 256) + i % 256 + 1) (257 * f) m.0 m'.0 (omega (arith, few_blocks s m.0, m.1, p.0, p.1)) (omega (arith, few_blocks s' m'.0, m'.1)) e in
      absurd (omega (arith, q.1, p.1))
  only (block_of s i) (block_of s' i') m m' e =
      let p = parts i in
      let p' = parts i' in
      let q = unite s s' (257 * (i / 256) + i % 256 + 1) (257 * (i' / 256) + i' % 256 + 1) m.0 m'.0 (omega (arith, few_blocks s m.0, m.1, p.0, p.1)) (omega (arith, few_blocks s' m'.0, m'.1, p'.0, p'.1)) e in
      let same : i ≡ i' = omega (arith, q.1, p.0, p.1, p'.0, p'.1) in
      rw (q.0, same) refl
  only (block_of s i) (hash_key k) m m' e = let p = parts i in absurd (omega (arith, few_blocks s m.0, w.low s m.0, m.1, m', e, p.0, p.1))
  only (hash_key k) (mask_of s f) m m' e = absurd (omega (arith, few_blocks s m'.0, w.low s m'.0, m'.1, m, e))
  only (hash_key k) (block_of s i) m m' e = let p = parts i in absurd (omega (arith, few_blocks s m'.0, w.low s m'.0, m'.1, m, e, p.0, p.1))
  only (hash_key k) (hash_key k') m m' e = ap hash_key (omega (arith, e))

  -- the mask of a block that is used is used
  its_mask : (s i : ℕ) → Used h.seals (block_of s i) → Used h.seals (mask_of s (i / 256))
  its_mask s i m = let p = parts i in (m.0, omega (arith, m.1, p.0))

  module _ (apart : (a b : ℕ) → a < 2 ^ 128 → b < 2 ^ 128 → E a ≡ E b → a ≡ b) where
    by_image : (u v : Use) → Used h.seals u → Used h.seals v → E (input h.seals u) ≡ E (input h.seals v) → u ≡ v
    by_image u v m m' e = only u v m m' (apart (input h.seals u) (input h.seals v) (low u m) (low v m') e)

    -- two blocks of one mask value are of one seal, and of one frame
    one-frame : (s i s' i' : ℕ) → Used h.seals (block_of s i) → Used h.seals (block_of s' i')
        → mask_value E h.seals s i ≡ mask_value E h.seals s' i' → (s ≡ s') × (i / 256 ≡ i' / 256)
    unfolding mask
    one-frame s i s' i' m m' e =
        let q = by_image (mask_of s (i / 256)) (mask_of s' (i' / 256)) (its_mask s i m) (its_mask s' i' m') e in
        (cc, cc)

    same_block : (s i s' i' : ℕ) → s ≡ s' → i / 256 ≡ i' / 256 → i % 256 ≡ i' % 256 → block_of s i ≡ block_of s' i'
    same_block s i s' i' a b c =
        let p = parts i in
        let p' = parts i' in
        let same : i ≡ i' = omega (arith, p.0, p'.0, b, c) in
        rw (a, same) refl

    -- the block's own image is its mask
    not_zero : (s i : ℕ) → Used h.seals (block_of s i) → block_value E h.seals s i ≡ 0 → ⊥
    unfolding mask block_at
    not_zero s i m e =
        let q = by_image (block_of s i) (mask_of s (i / 256)) m (its_mask s i m) (zero_same _ _ e) in
        let z : ◌≡◌ {A = ℕ} 0 1 = cc in omega arith

    apart_blocks : (s i s' i' : ℕ) → Used h.seals (block_of s i) → Used h.seals (block_of s' i')
        → mask_value E h.seals s i ≡ mask_value E h.seals s' i' → block_value E h.seals s i ≡ block_value E h.seals s' i' → block_of s i ≡ block_of s' i'
    unfolding mask block_at
    apart_blocks s i s' i' m m' q e =
        by_image (block_of s i) (block_of s' i') m m'
        (xor_apart _ _ (mask_value E h.seals s i) (e ∙ ap (bit_xor (E (counter (nonce_of h.seals s') (block_counter i')))) (sym q)))

    pub law : Law E h.seals
    law = record {
      different = w.same;
      below = w.low;
      once = only;
      few = λ v n s i made one.
          places 256 n (λ k. i k % 256) (λ k u. (parts (i k)).1)
          (λ j k hj hk e.
          let q = one-frame (s j) (i j) (s k) (i k) (made j hj).0 (made k hk).0 ((made j hj).1 ∙ sym (made k hk).1) in
          one j k hj hk (same_block (s j) (i j) (s k) (i k) q.0 q.1 e));
      nonzero = not_zero;
      unlike = apart_blocks;
      published = λ n d k. (g.fine n d k).published;
      accepted = λ n d k. accepts (get_or h.seals n d) (g.fine n d k) (nonce_low E h n (get_or h.seals n d) (there n d k) g);
      read = λ n o d out k r. reads (get_or h.seals n d) (g.fine n d k) (nonce_low E h n (get_or h.seals n d) (there n d k) g) o out r;
    }
      where
        there : (n : ℕ) (d : Seal) (k : n < length h.seals) → (n < length h.seals) × (get_or h.seals n (get_or h.seals n d) ≡ get_or h.seals n d)
        there n d k = (k, get_or_default h.seals n (get_or h.seals n d) d k)

        accepts : (s : Seal) → Fine E s → s.nonce < 2 ^ 63
            → check_answer E s.nonce s.header s.ciphertext (tag E s.tag_length s.nonce s.header s.ciphertext) ≡ Ok tt
        accepts s f n =
            rw f.published (check_laws.sealed E s.tag_length s.nonce s.header s.message f.tagged.0 f.tagged.1 n f.header_short f.message_short)

        reads : (s : Seal) → Fine E s → s.nonce < 2 ^ 63 → (o : ℕ) (out : List ℕ) → o + length out ≤ length s.message
            → read_out E s.nonce s.ciphertext o out ≡ take (length out) (drop o s.message)
        reads s f n o out r = rw f.published (check_laws.message E s.nonce o s.message out n f.message_short r)
