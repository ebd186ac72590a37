-- A list xored in place, part by part, and a part's bytes as those of its keystream block.
use Rattle.std.proofs.Common.{◌≡◌, ℕ, ◌+◌, ◌-◌, ◌/◌, ◌%◌, ◌<◌, ◌≤◌, min, List, ◌++◌, length, get_or, take, drop, sym, ap, ◌∙◌, ⊎_elim, arith, drop-drop, length-drop}
use lib.Bits.{bit_xor, xor_zero_r}
use borrow.Rule.Slice.PartMut.{put_mid, post_of, drop_put}
use Rattle.std.proofs.lemmas.Bool.{cases_lt}
use Rattle.std.proofs.lemmas.List.{length-take-le, get_or_append_left, get_or-append_right, get_or-take, get_or-drop, get_or_past, length-append}
use Rattle.std.specs.List.{between}
use Rattle.std.proofs.lemmas.List.Edits.{get_or-between}
use Rattle.blocks.specs.Blocks.{bytes_of}
use Rattle.std.proofs.lemmas.List.FromFn.{fill_by_all, get_or-map-range_with_len}
use Rattle.blocks.proofs.Numbers.{length-bytes_of}
use Rattle.keystream.specs.Counters.{counter, block_counter, mask, block_under, block_at, stream_byte, xored}

-- within one block, the bytes from message byte o + at on are those of one keystream block
pub block_bytes : (E : ℕ → ℕ) (N o at k word : ℕ) → word ≡ block_at E N (1 + (o + at) / 16) → (o + at) % 16 + k < 16 →
    get_or (bytes_of 16 word) ((o + at) % 16 + k) 0 ≡ stream_byte E N (o + (at + k))
unfolding stream_byte
block_bytes E N o at k word e h =
    let q : (o + (at + k)) / 16 ≡ (o + at) / 16 = omega arith in
    let r : (o + (at + k)) % 16 ≡ (o + at) % 16 + k = omega arith in
    rw (q, r) (ap (λ b. get_or (bytes_of 16 b) ((o + at) % 16 + k) 0) e)

-- p is the list at first; xs has the entries below `at` xored; ys takes the place of its entries from `at` to `end`
module _ (σ : ℕ → ℕ) (at end : ℕ) (p xs ys : List ℕ)
    (in_order : at ≤ end) (inside : end ≤ length xs) (fits : length ys ≡ end - at) (rest : drop at xs ≡ drop at p) where
  pub part_rest : drop end (put_mid at (end - at) xs ys) ≡ drop end p
  part_rest =
      let e : at + (end - at) ≡ end = omega arith in
      drop_put at end xs ys in_order inside fits
      ∙ ap (λ n. drop n xs) (sym e)
      ∙ sym (drop-drop (end - at) at xs)
      ∙ ap (drop (end - at)) rest
      ∙ drop-drop (end - at) at p
      ∙ ap (λ n. drop n p) e

  pub part_step :
      ((k : ℕ) → k < at → get_or xs k 0 ≡ bit_xor (get_or p k 0) (σ k)) →
      ((k : ℕ) → k < end - at → get_or ys k 0 ≡ bit_xor (get_or (between at end xs) k 0) (σ (at + k))) →
      (k : ℕ) → k < end → get_or (put_mid at (end - at) xs ys) k 0 ≡ bit_xor (get_or p k 0) (σ k)
  part_step before part k h = ⊎_elim below within (cases_lt k at)
    where
      front : length (take at xs) ≡ at
      front = length-take-le at xs (omega arith)

      below : k < at → get_or (put_mid at (end - at) xs ys) k 0 ≡ bit_xor (get_or p k 0) (σ k)
      below u =
          get_or_append_left (take at xs) (ys ++ post_of at (end - at) xs) 0 k (omega (arith, front))
          ∙ get_or-take at xs k 0 u ∙ before k u

      within : at ≤ k → get_or (put_mid at (end - at) xs ys) k 0 ≡ bit_xor (get_or p k 0) (σ k)
      within u =
          let e : at + (k - at) ≡ k = omega arith in
          get_or-append_right (take at xs) (ys ++ post_of at (end - at) xs) at k 0 front u
          ∙ get_or_append_left ys (post_of at (end - at) xs) 0 (k - at) (omega arith)
          ∙ part (k - at) (omega arith)
          ∙ ap (λ r. bit_xor (get_or (take (end - at) r) (k - at) 0) (σ (at + (k - at)))) rest
          ∙ ap (λ x. bit_xor x (σ (at + (k - at)))) (get_or-between p at end (k - at) 0 (omega arith))
          ∙ ap (λ i. bit_xor (get_or p i 0) (σ i)) e

pub get_or-xored : (w skip : ℕ) (p : List ℕ) (k : ℕ) → k < length p →
    get_or (xored w skip p) k 0 ≡ bit_xor (get_or p k 0) (get_or (bytes_of 16 w) (skip + k) 0)
get_or-xored w skip p k h =
    get_or-map-range_with_len (λ j. bit_xor (get_or p j 0) (get_or (bytes_of 16 w) (skip + j) 0)) 0 (length p) k k 0 h (omega arith)

-- a block under its frame's mask is the keystream block
pub masked : (E : ℕ → ℕ) (N i v w : ℕ) → w ≡ block_under E N v i → v ≡ mask E N (i / 256) → w ≡ block_at E N i
unfolding block_under block_at
masked E N i v w e m = e ∙ ap (bit_xor (E (counter N (block_counter i)))) m

-- a part's front, as far as the block reaches, xored with the block's bytes; what stands behind the front is xored with nothing
pub xored_front : (w skip from end : ℕ) (p front : List ℕ) → from ≡ min skip 16 → end ≡ min (length p) (16 - from)
    → length front ≡ length (take end p)
    → ((k : ℕ) → k < end → get_or front k 0 ≡ bit_xor (get_or (take end p) k 0) (get_or (bytes_of 16 w) (from + k) 0))
    → front ++ drop end p ≡ xored w skip p
xored_front w skip from end p front f e same each =
    fill_by_all (λ k. bit_xor (get_or p k 0) (get_or (bytes_of 16 w) (skip + k) 0)) (front ++ drop end p) (length p) 0
    (length-append front (drop end p) ∙ omega (arith, wide, length-drop end p))
    (λ k h. ⊎_elim (below k) (above k h) (cases_lt k end))
  where
    within : end ≤ length p
    within = omega arith

    wide : length front ≡ end
    wide = same ∙ length-take-le end p within

    below : (k : ℕ) → k < end → get_or (front ++ drop end p) k 0 ≡ bit_xor (get_or p k 0) (get_or (bytes_of 16 w) (skip + k) 0)
    below k u =
        let start : from ≡ skip = omega arith in
        get_or_append_left front (drop end p) 0 k (omega (arith, wide))
        ∙ each k u
        ∙ ap (λ b. bit_xor b (get_or (bytes_of 16 w) (from + k) 0)) (get_or-take end p k 0 u)
        ∙ ap (λ s. bit_xor (get_or p k 0) (get_or (bytes_of 16 w) (s + k) 0)) start

    above : (k : ℕ) → k < length p → end ≤ k → get_or (front ++ drop end p) k 0 ≡ bit_xor (get_or p k 0) (get_or (bytes_of 16 w) (skip + k) 0)
    above k h u =
        let place : end + (k - end) ≡ k = omega arith in
        let full : end ≡ 16 - from = omega arith in
        let past : 16 ≤ skip + k = omega arith in
        let none : get_or (bytes_of 16 w) (skip + k) 0 ≡ 0 = get_or_past (bytes_of 16 w) (skip + k) 0 (omega (past, length-bytes_of 16 w, arith)) in
        get_or-append_right front (drop end p) end k 0 wide u
        ∙ get_or-drop end p (k - end) 0
        ∙ ap (λ n. get_or p n 0) place
        ∙ sym (ap (bit_xor (get_or p k 0)) none ∙ xor_zero_r (get_or p k 0))
