-- The published keystream is the list of blocks in closed form.
use Rattle.std.proofs.Common.{◌≡◌, ℕ, zero, suc, ◌+◌, ◌-◌, ◌*◌, ◌/◌, ◌%◌, ◌^◌, ◌<◌, ◌≤◌, min, List, [], ◌∷◌, ◌++◌, map, sym, refl, ap, ◌∙◌, ⊎_elim, append_assoc, append-nil, arith}
use lib.Bits.{bit_xor}
use Rattle.std.specs.List.{range_with_len}
use Rattle.std.proofs.lemmas.Bool.{cases_lt}
use Rattle.keystream.specs.Published.{Run, run, inc, frame_blocks, frame, frames, up, keystream}
use Rattle.keystream.specs.Counters.{mask, block_at}
use Rattle.keystream.specs.Laws.{Closed}
use Rattle.keystream.proofs.Counts.{map_counting_same, map_counting_append}

module _ (E : ℕ → ℕ) where
  frame_blocks_is : (L n c : ℕ) (s : List ℕ) → c + n < 2 ^ 128 →
      frame_blocks E L n (run c s) ≡ run (c + n) (s ++ map (λ j. bit_xor (E j) L) (range_with_len c n))
  unfolding frame_blocks
  frame_blocks_is L zero c s h = let e : c + zero ≡ c = omega arith in rw (e, append-nil s) refl
  frame_blocks_is L (suc n) c s h =
      let i : inc c ≡ c + 1 = omega arith in
      let e : c + 1 + n ≡ c + suc n = omega arith in
      rw i (frame_blocks_is L n (c + 1) (s ++ bit_xor (E c) L ∷ []) (omega arith)
      ∙ rw (e, append_assoc s (bit_xor (E c) L ∷ []) (map (λ j. bit_xor (E j) L) (range_with_len (c + 1) n))) refl)

  frames_done : (j : ℕ) (r : Run) → (frames E j 0 r).made ≡ r.made
  unfolding frames frame_blocks
  frames_done zero r = refl
  frames_done (suc j) r = frames_done j (run (inc r.ctr) r.made)

  module _ (N : ℕ) (small : N < 2 ^ 63) where
    one-frame : (f n : ℕ) → n ≤ 256 →
        map (λ j. bit_xor (E j) (E (N * 2 ^ 64 + 257 * f))) (range_with_len (N * 2 ^ 64 + 257 * f + 1) n) ≡ map (block_at E N) (range_with_len (256 * f) n)
    unfolding block_at mask
    one-frame f n h = map_counting_same _ _ _ _ n (λ i l.
        let q : (256 * f + i) / 256 ≡ f = omega arith in
        let r : (256 * f + i) % 256 ≡ i = omega arith in
        let e : N * 2 ^ 64 + 257 * f + 1 + i ≡ N * 2 ^ 64 + (257 * f + i + 1) = omega arith in
        rw (q, r, e) refl)

    whole-frame : (f n : ℕ) (s : List ℕ) → n ≤ 256 → 257 * f + n < 2 ^ 64 →
        frame E n (run (N * 2 ^ 64 + 257 * f) s) ≡ run (N * 2 ^ 64 + 257 * f + 1 + n) (s ++ map (block_at E N) (range_with_len (256 * f) n))
    whole-frame f n s h k =
        let i : inc (N * 2 ^ 64 + 257 * f) ≡ N * 2 ^ 64 + 257 * f + 1 = omega arith in
        let L = E (N * 2 ^ 64 + 257 * f) in
        ap (λ c. frame_blocks E L n (run c s)) i
        ∙ frame_blocks_is L n (N * 2 ^ 64 + 257 * f + 1) s (omega arith)
        ∙ ap (λ xs. run (N * 2 ^ 64 + 257 * f + 1 + n) (s ++ xs)) (one-frame f n h)

    frames_is : (j l f : ℕ) (s : List ℕ) → l ≤ 256 * j → 257 * f + l + j ≤ 2 ^ 64 →
        (frames E j l (run (N * 2 ^ 64 + 257 * f) s)).made ≡ s ++ map (block_at E N) (range_with_len (256 * f) l)
    unfolding frames
    frames_is zero l f s u v = let z : l ≡ 0 = omega arith in rw z (sym (append-nil s))
    frames_is (suc j) l f s u v = ⊎_elim last (more (λ S h. frames_is j (l - 256) (f + 1) S (omega arith) (omega arith))) (cases_lt l 257)
      where
        last : l < 257 →
            (frames E j (l - 256) (frame E (min 256 l) (run (N * 2 ^ 64 + 257 * f) s))).made ≡ s ++ map (block_at E N) (range_with_len (256 * f) l)
        last h =
            let m : min 256 l ≡ l = omega arith in
            let d : l - 256 ≡ 0 = omega arith in
            ap (λ n. (frames E j n (frame E (min 256 l) (run (N * 2 ^ 64 + 257 * f) s))).made) d
            ∙ frames_done j (frame E (min 256 l) (run (N * 2 ^ 64 + 257 * f) s))
            ∙ ap (λ n. (frame E n (run (N * 2 ^ 64 + 257 * f) s)).made) m
            ∙ ap (λ r. r.made) (whole-frame f l s (omega arith) (omega arith))

        more : ((S : List ℕ) → 257 ≤ l →
            (frames E j (l - 256) (run (N * 2 ^ 64 + 257 * (f + 1)) S)).made ≡ S ++ map (block_at E N) (range_with_len (256 * (f + 1)) (l - 256))) →
            257 ≤ l →
            (frames E j (l - 256) (frame E (min 256 l) (run (N * 2 ^ 64 + 257 * f) s))).made ≡ s ++ map (block_at E N) (range_with_len (256 * f) l)
        more next h =
            let m : min 256 l ≡ 256 = omega arith in
            let e : N * 2 ^ 64 + 257 * f + 1 + 256 ≡ N * 2 ^ 64 + 257 * (f + 1) = omega arith in
            let g : 256 * (f + 1) ≡ 256 * f + 256 = omega arith in
            let t : 256 + (l - 256) ≡ l = omega arith in
            ap (λ n. (frames E j (l - 256) (frame E n (run (N * 2 ^ 64 + 257 * f) s))).made) m
            ∙ ap (λ r. (frames E j (l - 256) r).made) (whole-frame f 256 s (omega arith) (omega arith))
            ∙ ap (λ n. (frames E j (l - 256) (run n (s ++ map (block_at E N) (range_with_len (256 * f) 256)))).made) e
            ∙ next (s ++ map (block_at E N) (range_with_len (256 * f) 256)) h
            ∙ append_assoc s _ _
            ∙ ap (λ n. s ++ (map (block_at E N) (range_with_len (256 * f) 256) ++ map (block_at E N) (range_with_len n (l - 256)))) g
            ∙ ap (λ xs. s ++ xs) (sym (map_counting_append (block_at E N) (256 * f) 256 (l - 256))
            ∙ ap (λ n. map (block_at E N) (range_with_len (256 * f) n)) t)

pub keystream_closed : Closed
unfolding keystream
keystream_closed E N l h fits =
    let z : N * 2 ^ 64 + 257 * 0 ≡ N * 2 ^ 64 = omega arith in
    ap (λ c. (frames E (up l 256) l (run c [])).made) (sym z)
    ∙ frames_is E N h (up l 256) l 0 [] (omega arith) (omega arith)
