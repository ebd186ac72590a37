-- What a read gives: a part is ciphered as that part of the whole. Assumes nothing.
use Rattle.std.proofs.Common.{◌≡◌, ℕ, ◌+◌, ◌<◌, ◌≤◌, List, length, get_or, take, drop, sym, ap, ◌∙◌, arith}
use lib.Bits.{bit_xor}
use Rattle.std.proofs.lemmas.List.FromFn.{get_or-map-range_with_len}
use Rattle.std.proofs.lemmas.List.{same_lists, length-take, length-drop, get_or-take, get_or-drop}
use Rattle.keystream.specs.Counters.{stream_byte, ciphered}
use Rattle.method.proofs.Undone.{length-ciphered}

pub ciphered_part : (E : ℕ → ℕ) (N o n : ℕ) (c : List ℕ) → o + n ≤ length c
    → ciphered E N o (take n (drop o c)) ≡ take n (drop o (ciphered E N 0 c))
ciphered_part E N o n c h = same_lists _ _ (long ∙ sym long') (λ k d l. at k d (omega (arith, long)))
  where
    part : List ℕ
    part = take n (drop o c)

    whole : List ℕ
    whole = ciphered E N 0 c

    part_long : length part ≡ n
    part_long = omega (arith, length-take n (drop o c), length-drop o c)

    long : length (ciphered E N o part) ≡ n
    long = length-ciphered E N o part ∙ part_long

    long' : length (take n (drop o whole)) ≡ n
    long' = omega (arith, length-take n (drop o whole), length-drop o whole, length-ciphered E N 0 c)

    at : (k d : ℕ) → k < n → get_or (ciphered E N o part) k d ≡ get_or (take n (drop o whole)) k d
    at k d u =
        let z : 0 + (o + k) ≡ o + k = omega arith in
        get_or-map-range_with_len (λ j. bit_xor (get_or part j 0) (stream_byte E N (o + j))) 0 (length part) k k d (omega (arith, part_long)) (omega arith)
        ∙ ap (λ x. bit_xor x (stream_byte E N (o + k))) (get_or-take n (drop o c) k 0 u ∙ get_or-drop o c k 0)
        ∙ sym (get_or-take n (drop o whole) k d u ∙ get_or-drop o whole k d
        ∙ get_or-map-range_with_len (λ j. bit_xor (get_or c j 0) (stream_byte E N (0 + j))) 0 (length c) (o + k) (o + k) d (omega arith) z
        ∙ ap (λ i. bit_xor (get_or c (o + k) 0) (stream_byte E N i)) z)
