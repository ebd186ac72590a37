-- Encryption and tag by the closed forms of the keystream. Assumes nothing.
use Rattle.std.proofs.Common.{◌≡◌, ℕ, ◌+◌, ◌*◌, ◌/◌, ◌%◌, ◌^◌, ◌<◌, ◌≤◌, List, ◌∷◌, map, length, get_or, take, drop, sym, refl, ap, ◌∙◌, add-zero, add-one, arith}
use lib.Bits.{bit_xor}
use Rattle.std.proofs.lemmas.List.FromFn.{length-map-range_with_len, get_or-map-range_with_len, fill_by_all}
use Rattle.std.proofs.lemmas.List.{length-take-le, get_or-take}
use Rattle.std.specs.List.{range_with_len, flat_map}
use Rattle.blocks.specs.Blocks.{bytes_of}
use Rattle.keystream.proofs.Streams.{keystream_closed}
use Rattle.keystream.specs.Counters.{block_at, stream_byte, ciphered, const0, const1}
use Rattle.keystream.specs.Published.{up, keystream}
use Rattle.polyhash.specs.Hash.{hash}
use Rattle.method.proofs.Joined.{length-joined, getD_joined, length-xored, getD_xored}
use Rattle.method.specs.Published.{keystream_for, xored, crypt, tag, tag_block}

-- the keystream for m bytes: block 0, and then the message's blocks
keystream_for_closed : (E : ℕ → ℕ) (N m : ℕ) → N < 2 ^ 63 → m < 2 ^ 64 → keystream_for E N m ≡ block_at E N 0 ∷ map (block_at E N) (range_with_len 1 (up m 16))
keystream_for_closed E N m h k =
    ap (λ c. keystream E c (up m 16 + 1)) (add-zero (N * 2 ^ 64))
    ∙ keystream_closed E N (up m 16 + 1) h (omega arith)
    ∙ ap (λ n. map (block_at E N) (range_with_len 0 n)) (add-one (up m 16))

pub crypt_is : (E : ℕ → ℕ) (N : ℕ) (m : List ℕ) → N < 2 ^ 63 → length m < 2 ^ 64 → crypt E N m ≡ ciphered E N 0 m
unfolding crypt stream_byte
crypt_is E N m h k =
    ap (λ s. xored m (take (length m) (flat_map (bytes_of 16) (drop 1 s)))) (keystream_for_closed E N (length m) h k)
    ∙ fill_by_all (λ i. bit_xor (get_or m i 0) (stream_byte E N (0 + i))) (xored m front) (length m) 0
    (length-xored m front long) (λ i u. getD_xored m front i u long ∙ ap (bit_xor (get_or m i 0)) (at i u))
  where
    rest : List ℕ
    rest = map (block_at E N) (range_with_len 1 (up (length m) 16))

    front : List ℕ
    front = take (length m) (flat_map (bytes_of 16) rest)

    enough : length m ≤ length (flat_map (bytes_of 16) rest)
    enough = omega (arith, length-joined rest, length-map-range_with_len (block_at E N) 1 (up (length m) 16))

    long : length m ≤ length front
    long = omega (arith, length-take-le (length m) (flat_map (bytes_of 16) rest) enough)

    at : (i : ℕ) → i < length m → get_or front i 0 ≡ stream_byte E N (0 + i)
    at i u =
        let z : 0 + i ≡ i = omega arith in
        get_or-take (length m) (flat_map (bytes_of 16) rest) i 0 u
        ∙ getD_joined rest i (omega (arith, length-joined rest, length-map-range_with_len (block_at E N) 1 (up (length m) 16)))
        ∙ ap (λ b. get_or (bytes_of 16 b) (i % 16) 0) (get_or-map-range_with_len (block_at E N) 1 (up (length m) 16) (i / 16) (1 + i / 16) 0 (omega arith) refl)
        ∙ ap (stream_byte E N) (sym z)

pub tag_is : (E : ℕ → ℕ) (t N : ℕ) (h c : List ℕ) → N < 2 ^ 63 → length c < 2 ^ 64
    → tag E t N h c ≡ take t (bytes_of 16 (tag_block (hash (E const0) c) (hash (E const1) h) (block_at E N 0)))
unfolding tag
tag_is E t N h c n k =
    ap (λ s. take t (bytes_of 16 (tag_block (hash (E const0) c) (hash (E const1) h) (get_or s 0 0)))) (keystream_for_closed E N (length c) n k)
