-- Decryption undoes encryption. Assumes nothing.
use Rattle.std.proofs.Common.{◌≡◌, ℕ, ◌+◌, ◌^◌, ◌<◌, ◌≤◌, cond, List, length, get_or, take, Some, None, sym, refl, ap, ◌∙◌, arith}
use lib.Bits.{bit_xor}
use Rattle.std.proofs.lemmas.List.FromFn.{length-map-range_with_len, get_or-map-range_with_len, fill_by_all}
use Rattle.std.proofs.lemmas.Slice.Eq.{bytes_eq-Decides}
use Rattle.std.proofs.lemmas.List.{length-take-le}
use Rattle.std.specs.Str.{bytes_eq}
use Rattle.blocks.proofs.Numbers.{length-bytes_of}
use Rattle.blocks.proofs.Xors.{xor_twice}
use Rattle.blocks.specs.Blocks.{bytes_of}
use Rattle.keystream.specs.Counters.{stream_byte, ciphered}
use Rattle.method.proofs.Closed.{crypt_is, tag_is}
use Rattle.method.specs.Laws.{MethodLaws}
use Rattle.method.specs.Published.{crypt, tag, decryption}

pub length-ciphered : (E : ℕ → ℕ) (N o : ℕ) (m : List ℕ) → length (ciphered E N o m) ≡ length m
length-ciphered E N o m = length-map-range_with_len (λ k. bit_xor (get_or m k 0) (stream_byte E N (o + k))) 0 (length m)

pub ciphered-twice : (E : ℕ → ℕ) (N : ℕ) (m : List ℕ) → ciphered E N 0 (ciphered E N 0 m) ≡ m
ciphered-twice E N m = sym (fill_by_all back m (length once) 0 (sym long) (λ k h. sym (at k h)))
  where
    once : List ℕ
    once = ciphered E N 0 m

    long : length once ≡ length m
    long = length-ciphered E N 0 m

    back : ℕ → ℕ
    back k = bit_xor (get_or once k 0) (stream_byte E N (0 + k))

    at : (k : ℕ) → k < length once → back k ≡ get_or m k 0
    at k h =
        ap (λ x. bit_xor x (stream_byte E N (0 + k)))
        (get_or-map-range_with_len (λ j. bit_xor (get_or m j 0) (stream_byte E N (0 + j))) 0 (length m) k k 0 (omega (arith, long)) (omega arith))
        ∙ xor_twice (get_or m k 0) (stream_byte E N (0 + k))

pub length-crypt : (E : ℕ → ℕ) (N : ℕ) (m : List ℕ) → N < 2 ^ 63 → length m < 2 ^ 64 → length (crypt E N m) ≡ length m
length-crypt E N m n h = ap length (crypt_is E N m n h) ∙ length-ciphered E N 0 m

crypt-twice : (E : ℕ → ℕ) (N : ℕ) (m : List ℕ) → N < 2 ^ 63 → length m < 2 ^ 64 → crypt E N (crypt E N m) ≡ m
crypt-twice E N m n h =
    crypt_is E N (crypt E N m) n (omega (arith, length-crypt E N m n h)) ∙ ap (ciphered E N 0) (crypt_is E N m n h) ∙ ciphered-twice E N m

length_front : (t b : ℕ) → t ≤ 16 → length (take t (bytes_of 16 b)) ≡ t
length_front t b h = length-take-le t (bytes_of 16 b) (omega (arith, length-bytes_of 16 b))

pub length-tag : (E : ℕ → ℕ) (t N : ℕ) (h c : List ℕ) → t ≤ 16 → length (tag E t N h c) ≡ t
unfolding tag
length-tag E t N h c u = length_front t _ u

undone_is : (E : ℕ → ℕ) (t N : ℕ) (h m : List ℕ) → t ≤ 16 → N < 2 ^ 63 → length m < 2 ^ 64
    → decryption E N h (crypt E N m) (tag E t N h (crypt E N m)) ≡ Some m
undone_is E t N h m u n k =
    let c = crypt E N m in
    let true-tag = tag E t N h c in
    ap (λ s. cond (bytes_eq (tag E s N h c) true-tag) (Some (crypt E N c)) None) (length-tag E t N h c u)
    ∙ ap (λ b. cond b (Some (crypt E N c)) None) ((bytes_eq-Decides true-tag true-tag).1 refl)
    ∙ ap Some (crypt-twice E N m n k)

pub method_laws : MethodLaws
method_laws = record { crypt_closed = crypt_is; tag_closed = tag_is; undone = undone_is }
