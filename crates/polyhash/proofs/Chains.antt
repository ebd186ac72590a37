-- A string as blocks, and what a byte or a block more does to numbers, blocks and the chain. Assumes nothing.
use Rattle.std.proofs.Common.{◌≡◌, ℕ, zero, suc, ◌+◌, ◌*◌, ◌/◌, ◌%◌, ◌^◌, ◌<◌, ◌≤◌, List, [], ◌∷◌, ◌++◌, length, take, drop, replicate, sym, refl, ap, ◌∙◌, ap₂, lt_of_lt_of_le, arith}
use native.Mathlib.Nat.{pow-le-pow_right}
use lib.Bits.{bit_or, bit_xor, or_shifted}
use Rattle.std.proofs.lemmas.List.{take-append-le, drop-append-le, drop-drop, length-drop}
use Rattle.std.proofs.lemmas.Nat.{mod_low}
use Rattle.std.proofs.lemmas.List.Sums.{fold_push}
use Rattle.blocks.specs.Blocks.{number, number_from, AllBytes}
use Rattle.blocks.proofs.Numbers.{number_lt}
use Rattle.polynomials.specs.Polynomials.{product}
use Rattle.polyhash.specs.Hash.{blocks_of, chained}
use Rattle.polyhash.specs.Running.{longer}

-- a byte shifted in
pub shifted_in : (p b : ℕ) → b < 256 → bit_or ((p * 256) % 2 ^ 128) b ≡ longer p b
shifted_in p b h =
    let e : (p * 256) % 2 ^ 128 ≡ (p % 2 ^ 120) * 2 ^ 8 = omega arith in
    let f : p * 256 + b ≡ p / 2 ^ 120 * 2 ^ 128 + (p % 2 ^ 120 * 256 + b) = omega arith in
    let g : p % 2 ^ 120 * 256 + b < 2 ^ 128 = omega arith in
    ap (λ n. bit_or n b) e ∙ or_shifted (p % 2 ^ 120) 8 b h
    ∙ sym (ap (λ n. n % 2 ^ 128) f ∙ mod_low (p / 2 ^ 120) 128 (p % 2 ^ 120 * 256 + b) g)

pub bytes_zeros : (n : ℕ) → AllBytes (replicate n 0)
bytes_zeros zero = tt
bytes_zeros (suc n) = (omega arith, bytes_zeros n)

number_from_push : (n : ℕ) (xs : List ℕ) (b : ℕ) → number_from n (xs ++ (b ∷ [])) ≡ number_from n xs * 256 + b
unfolding number_from
number_from_push n [] b = refl
number_from_push n (x ∷ xs) b = number_from_push (n * 256 + x) xs b

-- fifteen bytes and one more fit a block
pub number_push : (xs : List ℕ) (b : ℕ) → AllBytes xs → b < 256 → length xs ≤ 15 → longer (number xs) b ≡ number (xs ++ (b ∷ []))
number_push xs b bx hb h =
    let p : 256 ^ length xs ≤ 256 ^ 15 = pow-le-pow_right (omega arith) h in
    let l : number xs < 2 ^ 120 = lt_of_lt_of_le (number_lt xs bx) p in
    let e : longer (number xs) b ≡ number xs * 256 + b = omega arith in
    e ∙ sym (number_from_push 0 xs b)

pub blocks_append : (n : ℕ) (xs ys : List ℕ) → n * 16 ≤ length xs → blocks_of n (xs ++ ys) ≡ blocks_of n xs
unfolding blocks_of
blocks_append zero xs ys h = refl
blocks_append (suc n) xs ys h =
    let l : 16 ≤ length xs = omega arith in
    let r : n * 16 ≤ length (drop 16 xs) = simp length-drop (omega arith) in
    ap₂ (λ (t d : List ℕ). number t ∷ blocks_of n d) (take-append-le 16 xs ys l) (drop-append-le 16 xs ys l)
    ∙ ap (λ bs. number (take 16 xs) ∷ bs) (blocks_append n (drop 16 xs) ys r)

pub blocks_push : (n : ℕ) (xs : List ℕ) → blocks_of (n + 1) xs ≡ blocks_of n xs ++ (number (take 16 (drop (n * 16) xs)) ∷ [])
unfolding blocks_of
blocks_push zero xs = refl
blocks_push (suc n) xs =
    let e : suc n + 1 ≡ suc (n + 1) = omega arith in
    let f : 16 + n * 16 ≡ suc n * 16 = omega arith in
    let first = number (take 16 xs) in
    ap (λ k. blocks_of k xs) e
    ∙ ap (λ bs. first ∷ bs) (blocks_push n (drop 16 xs))
    ∙ ap (λ (d : List ℕ). first ∷ (blocks_of n (drop 16 xs) ++ (number (take 16 d) ∷ []))) (drop-drop (n * 16) 16 xs ∙ ap (λ k. drop k xs) f)

pub chained_push : (k : ℕ) (ms : List ℕ) (m : ℕ) → chained k (ms ++ (m ∷ [])) ≡ product (bit_xor (chained k ms) m) k
unfolding chained
chained_push k ms m = fold_push (λ h n. product (bit_xor h n) k) 0 ms m
