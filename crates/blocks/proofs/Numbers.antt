-- Bytes as a number and back: each way undoes the other. Assumes nothing.
use Rattle.std.proofs.Common.{◌≡◌, ℕ, zero, suc, ◌+◌, ◌*◌, ◌/◌, ◌%◌, ◌^◌, ◌<◌, ◌≤◌, List, [], ◌∷◌, length, get_or, sym, refl, ap, ◌∙◌, add-zero, add_assoc, mul-le-mul_right, mod-eq_of_lt, mul_assoc, add-mul, zero-add, zero-mul, mul-one, arith}
use native.Mathlib.Nat.{mod-one, pow-zero, pow-succ'}
use lib.Arith.{mod-mul}
use Rattle.std.proofs.Math.Nat.{one-le-pow}
use Rattle.blocks.specs.Blocks.{number, number_from, bytes_of, AllBytes}

-- numbers of as many bytes that are equal have equal fronts and equal bytes
pub number_from-apart : (m n : ℕ) (xs ys : List ℕ) → AllBytes xs → AllBytes ys → length xs ≡ length ys → number_from m xs ≡ number_from n ys → (m ≡ n) × (xs ≡ ys)
unfolding number_from
number_from-apart m n [] [] bx by l e = (e, refl)
number_from-apart m n [] (y ∷ ys) bx by l e = let z : ⊥ = omega arith in absurd z
number_from-apart m n (x ∷ xs) [] bx by l e = let z : ⊥ = omega arith in absurd z
number_from-apart m n (x ∷ xs) (y ∷ ys) bx by l e =
    let p = number_from-apart (m * 256 + x) (n * 256 + y) xs ys bx.1 by.1 (omega arith) e in
    let hx : x < 256 = bx.0 in
    let hy : y < 256 = by.0 in
    let q : m * 256 + x ≡ n * 256 + y = p.0 in
    let front : m ≡ n = omega arith in
    let byte : x ≡ y = omega arith in
    (front, λ i. byte i ∷ p.1 i)

-- different bytes are different numbers
pub number-apart : (xs ys : List ℕ) → AllBytes xs → AllBytes ys → length xs ≡ length ys → number xs ≡ number ys → xs ≡ ys
number-apart xs ys bx by l e = (number_from-apart 0 0 xs ys bx by l e).1

pub bytes_of_bytes : (n x : ℕ) → AllBytes (bytes_of n x)
unfolding bytes_of
bytes_of_bytes zero x = tt
bytes_of_bytes (suc n) x = (omega arith, bytes_of_bytes n x)

pub length-bytes_of : (n x : ℕ) → length (bytes_of n x) ≡ n
unfolding bytes_of
length-bytes_of zero x = refl
length-bytes_of (suc n) x = ap suc (length-bytes_of n x)

-- a byte more in front: both sides split off the highest byte
front-more : (m n x : ℕ) → (m * 256 + x / 256 ^ n % 256) * 256 ^ n + x % 256 ^ n ≡ m * 256 ^ suc n + x % 256 ^ suc n
front-more m n x =
    let p = one-le-pow n 256 (omega arith) in
    let d : x % (256 * 256 ^ n) ≡ (x / 256 ^ n % 256) * 256 ^ n + x % 256 ^ n = mod-mul x (omega arith) p in
    rw (pow-succ' 256 n, d, add-mul (m * 256) (x / 256 ^ n % 256) (256 ^ n), mul_assoc m 256 (256 ^ n)) (add_assoc (m * (256 * 256 ^ n)) ((x / 256 ^ n % 256) * 256 ^ n) (x % 256 ^ n))

number_from-bytes_of : (m n x : ℕ) → number_from m (bytes_of n x) ≡ m * 256 ^ n + x % 256 ^ n
unfolding number_from bytes_of
number_from-bytes_of m zero x = rw (pow-zero, mul-one, mod-one) (sym (add-zero m))
number_from-bytes_of m (suc n) x = number_from-bytes_of (m * 256 + x / 256 ^ n % 256) n x ∙ front-more m n x

-- the n bytes of x are x, but for what is above them
pub number-bytes_of : (n x : ℕ) → number (bytes_of n x) ≡ x % 256 ^ n
number-bytes_of n x = number_from-bytes_of 0 n x ∙ rw (zero-mul (256 ^ n)) (zero-add (x % 256 ^ n))

number_from_lt : (m : ℕ) (xs : List ℕ) → AllBytes xs → number_from m xs < (m + 1) * 256 ^ length xs
unfolding number_from
number_from_lt m [] b = rw (pow-zero, mul-one) (omega arith)
number_from_lt m (x ∷ xs) b =
    let h : x < 256 = b.0 in
    let p = number_from_lt (m * 256 + x) xs b.1 in
    let le : m * 256 + x + 1 ≤ (m + 1) * 256 = omega arith in
    let q : (m * 256 + x + 1) * 256 ^ length xs ≤ (m + 1) * 256 * 256 ^ length xs = mul-le-mul_right (256 ^ length xs) le in
    rw (pow-succ', ← mul_assoc) (omega arith)

pub number_lt : (xs : List ℕ) → AllBytes xs → number xs < 256 ^ length xs
number_lt xs b = omega (arith, number_from_lt 0 xs b)

-- the bytes of the number that bytes are
pub bytes_of-number : (xs : List ℕ) → AllBytes xs → bytes_of (length xs) (number xs) ≡ xs
bytes_of-number xs b =
    number-apart (bytes_of (length xs) (number xs)) xs (bytes_of_bytes (length xs) (number xs)) b (length-bytes_of (length xs) (number xs))
    (number-bytes_of (length xs) (number xs) ∙ mod-eq_of_lt (number_lt xs b))

pub all_bytes : (xs : List ℕ) → ((i : ℕ) → i < length xs → get_or xs i 0 < 256) → AllBytes xs
all_bytes [] h = tt
all_bytes (x ∷ xs) h = (h 0 (omega arith), all_bytes xs (λ i l. h (suc i) (omega arith)))
