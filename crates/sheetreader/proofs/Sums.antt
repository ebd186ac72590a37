-- The number of bytes that are read one after another. Assumes nothing.
use Rattle.std.proofs.Common.{◌≡◌, ℕ, ◌+◌, ◌*◌, ◌^◌, ◌<◌, ◌≤◌, List, [], ◌∷◌, ◌++◌, length, get_or, take, refl, ap, ◌∙◌, pow-suc, add-one, arith, lit<}
use native.Mathlib.Nat.{pow-le-pow_right}
use Rattle.std.proofs.lemmas.List.{take_more}
use Rattle.blocks.specs.Blocks.{number_from, number}

pub number_none : (xs : List ℕ) → number (take 0 xs) ≡ 0
unfolding number_from
number_none xs = refl

number_push : (m : ℕ) (xs : List ℕ) (b : ℕ) → number_from m (xs ++ b ∷ []) ≡ number_from m xs * 256 + b
unfolding number_from
number_push m [] b = refl
number_push m (x ∷ xs) b = number_push (m * 256 + x) xs b

pub number_more : (xs : List ℕ) (i : ℕ) → i < length xs → number (take (i + 1) xs) ≡ number (take i xs) * 256 + get_or xs i 0
number_more xs i h = ap number (take_more xs i 0 h) ∙ number_push 0 (take i xs) (get_or xs i 0)

pub pow_more : (i : ℕ) → 256 ^ (i + 1) ≡ 256 ^ i * 256
pow_more i = rw add-one (pow-suc 256 i)

-- up to seven bytes leave room for one more
pub seven_bytes : (n i : ℕ) → n < 256 ^ i → i < 8 → n < 2 ^ 56
seven_bytes n i h l = let k : i ≤ 7 = omega arith in let p : 256 ^ i ≤ 256 ^ 7 = pow-le-pow_right (lit< tt) k in omega arith
