-- A round of Speck takes words to words, and different words to different words; so do all rounds. Assumes nothing.
use Rattle.std.specs.Prelude.{◌≡◌, ℕ, zero, suc, ◌+◌, ◌*◌, ◌/◌, ◌%◌, ◌^◌, ◌<◌}
use Rattle.std.proofs.Common.{sym, ap, ◌∙◌, arith}
use Rattle.std.specs.Int.Bits.{bit_or, bit_xor, or_shifted_r}
use Rattle.std.proofs.lemmas.Nat.{or_shifted, xor_lt}
use Rattle.blocks.proofs.Xors.{xor_apart}
use Rattle.speck.specs.Rounds.{Words, right_8, left_3, next_x, round, rounds, words, joined, image_with}

pub record Small (v : Words) : Type 0 where
  pub x : v.0 < 2 ^ 64
  pub y : v.1 < 2 ^ 64

-- a rotation, as the sum of its two parts
left_3_is : (y : ℕ) → y < 2 ^ 64 → left_3 y ≡ (y % 2 ^ 61) * 2 ^ 3 + y / 2 ^ 61
left_3_is y h =
    let e : (y * 2 ^ 3) % 2 ^ 64 ≡ (y % 2 ^ 61) * 2 ^ 3 = omega arith in
    ap (λ n. bit_or n (y / 2 ^ 61)) e ∙ or_shifted (y % 2 ^ 61) 3 (y / 2 ^ 61) (omega arith)

right_8_is : (x : ℕ) → x < 2 ^ 64 → right_8 x ≡ (x % 2 ^ 8) * 2 ^ 56 + x / 2 ^ 8
right_8_is x h =
    let e : (x * 2 ^ 56) % 2 ^ 64 ≡ (x % 2 ^ 8) * 2 ^ 56 = omega arith in
    ap (bit_or (x / 2 ^ 8)) e ∙ or_shifted_r (x % 2 ^ 8) 56 (x / 2 ^ 8) (omega arith)

left_3_lt : (y : ℕ) → y < 2 ^ 64 → left_3 y < 2 ^ 64
left_3_lt y h = omega (arith, left_3_is y h)

right_8_lt : (x : ℕ) → x < 2 ^ 64 → right_8 x < 2 ^ 64
right_8_lt x h = omega (arith, right_8_is x h)

left_3-apart : (y v : ℕ) → y < 2 ^ 64 → v < 2 ^ 64 → left_3 y ≡ left_3 v → y ≡ v
left_3-apart y v hy hv e =
    let d : (y % 2 ^ 61) * 2 ^ 3 + y / 2 ^ 61 ≡ (v % 2 ^ 61) * 2 ^ 3 + v / 2 ^ 61 = sym (left_3_is y hy) ∙ e ∙ left_3_is v hv in
    omega arith

right_8-apart : (x u : ℕ) → x < 2 ^ 64 → u < 2 ^ 64 → right_8 x ≡ right_8 u → x ≡ u
right_8-apart x u hx hu e =
    let d : (x % 2 ^ 8) * 2 ^ 56 + x / 2 ^ 8 ≡ (u % 2 ^ 8) * 2 ^ 56 + u / 2 ^ 8 = sym (right_8_is x hx) ∙ e ∙ right_8_is u hu in
    omega arith

-- two sums modulo 2^64 with one part the same
sum-apart : (a b y : ℕ) → a < 2 ^ 64 → b < 2 ^ 64 → y < 2 ^ 64 → (a + y) % 2 ^ 64 ≡ (b + y) % 2 ^ 64 → a ≡ b
sum-apart a b y ha hb hy e = omega arith

next_x_lt : (k x y : ℕ) → next_x k x y < 2 ^ 64
next_x_lt k x y = xor_lt 64 ((right_8 x + y) % 2 ^ 64) (k % 2 ^ 64) (omega arith) (omega arith)

round-small : (k : ℕ) (v : Words) → Small v → Small (round k v)
round-small k v s = record {
  x = next_x_lt k v.0 v.1;
  y = xor_lt 64 (left_3 v.1) (next_x k v.0 v.1) (left_3_lt v.1 s.y) (next_x_lt k v.0 v.1);
}

-- the new x undoes the xor that made the new y, and then the key and the old y undo the sum
round-apart : (k : ℕ) (v w : Words) → Small v → Small w → round k v ≡ round k w → v ≡ w
round-apart k v w s t e =
    let x = v.0 in
    let y = v.1 in
    let u = w.0 in
    let z = w.1 in
    let ex : next_x k x y ≡ next_x k u z = ap (λ (q : Words). q.0) e in
    let ey : bit_xor (left_3 y) (next_x k x y) ≡ bit_xor (left_3 z) (next_x k u z) = ap (λ (q : Words). q.1) e in
    let ys : y ≡ z = left_3-apart y z s.y t.y (xor_apart (left_3 y) (left_3 z) (next_x k x y) (ey ∙ ap (bit_xor (left_3 z)) (sym ex))) in
    let sums : (right_8 x + y) % 2 ^ 64 ≡ (right_8 u + z) % 2 ^ 64 = xor_apart ((right_8 x + y) % 2 ^ 64) ((right_8 u + z) % 2 ^ 64) (k % 2 ^ 64) ex in
    let rs : right_8 x ≡ right_8 u = sum-apart (right_8 x) (right_8 u) y (right_8_lt x s.x) (right_8_lt u t.x) s.y (sums ∙ ap (λ n. (right_8 u + n) % 2 ^ 64) (sym ys)) in
    let xs : x ≡ u = right_8-apart x u s.x t.x rs in
    λ i. (xs i, ys i)

rounds-small : (n : ℕ) (w : ℕ → ℕ) (v : Words) → Small v → Small (rounds n w v)
unfolding rounds
rounds-small zero w v s = s
rounds-small (suc n) w v s = round-small (w n) (rounds n w v) (rounds-small n w v s)

rounds-apart : (n : ℕ) (w : ℕ → ℕ) (v u : Words) → Small v → Small u → rounds n w v ≡ rounds n w u → v ≡ u
unfolding rounds
rounds-apart zero w v u s t e = e
rounds-apart (suc n) w v u s t e =
    rounds-apart n w v u s t (round-apart (w n) (rounds n w v) (rounds n w u) (rounds-small n w v s) (rounds-small n w u t) e)

words_small : (b : ℕ) → b < 2 ^ 128 → Small (words b)
words_small b h = record { x = omega arith; y = omega arith }

joined-apart : (v w : Words) → Small v → Small w → joined v ≡ joined w → v ≡ w
joined-apart v w s t e =
    let x : v.0 ≡ w.0 = omega arith in
    let y : v.1 ≡ w.1 = omega arith in
    λ i. (x i, y i)

pub image-block : (w : ℕ → ℕ) (b : ℕ) → b < 2 ^ 128 → image_with w b < 2 ^ 128
image-block w b h = let s = rounds-small 34 w (words b) (words_small b h) in omega arith

pub image-apart : (w : ℕ → ℕ) (a b : ℕ) → a < 2 ^ 128 → b < 2 ^ 128 → image_with w a ≡ image_with w b → a ≡ b
image-apart w a b ha hb e =
    let sa = words_small a ha in
    let sb = words_small b hb in
    let v = rounds 34 w (words a) in
    let u = rounds 34 w (words b) in
    let same : words a ≡ words b =
    rounds-apart 34 w (words a) (words b) sa sb (joined-apart v u (rounds-small 34 w (words a) sa) (rounds-small 34 w (words b) sb) e) in
    let high : a / 2 ^ 64 ≡ b / 2 ^ 64 = ap (λ (q : Words). q.0) same in
    let low : a % 2 ^ 64 ≡ b % 2 ^ 64 = ap (λ (q : Words). q.1) same in
    omega arith
