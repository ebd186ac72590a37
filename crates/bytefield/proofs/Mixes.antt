-- The mix of a column of four bytes can be undone: its inverse matrix, with 14, 11, 13 and 9 in its first row, gives the
-- column back. Assumes nothing.
use mathlib.Core.Path.{◌≡◌, sym, ap, ◌∙◌}
use mathlib.Core.Bool.{Bool}
use Prim.Native.Nat.{ℕ, ◌+◌, ◌%◌, ◌<◌}
use native.Mathlib.Omega.{arith}
use lib.Bits.{bit_xor, xor_comm, xor_zero_r, xor_lt}
use lib.Dec.{T, eqb, eqb→eq}
use Rattle.blocks.proofs.Tables.{below, below_at}
use Rattle.blocks.proofs.Xors.{xor_middle}
use Rattle.bytefield.specs.Field.{times_x}
use Rattle.bytefield.proofs.Additive.{Additive, additive_same, additive_after, additive_sum, times_x_additive, additive_four}

abbrev sum : ℕ → ℕ → ℕ → ℕ → ℕ
sum a b c d = bit_xor (bit_xor a b) (bit_xor c d)

-- the sum in another order: the last first
sum-turned : (p q r s : ℕ) → sum p q r s ≡ sum s p q r
sum-turned p q r s =
    xor_comm (bit_xor p q) (bit_xor r s) ∙ ap (λ n. bit_xor n (bit_xor p q)) (xor_comm r s)
    ∙ xor_middle s r p q ∙ ap (bit_xor (bit_xor s p)) (xor_comm r q)

sum-two : (a b c d p q r s : ℕ) → bit_xor (sum a b c d) (sum p q r s) ≡ sum (bit_xor a p) (bit_xor b q) (bit_xor c r) (bit_xor d s)
sum-two a b c d p q r s =
    xor_middle (bit_xor a b) (bit_xor c d) (bit_xor p q) (bit_xor r s) ∙ (λ i. bit_xor (xor_middle a b p q i) (xor_middle c d r s i))

-- sixteen terms, summed by rows and by columns
sum_sums : (a b c d e f g h i j k l m n o p : ℕ) →
    sum (sum a b c d) (sum e f g h) (sum i j k l) (sum m n o p) ≡ sum (sum a e i m) (sum b f j n) (sum c g k o) (sum d h l p)
sum_sums a b c d e f g h i j k l m n o p =
    (λ x. bit_xor (sum-two a b c d e f g h x) (sum-two i j k l m n o p x))
    ∙ sum-two (bit_xor a e) (bit_xor b f) (bit_xor c g) (bit_xor d h) (bit_xor i m) (bit_xor j n) (bit_xor k o) (bit_xor l p)

-- two matrices whose rows turn by a place: u v w x is the first row of one, and t z 1 1 that of the other. Where their product
-- has 1 0 0 0 as its first row, the first of them gives back the first byte of a column that the other has mixed.
module _ (u v w x t z : ℕ → ℕ) (U : Additive u) (V : Additive v) (W : Additive w) (X : Additive x) (T : Additive t) (Z : Additive z)
    (first : (a : ℕ) → a < 256 → sum (u (t a)) (v a) (w a) (x (z a)) ≡ a)
    (second : (a : ℕ) → a < 256 → sum (u (z a)) (v (t a)) (w a) (x a) ≡ 0)
    (third : (a : ℕ) → a < 256 → sum (u a) (v (z a)) (w (t a)) (x a) ≡ 0)
    (fourth : (a : ℕ) → a < 256 → sum (u a) (v a) (w (z a)) (x (t a)) ≡ 0) where
  undone : (a b c d : ℕ) → a < 256 → b < 256 → c < 256 → d < 256 →
      sum (u (sum (t a) (z b) c d)) (v (sum (t b) (z c) d a)) (w (sum (t c) (z d) a b)) (x (sum (t d) (z a) b c)) ≡ a
  undone a b c d ha hb hc hd =
      let row1 = additive_four u U (t a) (z b) c d (T.small a ha) (Z.small b hb) hc hd in
      let row2 = additive_four v V (t b) (z c) d a (T.small b hb) (Z.small c hc) hd ha ∙ sum-turned (v (t b)) (v (z c)) (v d) (v a) in
      let row3 =
      additive_four w W (t c) (z d) a b (T.small c hc) (Z.small d hd) ha hb
      ∙ xor_comm (bit_xor (w (t c)) (w (z d))) (bit_xor (w a) (w b)) in
      let row4 =
      additive_four x X (t d) (z a) b c (T.small d hd) (Z.small a ha) hb hc ∙ sym (sum-turned (x (z a)) (x b) (x c) (x (t d))) in
      (λ i. sum (row1 i) (row2 i) (row3 i) (row4 i))
      ∙ sum_sums (u (t a)) (u (z b)) (u c) (u d) (v a) (v (t b)) (v (z c)) (v d)
      (w a) (w b) (w (t c)) (w (z d)) (x (z a)) (x b) (x c) (x (t d))
      ∙ (λ i. sum (first a ha i) (second b hb i) (third c hc i) (fourth d hd i))
      ∙ xor_zero_r (bit_xor a 0) ∙ xor_zero_r a

by3 : ℕ → ℕ
by3 a = bit_xor (times_x a) a

by4 : ℕ → ℕ
by4 a = times_x (times_x a)

by8 : ℕ → ℕ
unfolding by4
by8 a = times_x (by4 a)

by9 : ℕ → ℕ
unfolding by8
by9 a = bit_xor (by8 a) a

by11 : ℕ → ℕ
unfolding by9
by11 a = bit_xor (by9 a) (times_x a)

by13 : ℕ → ℕ
unfolding by9 by4
by13 a = bit_xor (by9 a) (by4 a)

by14 : ℕ → ℕ
unfolding by8 by4
by14 a = bit_xor (bit_xor (by8 a) (by4 a)) (times_x a)

by3_additive : Additive by3
unfolding by3
by3_additive = additive_sum times_x (λ a. a) times_x_additive additive_same

by4_additive : Additive by4
unfolding by4
by4_additive = additive_after times_x times_x times_x_additive times_x_additive

by8_additive : Additive by8
unfolding by8
by8_additive = additive_after times_x by4 times_x_additive by4_additive

by9_additive : Additive by9
unfolding by9
by9_additive = additive_sum by8 (λ a. a) by8_additive additive_same

by11_additive : Additive by11
unfolding by11
by11_additive = additive_sum by9 times_x by9_additive times_x_additive

by13_additive : Additive by13
unfolding by13
by13_additive = additive_sum by9 by4 by9_additive by4_additive

by14_additive : Additive by14
unfolding by14
by14_additive = additive_sum (λ a. bit_xor (by8 a) (by4 a)) times_x (additive_sum by8 by4 by8_additive by4_additive) times_x_additive

-- the four entries of the product's first row, tested at every byte
first? : ℕ → Bool
first? a = eqb (sum (by14 (times_x a)) (by11 a) (by13 a) (by9 (by3 a))) a

second? : ℕ → Bool
second? a = eqb (sum (by14 (by3 a)) (by11 (times_x a)) (by13 a) (by9 a)) 0

third? : ℕ → Bool
third? a = eqb (sum (by14 a) (by11 (by3 a)) (by13 (times_x a)) (by9 a)) 0

fourth? : ℕ → Bool
fourth? a = eqb (sum (by14 a) (by11 a) (by13 (by3 a)) (by9 (times_x a))) 0

all_first : T (below first? 256)
unfolding first? by3 by4 by8 by9 by11 by13 by14
all_first = tt

all_second : T (below second? 256)
unfolding second? by3 by4 by8 by9 by11 by13 by14
all_second = tt

all_third : T (below third? 256)
unfolding third? by3 by4 by8 by9 by11 by13 by14
all_third = tt

all_fourth : T (below fourth? 256)
unfolding fourth? by3 by4 by8 by9 by11 by13 by14
all_fourth = tt

-- 2 a + 3 b + c + d
abbrev pub mix : ℕ → ℕ → ℕ → ℕ → ℕ
mix a b c d = bit_xor (bit_xor (times_x a) (bit_xor (times_x b) b)) (bit_xor c d)

unmix : ℕ → ℕ → ℕ → ℕ → ℕ
unmix a b c d = sum (by14 a) (by11 b) (by13 c) (by9 d)

unmix_mix : (a b c d : ℕ) → a < 256 → b < 256 → c < 256 → d < 256 → unmix (mix a b c d) (mix b c d a) (mix c d a b) (mix d a b c) ≡ a
unfolding unmix by3 first? second? third? fourth?
unmix_mix =
    undone by14 by11 by13 by9 times_x by3 by14_additive by11_additive by13_additive by9_additive times_x_additive by3_additive
    (λ a h. eqb→eq _ _ (below_at first? 256 all_first a h)) (λ a h. eqb→eq _ _ (below_at second? 256 all_second a h))
    (λ a h. eqb→eq _ _ (below_at third? 256 all_third a h)) (λ a h. eqb→eq _ _ (below_at fourth? 256 all_fourth a h))

pub mix-small : (a b c d : ℕ) → a < 256 → b < 256 → c < 256 → d < 256 → mix a b c d < 256
unfolding by3
mix-small a b c d ha hb hc hd =
    xor_lt 8 (bit_xor (times_x a) (by3 b)) (bit_xor c d)
    (xor_lt 8 (times_x a) (by3 b) (times_x_additive.small a ha) (by3_additive.small b hb)) (xor_lt 8 c d hc hd)

-- byte r of a column that is mixed
abbrev pub mix_at : (ℕ → ℕ) → ℕ → ℕ
mix_at f r = mix (f r) (f ((r + 1) % 4)) (f ((r + 2) % 4)) (f ((r + 3) % 4))

mix_first : (f g : ℕ → ℕ) → ((r : ℕ) → r < 4 → f r < 256) → ((r : ℕ) → r < 4 → g r < 256) →
    ((r : ℕ) → r < 4 → mix_at f r ≡ mix_at g r) → f 0 ≡ g 0
mix_first f g bf bg e =
    let undo = λ (h : ℕ → ℕ) (b : (r : ℕ) → r < 4 → h r < 256).
    unmix_mix (h 0) (h 1) (h 2) (h 3) (b 0 (omega arith)) (b 1 (omega arith)) (b 2 (omega arith)) (b 3 (omega arith)) in
    sym (undo f bf)
    ∙ (λ i. unmix (e 0 (omega arith) i) (e 1 (omega arith) i) (e 2 (omega arith) i) (e 3 (omega arith) i))
    ∙ undo g bg

-- to turn a column by k places turns the mixed column
mix-turned : (f : ℕ → ℕ) (k r : ℕ) → mix_at (λ n. f ((n + k) % 4)) r ≡ mix_at f ((r + k) % 4)
mix-turned f k r =
    let e : ((r + 1) % 4 + k) % 4 ≡ ((r + k) % 4 + 1) % 4 = omega arith in
    let g : ((r + 2) % 4 + k) % 4 ≡ ((r + k) % 4 + 2) % 4 = omega arith in
    let h : ((r + 3) % 4 + k) % 4 ≡ ((r + k) % 4 + 3) % 4 = omega arith in
    λ i. mix (f ((r + k) % 4)) (f (e i)) (f (g i)) (f (h i))

-- columns that are mixed to the same are the same: place k is the first place of the columns turned
pub mix-apart : (f g : ℕ → ℕ) → ((r : ℕ) → r < 4 → f r < 256) → ((r : ℕ) → r < 4 → g r < 256) →
    ((r : ℕ) → r < 4 → mix_at f r ≡ mix_at g r) → (k : ℕ) → k < 4 → f k ≡ g k
mix-apart f g bf bg e k h =
    let place : (0 + k) % 4 ≡ k = omega arith in
    sym (ap f place)
    ∙ mix_first (λ n. f ((n + k) % 4)) (λ n. g ((n + k) % 4))
    (λ r _. bf ((r + k) % 4) (omega arith)) (λ r _. bg ((r + k) % 4) (omega arith))
    (λ r _. mix-turned f k r ∙ e ((r + k) % 4) (omega arith) ∙ sym (mix-turned g k r))
    ∙ ap g place
