-- Maps of bytes that keep xor: times x, and what is built of it. Assumes nothing.
use Rattle.std.proofs.Common.{◌≡◌, ℕ, ◌*◌, ◌/◌, ◌%◌, ◌<◌, refl, ap, ap₂, ◌∙◌, mul_comm, arith}
use lib.Bits.{bit_xor, xor_lt, xor_mod, xor_shr}
use Rattle.blocks.proofs.Xors.{xor_middle, xor_doubled, xor_bits}
use Rattle.bytefield.specs.Field.{times_x}

pub record Additive (f : ℕ → ℕ) : Type 0 where
  pub adds : (a b : ℕ) → a < 256 → b < 256 → f (bit_xor a b) ≡ bit_xor (f a) (f b)
  pub small : (a : ℕ) → a < 256 → f a < 256

pub additive_same : Additive (λ a. a)
additive_same = record { adds = λ a b ha hb. refl; small = λ a h. h }

pub additive_after : (f g : ℕ → ℕ) → Additive f → Additive g → Additive (λ a. f (g a))
additive_after f g F G = record {
  adds = λ a b ha hb. ap f (G.adds a b ha hb) ∙ F.adds (g a) (g b) (G.small a ha) (G.small b hb);
  small = λ a h. F.small (g a) (G.small a h);
}

pub additive_sum : (f g : ℕ → ℕ) → Additive f → Additive g → Additive (λ a. bit_xor (f a) (g a))
additive_sum f g F G = record {
  adds = λ a b ha hb. (λ i. bit_xor (F.adds a b ha hb i) (G.adds a b ha hb i)) ∙ xor_middle (f a) (f b) (g a) (g b);
  small = λ a h. xor_lt 8 (f a) (g a) (F.small a h) (G.small a h);
}

times_x_adds : (a b : ℕ) → a < 256 → b < 256 → times_x (bit_xor a b) ≡ bit_xor (times_x a) (times_x b)
times_x_adds a b ha hb =
    let low : (bit_xor a b * 2) % 256 ≡ bit_xor ((a * 2) % 256) ((b * 2) % 256) =
    ap (λ n. n % 256) (mul_comm (bit_xor a b) 2 ∙ xor_doubled a b ∙ ap₂ bit_xor (mul_comm 2 a) (mul_comm 2 b)) ∙ xor_mod (a * 2) (b * 2) 8 in
    let high : bit_xor a b / 128 * 0x1b ≡ bit_xor (a / 128 * 0x1b) (b / 128 * 0x1b) =
    ap (λ n. n * 0x1b) (xor_shr a b 7) ∙ xor_bits (a / 128) (b / 128) 0x1b (omega arith) (omega arith) in
    (λ i. bit_xor (low i) (high i)) ∙ xor_middle ((a * 2) % 256) ((b * 2) % 256) (a / 128 * 0x1b) (b / 128 * 0x1b)

pub times_x_additive : Additive times_x
times_x_additive = record {
  adds = times_x_adds;
  small = λ a h. xor_lt 8 ((a * 2) % 256) (a / 128 * 0x1b) (omega arith) (omega arith);
}

-- over a sum of four
pub additive_four : (f : ℕ → ℕ) → Additive f → (a b c d : ℕ) → a < 256 → b < 256 → c < 256 → d < 256 →
    f (bit_xor (bit_xor a b) (bit_xor c d)) ≡ bit_xor (bit_xor (f a) (f b)) (bit_xor (f c) (f d))
additive_four f F a b c d ha hb hc hd =
    F.adds (bit_xor a b) (bit_xor c d) (xor_lt 8 a b ha hb) (xor_lt 8 c d hc hd)
    ∙ (λ i. bit_xor (F.adds a b ha hb i) (F.adds c d hc hd i))
