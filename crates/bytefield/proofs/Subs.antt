-- The field's rules and the substitution's, at every byte, mostly by tests that the checker computes. Assumes nothing.
use mathlib.Core.Path.{◌≡◌, refl, sym, ap, ◌∙◌}
use mathlib.Core.Bool.{Bool, true, false, cond}
use Prim.Native.Nat.{ℕ, zero, suc, ◌+◌, ◌*◌, ◌%◌, ◌<◌}
use native.Mathlib.Omega.{arith}
use lib.Bits.{bit_xor}
use lib.Dec.{T, eqb, eqb→eq}
use Rattle.blocks.proofs.Tables.{below, below_at}
use Rattle.bytefield.specs.Field.{times_x, times_low, product, found_below, inverse}
use Rattle.bytefield.specs.Substitution.{bit, affine, substitution, FieldRules, Substitutes}

-- what a search below a bound finds is below it
found_small : (test : ℕ → Bool) (n : ℕ) → found_below test (suc n) < suc n
unfolding found_below
found_small test zero = elim (test 0) as (λ b. cond b 0 0 < 1) [ true ↦ omega arith | false ↦ omega arith ]
found_small test (suc n) =
    let p = found_small test n in
    elim (test (suc n)) as (λ b. cond b (suc n) (found_below test (suc n)) < suc (suc n)) [ true ↦ omega arith | false ↦ omega arith ]

inverse-small : (a : ℕ) → inverse a < 256
unfolding inverse
inverse-small a = found_small (λ b. eqb (product a b) 1) 255

inverse_zero : inverse 0 ≡ 0
unfolding inverse found_below times_low
inverse_zero = refl

-- tested at a + 1, since 0 has no inverse
inverts? : ℕ → Bool
inverts? a = eqb (product (suc a) (inverse (suc a))) 1

all_invert : T (below inverts? 255)
unfolding inverts? inverse found_below times_low
all_invert = tt

inverse-inverts : (a : ℕ) → a < 256 → 0 < a → product a (inverse a) ≡ 1
unfolding inverts?
inverse-inverts zero h p = let z : ⊥ = omega arith in absurd z
inverse-inverts (suc a) h p = eqb→eq _ _ (below_at inverts? 255 all_invert a (omega arith))

twice? : ℕ → Bool
twice? a = eqb (product a 2) (times_x a)

all_twice : T (below twice? 256)
unfolding twice? times_low
all_twice = tt

thrice? : ℕ → Bool
thrice? a = eqb (product a 3) (bit_xor (times_x a) a)

all_thrice : T (below thrice? 256)
unfolding thrice? times_low
all_thrice = tt

field_rules : (a : ℕ) → a < 256 → FieldRules a
unfolding twice? thrice?
field_rules a h = record {
  byte = inverse-small a;
  at_zero = λ e. ap inverse e ∙ inverse_zero;
  inverts = inverse-inverts a h;
  twice = eqb→eq _ _ (below_at twice? 256 all_twice a h);
  thrice = eqb→eq _ _ (below_at thrice? 256 all_thrice a h);
}

-- the inverse undoes itself
returns? : ℕ → Bool
returns? a = eqb (inverse (inverse a)) a

all_return : T (below returns? 256)
unfolding returns? inverse found_below times_low
all_return = tt

inverse-twice : (a : ℕ) → a < 256 → inverse (inverse a) ≡ a
unfolding returns?
inverse-twice a h = eqb→eq _ _ (below_at returns? 256 all_return a h)

-- the affine map read backwards: bit i is the xor of bits i+2, i+5 and i+7, and of bit i of 5
back_bit : ℕ → ℕ → ℕ
back_bit a i = (bit a (i + 2) + bit a (i + 5) + bit a (i + 7) + bit 0x05 i) % 2

back : ℕ → ℕ
unfolding back_bit
back a =
    back_bit a 0 + back_bit a 1 * 2 + back_bit a 2 * 4 + back_bit a 3 * 8
    + back_bit a 4 * 16 + back_bit a 5 * 32 + back_bit a 6 * 64 + back_bit a 7 * 128

back? : ℕ → Bool
back? a = eqb (back (affine a)) a

all_back : T (below back? 256)
unfolding back? back back_bit
all_back = tt

affine_back : (a : ℕ) → a < 256 → back (affine a) ≡ a
unfolding back?
affine_back a h = eqb→eq _ _ (below_at back? 256 all_back a h)

pub sub_small : (a : ℕ) → substitution a < 256
unfolding substitution
sub_small a = omega arith

pub sub_apart : (a b : ℕ) → a < 256 → b < 256 → substitution a ≡ substitution b → a ≡ b
unfolding substitution
sub_apart a b ha hb e =
    let inner : inverse a ≡ inverse b =
    sym (affine_back (inverse a) (inverse-small a)) ∙ ap back e ∙ affine_back (inverse b) (inverse-small b) in
    sym (inverse-twice a ha) ∙ ap inverse inner ∙ inverse-twice b hb

pub substitutes : Substitutes
substitutes = (field_rules, sub_apart)
