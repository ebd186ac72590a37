-- The cipher takes states of bytes to states of bytes, and different ones to different ones, since each of its transformations
-- does. Assumes nothing.
use Rattle.std.specs.Prelude.{◌≡◌, ℕ, zero, suc, ◌+◌, ◌-◌, ◌%◌, ◌<◌, [], bit_xor, slice_index, slice_index_or, refl}
use Rattle.std.proofs.Common.{sym, ap, ◌∙◌, subst, arith}
use Rattle.std.proofs.lemmas.Nat.{xor_lt}
use Rattle.blocks.proofs.Xors.{xor_apart}
use Rattle.bytefield.proofs.Mixes.{mix-small, mix-apart}
use Rattle.bytefield.proofs.Subs.{sub_small, sub_apart}
use Rattle.bytefield.specs.Substitution.{substitution}
use Rattle.aes.specs.Cipher.{round, final_round, rounds, cipher}
use Rattle.aes.specs.State.{State, byte_at, column_of, state_of, sub_bytes, shift_rows, mixed, mix_columns, add_round_key}

abbrev pub Bytes : State → Type 0
Bytes s = (c r : ℕ) → c < 4 → r < 4 → byte_at s c r < 256

abbrev pub Same : State → State → Type 0
Same s t = (c r : ℕ) → c < 4 → r < 4 → byte_at s c r ≡ byte_at t c r

pub record Permutes (f : State → State) : Type 0 where
  pub keeps : (s : State) → Bytes s → Bytes (f s)
  pub apart : (s t : State) → Bytes s → Bytes t → Same (f s) (f t) → Same s t

permutes_after : (f g : State → State) → Permutes f → Permutes g → Permutes (λ s. f (g s))
permutes_after f g F G = record {
  keeps = λ s b. F.keeps (g s) (G.keeps s b);
  apart = λ s t bs bt e. G.apart s t bs bt (F.apart (g s) (g t) (G.keeps s bs) (G.keeps t bt) e);
}

-- what holds at 0, 1, 2 and 3 holds at each number below 4
pub by_four : (P : ℕ → Type 0) → P 0 → P 1 → P 2 → P 3 → (i : ℕ) → i < 4 → P i
by_four P a b c d zero h = a
by_four P a b c d (suc zero) h = b
by_four P a b c d (suc (suc zero)) h = c
by_four P a b c d (suc (suc (suc zero))) h = d
by_four P a b c d (suc (suc (suc (suc i)))) h = let z : ⊥ = omega arith in absurd z

-- what stands in the state of a function
state-at : (f : ℕ → ℕ → ℕ) (c r : ℕ) → c < 4 → r < 4 → byte_at (state_of f) c r ≡ f c r
state-at f c r hc hr =
    ap (λ a. slice_index a r) (by_four (λ n. slice_index_or (state_of f) n [] ≡ column_of (f n)) refl refl refl refl c hc)
    ∙ by_four (λ n. slice_index (column_of (f c)) n ≡ f c n) refl refl refl refl r hr

pub state_bytes : (f : ℕ → ℕ → ℕ) → ((c r : ℕ) → c < 4 → r < 4 → f c r < 256) → Bytes (state_of f)
state_bytes f b c r hc hr = subst (λ n. n < 256) (sym (state-at f c r hc hr)) (b c r hc hr)

pub state_same : (f g : ℕ → ℕ → ℕ) → Same (state_of f) (state_of g) → (c r : ℕ) → c < 4 → r < 4 → f c r ≡ g c r
state_same f g e c r hc hr = sym (state-at f c r hc hr) ∙ e c r hc hr ∙ state-at g c r hc hr

abbrev sub_at : State → ℕ → ℕ → ℕ
sub_at s c r = substitution (byte_at s c r)

sub_permutes : Permutes sub_bytes
sub_permutes = record {
  keeps = λ s b. state_bytes (sub_at s) (λ c r hc hr. sub_small (byte_at s c r));
  apart = λ s t bs bt e c r hc hr.
      sub_apart (byte_at s c r) (byte_at t c r) (bs c r hc hr) (bt c r hc hr) (state_same (sub_at s) (sub_at t) e c r hc hr);
}

abbrev shift_at : State → ℕ → ℕ → ℕ
shift_at s c r = byte_at s ((c + r) % 4) r

-- the byte in column c and row r goes r columns to the left, and is looked up there
shift_apart : (s t : State) → Same (shift_rows s) (shift_rows t) → Same s t
shift_apart s t e c r hc hr =
    let place : ((c + (4 - r)) % 4 + r) % 4 ≡ c = omega arith in
    ap (λ n. byte_at s n r) (sym place)
    ∙ state_same (shift_at s) (shift_at t) e ((c + (4 - r)) % 4) r (omega arith) hr
    ∙ ap (λ n. byte_at t n r) place

shift_permutes : Permutes shift_rows
shift_permutes = record {
  keeps = λ s b. state_bytes (shift_at s) (λ c r hc hr. b ((c + r) % 4) r (omega arith) hr);
  apart = λ s t bs bt e. shift_apart s t e;
}

abbrev mixed_at : State → ℕ → ℕ → ℕ
mixed_at s c r = mixed (byte_at s c r) (byte_at s c ((r + 1) % 4)) (byte_at s c ((r + 2) % 4)) (byte_at s c ((r + 3) % 4))

mixed-small : (s : State) → Bytes s → (c r : ℕ) → c < 4 → r < 4 → mixed_at s c r < 256
mixed-small s b c r hc hr =
    mix-small (byte_at s c r) (byte_at s c ((r + 1) % 4)) (byte_at s c ((r + 2) % 4)) (byte_at s c ((r + 3) % 4))
    (b c r hc hr) (b c ((r + 1) % 4) hc (omega arith)) (b c ((r + 2) % 4) hc (omega arith)) (b c ((r + 3) % 4) hc (omega arith))

mix_permutes : Permutes mix_columns
mix_permutes = record {
  keeps = λ s b. state_bytes (mixed_at s) (mixed-small s b);
  apart = λ s t bs bt e c r hc hr.
      mix-apart (byte_at s c) (byte_at t c) (λ n. bs c n hc) (λ n. bt c n hc) (λ n. state_same (mixed_at s) (mixed_at t) e c n hc) r hr;
}

abbrev added_at : State → State → ℕ → ℕ → ℕ
added_at k s c r = bit_xor (byte_at s c r) (byte_at k c r % 256)

add_permutes : (k : State) → Permutes (add_round_key k)
add_permutes k = record {
  keeps = λ s b. state_bytes (added_at k s) (λ c r hc hr. xor_lt 8 (byte_at s c r) (byte_at k c r % 256) (b c r hc hr) (omega arith));
  apart = λ s t bs bt e c r hc hr.
      xor_apart (byte_at s c r) (byte_at t c r) (byte_at k c r % 256) (state_same (added_at k s) (added_at k t) e c r hc hr);
}

shift_sub_permutes : Permutes (λ s. shift_rows (sub_bytes s))
shift_sub_permutes = permutes_after shift_rows sub_bytes shift_permutes sub_permutes

round_permutes : (k : State) → Permutes (round k)
unfolding round
round_permutes k =
    permutes_after (add_round_key k) (λ s. mix_columns (shift_rows (sub_bytes s))) (add_permutes k)
    (permutes_after mix_columns (λ s. shift_rows (sub_bytes s)) mix_permutes shift_sub_permutes)

final_permutes : (k : State) → Permutes (final_round k)
unfolding final_round
final_permutes k = permutes_after (add_round_key k) (λ s. shift_rows (sub_bytes s)) (add_permutes k) shift_sub_permutes

rounds_permutes : (n : ℕ) (w : ℕ → State) → Permutes (rounds n w)
unfolding rounds
rounds_permutes zero w = record { keeps = λ s b. b; apart = λ s t bs bt e. e }
rounds_permutes (suc n) w = permutes_after (round (w (suc n))) (rounds n w) (round_permutes (w (suc n))) (rounds_permutes n w)

pub cipher_permutes : (w : ℕ → State) → Permutes (cipher w)
cipher_permutes w =
    permutes_after (final_round (w 10)) (λ s. rounds 9 w (add_round_key (w 0) s)) (final_permutes (w 10))
    (permutes_after (rounds 9 w) (add_round_key (w 0)) (rounds_permutes 9 w) (add_permutes (w 0)))
