-- The image of a block is a block, and different blocks have different images, whatever the round keys. Assumes nothing.
use Rattle.std.specs.Prelude.{◌≡◌, ℕ, zero, suc, ◌+◌, ◌*◌, ◌/◌, ◌%◌, ◌^◌, ◌<◌, List, [], ◌∷◌, length, slice_index, slice_index_or, refl}
use Rattle.std.proofs.Common.{sym, ap, ◌∙◌, subst, arith}
use Rattle.std.proofs.lemmas.List.FromFn.{fill_by_all}
use Rattle.blocks.proofs.Numbers.{number-apart, number_lt, number-bytes_of, bytes_of_bytes, length-bytes_of, all_bytes}
use Rattle.blocks.proofs.Spelt.{spelt}
use Rattle.blocks.specs.Blocks.{number, bytes_of, AllBytes}
use Rattle.aes.specs.Cipher.{cipher, image_with}
use Rattle.aes.specs.State.{State, byte_at, input, output}
use Rattle.aes.specs.Permutes.{Bytes, Same, by_four, state_bytes, state_same, cipher_permutes}

-- the byte of column c and row r is byte 4 c + r of the block
output-at : (s : State) (c r : ℕ) → c < 4 → r < 4 → slice_index (output s) (4 * c + r) ≡ byte_at s c r
output-at s c r hc hr =
    let Column : ℕ → Type 0 = λ c. (r : ℕ) → r < 4 → slice_index (output s) (4 * c + r) ≡ byte_at s c r in
    let column0 : Column 0 = by_four (λ r. slice_index (output s) (4 * 0 + r) ≡ byte_at s 0 r) refl refl refl refl in
    let column1 : Column 1 = by_four (λ r. slice_index (output s) (4 * 1 + r) ≡ byte_at s 1 r) refl refl refl refl in
    let column2 : Column 2 = by_four (λ r. slice_index (output s) (4 * 2 + r) ≡ byte_at s 2 r) refl refl refl refl in
    let column3 : Column 3 = by_four (λ r. slice_index (output s) (4 * 3 + r) ≡ byte_at s 3 r) refl refl refl refl in
    by_four Column column0 column1 column2 column3 c hc r hr

-- each place below 16 is one of a column and a row
place : (i : ℕ) → i ≡ 4 * (i / 4) + i % 4
place i = omega arith

output_bytes : (s : State) → Bytes s → AllBytes (output s)
output_bytes s b =
    all_bytes (output s)
    (λ i h.
    let at : slice_index_or (output s) i 0 ≡ byte_at s (i / 4) (i % 4) =
    ap (λ n. slice_index (output s) n) (place i) ∙ output-at s (i / 4) (i % 4) (omega arith) (omega arith) in
    subst (λ n. n < 256) (sym at) (b (i / 4) (i % 4) (omega arith) (omega arith)))

byte_small : (xs : List ℕ) → AllBytes xs → (i : ℕ) → slice_index xs i < 256
byte_small [] b i = omega arith
byte_small (x ∷ xs) b zero = b.0
byte_small (x ∷ xs) b (suc i) = byte_small xs b.1 i

input_bytes : (xs : List ℕ) → AllBytes xs → Bytes (input xs)
input_bytes xs b = state_bytes (λ c r. slice_index xs (4 * c + r)) (λ c r hc hr. byte_small xs b (4 * c + r))

input-apart : (xs ys : List ℕ) → length xs ≡ 16 → length ys ≡ 16 → Same (input xs) (input ys) → xs ≡ ys
input-apart xs ys lx ly e =
    fill_by_all (λ i. slice_index ys i) xs 16 0 lx
    (λ i h.
    ap (λ n. slice_index xs n) (place i)
    ∙ state_same (λ c r. slice_index xs (4 * c + r)) (λ c r. slice_index ys (4 * c + r)) e (i / 4) (i % 4) (omega arith) (omega arith)
    ∙ ap (λ n. slice_index ys n) (sym (place i)))
    ∙ sym (spelt 16 ys ly)

bytes_of-apart : (a b : ℕ) → a < 2 ^ 128 → b < 2 ^ 128 → bytes_of 16 a ≡ bytes_of 16 b → a ≡ b
bytes_of-apart a b ha hb e =
    let same : a % 256 ^ 16 ≡ b % 256 ^ 16 = sym (number-bytes_of 16 a) ∙ ap number e ∙ number-bytes_of 16 b in
    omega arith

block_bytes : (b : ℕ) → Bytes (input (bytes_of 16 b))
block_bytes b = input_bytes (bytes_of 16 b) (bytes_of_bytes 16 b)

enciphered_bytes : (w : ℕ → State) (b : ℕ) → Bytes (cipher w (input (bytes_of 16 b)))
enciphered_bytes w b = (cipher_permutes w).keeps (input (bytes_of 16 b)) (block_bytes b)

pub image-block : (w : ℕ → State) (b : ℕ) → image_with w b < 2 ^ 128
image-block w b = number_lt (output (cipher w (input (bytes_of 16 b)))) (output_bytes _ (enciphered_bytes w b))

pub image-apart : (w : ℕ → State) (a b : ℕ) → a < 2 ^ 128 → b < 2 ^ 128 → image_with w a ≡ image_with w b → a ≡ b
image-apart w a b ha hb e =
    let from-a = cipher w (input (bytes_of 16 a)) in
    let from-b = cipher w (input (bytes_of 16 b)) in
    let outputs : output from-a ≡ output from-b =
    number-apart (output from-a) (output from-b)
    (output_bytes from-a (enciphered_bytes w a)) (output_bytes from-b (enciphered_bytes w b)) refl e in
    let same : Same from-a from-b = λ c r hc hr.
    sym (output-at from-a c r hc hr) ∙ ap (λ xs. slice_index xs (4 * c + r)) outputs ∙ output-at from-b c r hc hr in
    bytes_of-apart a b ha hb
    (input-apart (bytes_of 16 a) (bytes_of 16 b) (length-bytes_of 16 a) (length-bytes_of 16 b)
    ((cipher_permutes w).apart (input (bytes_of 16 a)) (input (bytes_of 16 b)) (block_bytes a) (block_bytes b) same))
