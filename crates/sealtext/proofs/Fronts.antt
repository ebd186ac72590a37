-- A buffer whose front is written byte by byte. Assumes nothing.
use Rattle.std.proofs.Common.{◌≡◌, ℕ, ◌+◌, ◌/◌, ◌%◌, ◌^◌, ◌<◌, ◌≤◌, List, [], ◌∷◌, ◌++◌, length, get_or, drop, set, decimal, sym, refl, ap, ◌∙◌, append_assoc, arith}
use Rattle.std.proofs.lemmas.Fmt.{decimal_digit, decimal_step}
use Rattle.std.proofs.lemmas.List.{length_push, drop_more, set_at}
use Rattle.inputlines.specs.Lines.{feed}
use Rattle.sealtext.specs.Texts.{told_line, on_front}

-- one byte more
front_push : (xs out : List ℕ) (n b : ℕ) → length xs ≡ n → n < length out → set (on_front xs out) n b ≡ on_front (xs ++ b ∷ []) out
front_push xs out n b e h =
    let more : length xs < length out = omega arith in
    ap (λ (ys : List ℕ). set (xs ++ ys) n b) (drop_more out (length xs) 0 more)
    ∙ set_at xs (get_or out (length xs) 0) (drop (length xs + 1) out) b n e
    ∙ sym (append_assoc xs (b ∷ []) (drop (length xs + 1) out))
    ∙ ap (λ k. (xs ++ b ∷ []) ++ drop k out) (sym (length_push xs b))

-- a number of one digit, and of two
told-one : (word : List ℕ) (n : ℕ) → n < 10 → (word ++ (48 + n) ∷ []) ++ feed ∷ [] ≡ told_line word n
told-one word n h =
    append_assoc word ((48 + n) ∷ []) (feed ∷ []) ∙ ap (λ (ds : List ℕ). word ++ (ds ++ feed ∷ [])) (sym (decimal_digit n h))

decimal-two : (n : ℕ) → 10 ≤ n → n < 100 → decimal n ≡ (48 + n / 10) ∷ (48 + n % 10) ∷ []
decimal-two n l h =
    let small : n < 2 ^ 64 = omega arith in
    decimal_step n l small ∙ ap (λ (ds : List ℕ). ds ++ (48 + n % 10) ∷ []) (decimal_digit (n / 10) (omega arith))

told-two : (word : List ℕ) (n : ℕ) → 10 ≤ n → n < 100
    → ((word ++ (48 + n / 10) ∷ []) ++ (48 + n % 10) ∷ []) ++ feed ∷ [] ≡ told_line word n
told-two word n l h =
    ap (λ (ds : List ℕ). ds ++ feed ∷ []) (append_assoc word ((48 + n / 10) ∷ []) ((48 + n % 10) ∷ []))
    ∙ append_assoc word ((48 + n / 10) ∷ (48 + n % 10) ∷ []) (feed ∷ [])
    ∙ ap (λ (ds : List ℕ). word ++ (ds ++ feed ∷ [])) (sym (decimal-two n l h))

-- a buffer after the bytes that follow the word: one digit or two, and the line feed
abbrev pub one_put : List ℕ → ℕ → List ℕ → List ℕ
one_put word n buffer = set (set buffer (length word) (48 + n)) (length word + 1) feed

abbrev pub two_put : List ℕ → ℕ → List ℕ → List ℕ
two_put word n buffer = set (set (set buffer (length word) (48 + n / 10)) (length word + 1) (48 + n % 10)) (length word + 2) feed

-- how many bytes a told line has, and that the buffer has it at its front
pub record Put (word : List ℕ) (n count : ℕ) (out buffer : List ℕ) : Type 0 where
  pub count_is : count ≡ length (told_line word n)
  pub buffer_is : buffer ≡ on_front (told_line word n) out

module _ (word copied out : List ℕ) (n : ℕ) (same : copied ≡ word) (room : length word + 3 ≤ length out) where
  pub put_one : n < 10 → Put word n (length word + 2) out (one_put word n (copied ++ drop (length word) out))
  put_one h =
      let one = length_push word (48 + n) in
      record {
        count_is = sym (ap length (sym (told-one word n h)) ∙ length_push (word ++ (48 + n) ∷ []) feed ∙ omega arith);
        buffer_is =
            ap (λ (xs : List ℕ). one_put word n (xs ++ drop (length word) out)) same
            ∙ ap (λ (ys : List ℕ). set ys (length word + 1) feed) (front_push word out (length word) (48 + n) refl (omega arith))
            ∙ front_push (word ++ (48 + n) ∷ []) out (length word + 1) feed one (omega arith)
            ∙ ap (λ (ys : List ℕ). on_front ys out) (told-one word n h);
      }

  pub put_two : 10 ≤ n → n < 100 → Put word n (length word + 3) out (two_put word n (copied ++ drop (length word) out))
  put_two l h =
      let one = length_push word (48 + n / 10) in
      let two = length_push (word ++ (48 + n / 10) ∷ []) (48 + n % 10) in
      let three = length_push ((word ++ (48 + n / 10) ∷ []) ++ (48 + n % 10) ∷ []) feed in
      record {
        count_is = sym (ap length (sym (told-two word n l h)) ∙ three ∙ omega arith);
        buffer_is =
            ap (λ (xs : List ℕ). two_put word n (xs ++ drop (length word) out)) same
            ∙ ap (λ (ys : List ℕ). set (set ys (length word + 1) (48 + n % 10)) (length word + 2) feed)
            (front_push word out (length word) (48 + n / 10) refl (omega arith))
            ∙ ap (λ (ys : List ℕ). set ys (length word + 2) feed)
            (front_push (word ++ (48 + n / 10) ∷ []) out (length word + 1) (48 + n % 10) one (omega arith))
            ∙ front_push ((word ++ (48 + n / 10) ∷ []) ++ (48 + n % 10) ∷ []) out (length word + 2) feed (omega arith) (omega arith)
            ∙ ap (λ (ys : List ℕ). on_front ys out) (told-two word n l h);
      }
