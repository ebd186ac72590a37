-- Reading two digits after another. Assumes nothing.
use Rattle.std.proofs.Common.{◌≡◌, ℕ, zero, suc, ◌+◌, ◌*◌, ◌%◌, ◌<◌, ◌≤◌, List, [], ◌∷◌, ◌++◌, length, get_or, drop, Some, None, Option, sym, refl, ap, ◌∙◌, append_assoc, append-nil, arith}
use Rattle.std.proofs.lemmas.List.{drop_more, drop_all}
use Rattle.std.proofs.lemmas.Grind.{common_steps}
use Rattle.std.specs.Option.{option_map}
use Rattle.std.specs.Simd.{first_chunks}
use Rattle.digits.specs.Digits.{value_of, then_digit, byte_before, digits_bytes}

-- bytes xs in front of what a text is
abbrev pub after : List ℕ → Option (List ℕ) → Option (List ℕ)
after xs o = option_map (λ bs. xs ++ bs) o

after_before : (xs : List ℕ) (b : ℕ) (o : Option (List ℕ)) → after xs (byte_before (Some b) o) ≡ after (xs ++ b ∷ []) o
after_before xs b None = refl
after_before xs b (Some bs) = ap Some (sym (append_assoc xs (b ∷ []) bs))

-- the pairs that a text is cut into are its characters in turn
pub pairs_at : (cs : List ℕ) (k i : ℕ) (d : List ℕ) → i < k → 2 * k ≤ length cs → get_or (first_chunks 2 k cs) i d ≡ get_or cs (2 * i) 0 ∷ get_or cs (2 * i + 1) 0 ∷ []
pairs_at [] k i d h l = absurd (omega arith)
pairs_at (a ∷ []) k i d h l = absurd (omega arith)
pairs_at (a ∷ b ∷ cs) zero i d h l = absurd (omega arith)
pairs_at (a ∷ b ∷ cs) (suc k) zero d h l = refl
pairs_at (a ∷ b ∷ cs) (suc k) (suc i) d h l = pairs_at cs k i d (omega arith) (omega arith) ∙ grind arith

-- the two characters at 2 i, and the rest
two-more : (cs : List ℕ) (i : ℕ) → 2 * i + 1 < length cs → drop (2 * i) cs ≡ get_or cs (2 * i) 0 ∷ get_or cs (2 * i + 1) 0 ∷ drop (2 * (i + 1)) cs
two-more cs i h = grind (arith, common_steps, drop_more)

-- one byte more
pub bytes_more : (xs cs : List ℕ) (i n : ℕ) → 2 * i + 1 < length cs → Some n ≡ then_digit (value_of (get_or cs (2 * i) 0)) (value_of (get_or cs (2 * i + 1) 0))
    → after xs (digits_bytes (drop (2 * i) cs)) ≡ after (xs ++ n ∷ []) (digits_bytes (drop (2 * (i + 1)) cs))
unfolding digits_bytes
bytes_more xs cs i n h e =
    let rest = digits_bytes (drop (2 * (i + 1)) cs) in
    ap (λ ds. after xs (digits_bytes ds)) (two-more cs i h) ∙ ap (λ v. after xs (byte_before v rest)) (sym e) ∙ after_before xs n rest

-- two characters that are no byte
pub bytes_stop : (xs cs : List ℕ) (i : ℕ) → 2 * i + 1 < length cs → None ≡ then_digit (value_of (get_or cs (2 * i) 0)) (value_of (get_or cs (2 * i + 1) 0))
    → after xs (digits_bytes (drop (2 * i) cs)) ≡ None
unfolding digits_bytes
bytes_stop xs cs i h e =
    ap (λ ds. after xs (digits_bytes ds)) (two-more cs i h) ∙ ap (λ v. after xs (byte_before v (digits_bytes (drop (2 * (i + 1)) cs)))) (sym e)

-- the end of the text
pub bytes_all : (xs cs : List ℕ) (i : ℕ) → length cs ≤ 2 * i → after xs (digits_bytes (drop (2 * i) cs)) ≡ Some xs
unfolding digits_bytes
bytes_all xs cs i h = ap (λ ds. after xs (digits_bytes ds)) (drop_all (2 * i) cs h) ∙ ap Some (append-nil xs)

-- an odd number of digits
pub bytes_odd : (cs : List ℕ) → length cs % 2 ≡ 1 → digits_bytes cs ≡ None
unfolding digits_bytes
bytes_odd [] h = absurd (omega arith)
bytes_odd (a ∷ []) h = refl
bytes_odd (a ∷ b ∷ cs) h = ap (byte_before (then_digit (value_of a) (value_of b))) (bytes_odd cs (omega arith)) ∙ go (then_digit (value_of a) (value_of b))
  where
    go : (o : Option ℕ) → byte_before o None ≡ None
    go None = refl
    go (Some b) = refl

-- what the proof of `bytes` takes
pub ruleset pairing = (pairs_at, bytes_more, bytes_stop, bytes_all, bytes_odd)
