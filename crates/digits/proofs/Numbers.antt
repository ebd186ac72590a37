-- Reading digits one after another. Assumes nothing.
use Rattle.std.proofs.Common.{◌≡◌, ℕ, ◌+◌, ◌*◌, ◌^◌, ◌<◌, ◌≤◌, List, [], ◌∷◌, ◌++◌, length, get_or, take, drop, Some, None, Option, sym, refl, ap, ◌∙◌, arith, pow_mono, pow-add, eq-eqb, le-leb}
use Rattle.std.proofs.lemmas.List.{take_more, drop_more, take-append-drop}
use Rattle.std.specs.Option.{unwrap_or}
use Rattle.digits.specs.Hex.{value}
use Rattle.digits.proofs.Hexes.{value-small}
use Rattle.digits.specs.Digits.{value_of, then_digit, digits_from, digits_number, number_of}

-- a digit's value is below 16
pub value_lt : (c d : ℕ) → Some d ≡ value_of c → d < 16
value_lt c d e = let is : d ≡ value c = ap (λ o. unwrap_or o 0) e in omega (arith, value-small c)

then_none : (n : Option ℕ) → then_digit n None ≡ None
then_none None = refl
then_none (Some n) = refl

digits_from_none : (cs : List ℕ) → digits_from None cs ≡ None
unfolding digits_from
digits_from_none [] = refl
digits_from_none (c ∷ cs) = digits_from_none cs

-- one text after another
digits_from_append : (n : Option ℕ) (cs ds : List ℕ) → digits_from n (cs ++ ds) ≡ digits_from (digits_from n cs) ds
unfolding digits_from
digits_from_append n [] ds = refl
digits_from_append n (c ∷ cs) ds = digits_from_append (then_digit n (value_of c)) cs ds

pub number_none : Some 0 ≡ digits_number []
unfolding digits_from
number_none = refl

-- one digit more
pub number_more : (cs : List ℕ) (i n d : ℕ) → i < length cs → digits_number (take i cs) ≡ Some n → Some d ≡ value_of (get_or cs i 0)
    → digits_number (take (i + 1) cs) ≡ Some (n * 16 + d)
unfolding digits_from
number_more cs i n d h e f =
    ap digits_number (take_more cs i 0 h)
    ∙ digits_from_append (Some 0) (take i cs) (get_or cs i 0 ∷ [])
    ∙ ap (λ m. then_digit m (value_of (get_or cs i 0))) e
    ∙ ap (then_digit (Some n)) (sym f)

-- a character that is no digit
pub number_stops : (cs : List ℕ) (i : ℕ) → i < length cs → None ≡ value_of (get_or cs i 0) → None ≡ digits_number cs
unfolding digits_from
number_stops cs i h f =
    let front = digits_number (take i cs) in
    sym (ap digits_number (sym (take-append-drop i cs))
    ∙ digits_from_append (Some 0) (take i cs) (drop i cs)
    ∙ ap (digits_from front) (drop_more cs i 0 h)
    ∙ ap (λ v. digits_from (then_digit front v) (drop (i + 1) cs)) (sym f)
    ∙ ap (λ v. digits_from v (drop (i + 1) cs)) (then_none front)
    ∙ digits_from_none (drop (i + 1) cs))

-- a text of the right length is read
pub number_of_accepts : (n : ℕ) (cs : List ℕ) → length cs ≡ n → n ≤ 32 → number_of n cs ≡ digits_number cs
number_of_accepts n cs e h = rw (eq-eqb (length cs) n e, le-leb n 32 h) refl

-- four bits a digit
pub more_bits : (n d i : ℕ) → n < 2 ^ (4 * i) → d < 16 → n * 16 + d < 2 ^ (4 * (i + 1))
more_bits n d i h g =
    let e : 4 * (i + 1) ≡ 4 * i + 4 = omega arith in
    rw (e, pow-add 2 (4 * i) 4) (omega arith)

pub few_bits : (n i : ℕ) → n < 2 ^ (4 * i) → i ≤ 32 → n < 2 ^ 128
few_bits n i h g =
    let le : 4 * i ≤ 128 = omega arith in
    let p : 2 ^ (4 * i) ≤ 2 ^ 128 = pow_mono le in
    omega arith

-- what the proof of `number` takes
pub ruleset reading = (number_none, number_stops, number_of_accepts)
