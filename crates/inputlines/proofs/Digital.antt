-- A text of digits only, and one with another character. Assumes nothing.
use Rattle.std.proofs.Common.{◌≡◌, ℕ, zero, suc, ◌+◌, ◌*◌, ◌%◌, ◌<◌, true, false, List, [], ◌∷◌, length, get_or, is_some, Some, None, Option, unwrap_or, refl, ap, ◌∙◌, arith, Bool, if◌then◌else◌}
use Rattle.std.specs.Bool.{MatchBool}
use Rattle.std.specs.List.{AllWithin, HoldsAt}
use Rattle.digits.specs.Digits.{value_of, then_digit, byte_before, digits_bytes}
use Rattle.digits.specs.Hex.{is_digit, unhex}

-- a digit at each of the first n places
abbrev pub Digits : ℕ → List ℕ → Type 0
Digits n cs = (i : ℕ) → i < n → is_digit (get_or cs i 0) ≡ true

two_digits : (a b : Option ℕ) → is_some a ≡ true → is_some b ≡ true → then_digit a b ≡ Some (16 * unwrap_or a 0 + unwrap_or b 0)
two_digits None b p q = absurd (let z : ◌≡◌ {A = ℕ} 0 1 = cc in omega arith)
two_digits (Some x) None p q = absurd (let z : ◌≡◌ {A = ℕ} 0 1 = cc in omega arith)
two_digits (Some x) (Some y) p q = ap Some (omega arith)

-- an even number of digits is bytes
digits_are : (cs : List ℕ) → length cs % 2 ≡ 0 → Digits (length cs) cs → digits_bytes cs ≡ Some (unhex cs)
unfolding digits_bytes
digits_are [] e h = refl
digits_are (a ∷ []) e h = let z : ⊥ = omega arith in absurd z
digits_are (a ∷ b ∷ cs) e h =
    rw (
      two_digits (value_of a) (value_of b) (h 0 (omega arith)) (h 1 (omega arith)),
      digits_are cs (omega arith) (λ i l. h (suc (suc i)) (omega arith)),
    ) refl

-- with another character a text is none
then_none : (o : Option ℕ) → then_digit o None ≡ None
then_none None = refl
then_none (Some n) = refl

before_none : (o : Option ℕ) → byte_before o None ≡ None
before_none None = refl
before_none (Some b) = refl

none_at : (cs : List ℕ) (i : ℕ) → i < length cs → value_of (get_or cs i 0) ≡ None → digits_bytes cs ≡ None
unfolding digits_bytes
none_at [] i l e = let z : ⊥ = omega arith in absurd z
none_at (a ∷ []) i l e = refl
none_at (a ∷ b ∷ cs) zero l e = ap (λ v. byte_before (then_digit v (value_of b)) (digits_bytes cs)) e
none_at (a ∷ b ∷ cs) (suc zero) l e =
    ap (λ v. byte_before v (digits_bytes cs)) (ap (then_digit (value_of a)) e ∙ then_none (value_of a))
none_at (a ∷ b ∷ cs) (suc (suc i)) l e =
    ap (byte_before (then_digit (value_of a) (value_of b))) (none_at cs i (omega arith) e) ∙ before_none (then_digit (value_of a) (value_of b))

no_value : (o : Option ℕ) → is_some o ≡ false → o ≡ None
no_value None e = refl
no_value (Some n) e = absurd (let z : ◌≡◌ {A = ℕ} 0 1 = cc in omega arith)

digits_stop : (cs : List ℕ) (i : ℕ) → i < length cs → is_digit (get_or cs i 0) ≡ false → digits_bytes cs ≡ None
digits_stop cs i l e = none_at cs i l (no_value (value_of (get_or cs i 0)) e)

-- what the test on each character tells, where the number of characters is even
pub digits_told : (cs : List ℕ) (r : Bool) → length cs % 2 ≡ 0
    → MatchBool r (AllWithin (λ c. is_digit c ≡ true) cs 0 (length cs)) ((i : ℕ) × (i < length cs) × HoldsAt (λ c. is_digit c ≡ false) cs i)
    → digits_bytes cs ≡ (if r then Some (unhex cs) else None)
digits_told cs true e h = digits_are cs e (λ i l. h i 0 (omega arith) l)
digits_told cs false e h = digits_stop cs h.0 h.1 (h.2 0)
