-- The first fault of a line lies where its digits end. Assumes nothing.
use Rattle.std.proofs.Common.{◌≡◌, ℕ, zero, suc, ◌+◌, ◌-◌, ◌<◌, ◌≤◌, Bool, true, false, cond, eqb, List, [], ◌∷◌, length, get_or, take, drop, Some, None, sym, refl, ap, ◌∙◌, subst, arith}
use Rattle.std.proofs.lemmas.List.{drop_more, drop_all}
use Rattle.std.proofs.lemmas.Bool.{cond-true, cond-false, eq-eqb, ne_eqb}
use Rattle.std.specs.List.{prefix_len}
use Rattle.digits.specs.Hex.{is_digit}
use Rattle.sheetlines.specs.Lines.{feed, place, fault_in}
use Rattle.sheetlines.specs.declared.fault.LineFault.TheVariants.{NoDigit, WrongEnd}

-- how many of the first n bytes are digits before the first that is none
abbrev pub digits : ℕ → List ℕ → ℕ
digits n xs = prefix_len is_digit (take n xs)

-- after d digits of n the line has the fault that it has from there on, and no digit stands there if one should
record Stopped (l k n d : ℕ) (xs : List ℕ) : Type 0 where
  few : d ≤ n
  within : d ≤ length xs
  fault : fault_in l k n xs ≡ fault_in l (k + d) (n - d) (drop d xs)
  other : d < n → d < length xs → is_digit (get_or xs d 0) ≡ false

at_once : (l k n : ℕ) (xs : List ℕ) → (0 < n → 0 < length xs → is_digit (get_or xs 0 0) ≡ false) → Stopped l k n 0 xs
at_once l k n xs h =
    let e : k ≡ k + 0 = omega arith in
    let f : n ≡ n - 0 = omega arith in
    record {
      few = omega arith;
      within = omega arith;
      fault = ap (λ x. fault_in l x n xs) e ∙ ap (λ x. fault_in l (k + 0) x xs) f;
      other = h;
    }

one_more : (l k n d c : ℕ) (xs : List ℕ) → is_digit c ≡ true → Stopped l (k + 1) n d xs → Stopped l k (suc n) (suc d) (c ∷ xs)
one_more l k n d c xs e r =
    let m : k + 1 + d ≡ k + suc d = omega arith in
    let o : n - d ≡ suc n - suc d = omega arith in
    record {
      few = omega (arith, r.few);
      within = omega (arith, r.within);
      fault = cond-true (is_digit c) _ _ e ∙ r.fault ∙ ap (λ x. fault_in l x (n - d) (drop d xs)) m
          ∙ ap (λ x. fault_in l (k + suc d) x (drop d xs)) o;
      other = λ h i. r.other (omega arith) (omega arith);
    }

stopped : (l k n : ℕ) (xs : List ℕ) → Stopped l k n (digits n xs) xs
stopped l k zero xs = at_once l k zero xs (λ z h. let b : ⊥ = omega arith in absurd b)
stopped l k (suc n) [] = at_once l k (suc n) [] (λ z h. let b : ⊥ = omega arith in absurd b)
stopped l k (suc n) (c ∷ xs) = go (is_digit c) refl (stopped l (k + 1) n xs)
  where
    go : (b : Bool) → is_digit c ≡ b → Stopped l (k + 1) n (digits n xs) xs → Stopped l k (suc n) (cond b (1 + digits n xs) 0) (c ∷ xs)
    go true e r =
        let s : suc (digits n xs) ≡ 1 + digits n xs = omega arith in
        subst (λ d. Stopped l k (suc n) d (c ∷ xs)) s (one_more l k n (digits n xs) c xs e r)
    go false e r = at_once l k (suc n) (c ∷ xs) (λ h i. e)

none_left : (l k n : ℕ) → fault_in l k n [] ≡ Some (WrongEnd (place l k))
none_left l k zero = refl
none_left l k (suc n) = refl

-- ## What stands after the digits of a line of n, of which there are d

pub digits_few : (n d : ℕ) (xs : List ℕ) → d ≡ digits n xs → d ≤ n
digits_few n d xs is = omega (arith, (stopped 1 1 n xs).few)

module _ (l n d : ℕ) (xs : List ℕ) (is : d ≡ digits n xs) where
  here : Stopped l 1 n d xs
  here = subst (λ x. Stopped l 1 n x xs) (sym is) (stopped l 1 n xs)

  from_here : (m : ℕ) → n - d ≡ m → fault_in l 1 n xs ≡ fault_in l (d + 1) m (drop d xs)
  from_here m e =
      let f : 1 + d ≡ d + 1 = omega arith in
      here.fault ∙ ap (λ x. fault_in l x (n - d) (drop d xs)) f ∙ ap (λ x. fault_in l (d + 1) x (drop d xs)) e

  -- nothing
  pub text_ends : length xs ≤ d → fault_in l 1 n xs ≡ Some (WrongEnd (place l (d + 1)))
  text_ends h =
      from_here (n - d) refl ∙ ap (fault_in l (d + 1) (n - d)) (drop_all d xs h) ∙ none_left l (d + 1) (n - d)

  -- the byte b
  module _ (b : ℕ) (i : d < length xs) (e : b ≡ get_or xs d 0) where
    at : (m : ℕ) → n - d ≡ m → fault_in l 1 n xs ≡ fault_in l (d + 1) m (b ∷ drop (d + 1) xs)
    at m f =
        from_here m f ∙ ap (fault_in l (d + 1) m) (drop_more xs d 0 i)
        ∙ ap (λ x. fault_in l (d + 1) m (x ∷ drop (d + 1) xs)) (sym e)

    -- where a digit should
    early : d < n → fault_in l 1 n xs ≡ Some (cond (eqb b feed) (WrongEnd (place l (d + 1))) (NoDigit (place l (d + 1))))
    early h = at (suc (n - d - 1)) (omega arith) ∙ cond-false (is_digit b) _ _ (ap is_digit e ∙ here.other h i)

    pub early_feed : d < n → b ≡ feed → fault_in l 1 n xs ≡ Some (WrongEnd (place l (d + 1)))
    early_feed h f = early h ∙ ap Some (cond-true (eqb b feed) _ _ (eq-eqb b feed f))

    pub no_digit : d < n → (b ≡ feed → ⊥) → fault_in l 1 n xs ≡ Some (NoDigit (place l (d + 1)))
    no_digit h f = early h ∙ ap Some (cond-false (eqb b feed) _ _ (ne_eqb b feed f))

    -- where the line feed should
    pub last-feed : n ≤ d → b ≡ feed → fault_in l 1 n xs ≡ None
    last-feed h f = at 0 (omega arith) ∙ cond-true (eqb b feed) _ _ (eq-eqb b feed f)

    pub last_other : n ≤ d → (b ≡ feed → ⊥) → fault_in l 1 n xs ≡ Some (WrongEnd (place l (d + 1)))
    last_other h f = at 0 (omega arith) ∙ cond-false (eqb b feed) _ _ (ne_eqb b feed f)
