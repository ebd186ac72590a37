-- As many places as things that stand in places of their own. Assumes nothing.
use Rattle.std.proofs.Common.{◌≡◌, ℕ, zero, suc, ◌<◌, ◌≤◌, ◌⊎◌, sym, ◌∙◌, inl, inr, arith}
use Rattle.std.proofs.lemmas.Bool.{cases_eq}

-- m things, each in a place below n, no two in one: m is at most n
pub places : (n m : ℕ) (f : ℕ → ℕ) → ((k : ℕ) → k < m → f k < n) → ((j k : ℕ) → j < m → k < m → f j ≡ f k → j ≡ k) → m ≤ n
places zero zero f low one = omega arith
places zero (suc m) f low one = absurd (omega (arith, low m (omega arith)))
places (suc n) zero f low one = omega arith
places (suc n) (suc m) f low one = omega (arith, places n m g low' one')
  where
    -- what stands in the last place goes where the last thing stood
    move : (x : ℕ) → (x ≡ n) ⊎ (x ≡ n → ⊥) → ℕ
    move x (inl e) = f m
    move x (inr e) = x

    g : ℕ → ℕ
    g k = move (f k) (cases_eq (f k) n)

    low_at : (k : ℕ) → k < m → (d : (f k ≡ n) ⊎ (f k ≡ n → ⊥)) → move (f k) d < n
    low_at k h (inl e) =
        let ne : f m ≡ n → ⊥ = λ q. omega (arith, one m k (omega arith) (omega arith) (q ∙ sym e)) in
        omega (arith, low m (omega arith))
    low_at k h (inr e) = omega (arith, low k (omega arith))

    low' : (k : ℕ) → k < m → g k < n
    low' k h = low_at k h (cases_eq (f k) n)

    one_at : (j k : ℕ) → j < m → k < m → (a : (f j ≡ n) ⊎ (f j ≡ n → ⊥)) (b : (f k ≡ n) ⊎ (f k ≡ n → ⊥)) → move (f j) a ≡ move (f k) b → j ≡ k
    one_at j k hj hk (inl a) (inl b) e = one j k (omega arith) (omega arith) (a ∙ sym b)
    one_at j k hj hk (inl a) (inr b) e = absurd (omega (arith, one m k (omega arith) (omega arith) e))
    one_at j k hj hk (inr a) (inl b) e = absurd (omega (arith, one j m (omega arith) (omega arith) e))
    one_at j k hj hk (inr a) (inr b) e = one j k (omega arith) (omega arith) e

    one' : (j k : ℕ) → j < m → k < m → g j ≡ g k → j ≡ k
    one' j k hj hk e = one_at j k hj hk (cases_eq (f j) n) (cases_eq (f k) n) e
