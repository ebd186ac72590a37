-- After n begins of the last batch n of its nonces are given. Assumes nothing.
use Rattle.std.proofs.Common.{◌≡◌, ℕ, zero, suc, ◌+◌, ◌-◌, ◌^◌, ◌<◌, true, ltb, leb, Some, None, refl, ap, ◌∙◌, arith}
use Rattle.std.proofs.lemmas.Bool.{lt-ltb, le-leb, and_from}
use Rattle.chm.specs.Sealers.{Standing, standing, batch, begun}
use Rattle.method.specs.Limits.{tag_fits}
use Rattle.stores.specs.Store.{Store, completed}
use Rattle.history.specs.Ends.{begins, nearly_full, Ends}
use Rattle.history.specs.Runs.{Tag}

abbrev given : ℕ → ℕ → ℕ → Standing
given p v n = standing (completed (nearly_full p v)) true (Some (batch (2 ^ 53 - 1) n))

fits : (t : ℕ) → Tag t → tag_fits t ≡ true
fits t w = and_from (leb 12 t) (leb t 16) (le-leb 12 t w.0) (le-leb t 16 w.1)

first : (t p v : ℕ) → tag_fits t ≡ true → begun (standing (nearly_full p v) true None) t ≡ given p v 1
first t p v f = rw (f, lt-ltb 0 (p + 1) (omega arith)) refl

next : (t p v n : ℕ) → tag_fits t ≡ true → ltb n 1024 ≡ true → begun (given p v n) t ≡ given p v (suc n)
next t p v n f l = rw (f, l) (ap (given p v) (omega arith))

all_given : (t p v n : ℕ) → tag_fits t ≡ true → n < 1024 → begins (standing (nearly_full p v) true None) t (suc n) ≡ given p v (suc n)
unfolding begins
all_given t p v zero f l = first t p v f
all_given t p v (suc n) f l = ap (λ s. begun s t) (all_given t p v n f (omega arith)) ∙ next t p v (suc n) f (lt-ltb (suc n) 1024 l)

pub ends : (E : ℕ → ℕ) (s : Store) → Ends E s
ends E s = record {
  last = λ t p v w e. rw (e, all_given t p v 1022 (fits t w) (omega arith), fits t w) refl;
  over = λ t p v w e. rw (e, all_given t p v 1023 (fits t w) (omega arith), fits t w) refl;
}
