-- What a raise does to the mark: it stays within the capacity, never falls, and rises by one where the raise completes.
use Rattle.std.proofs.Common.{◌≡◌, ℕ, ◌+◌, ◌≤◌, Ok, arith}
use Rattle.std.proofs.lemmas.Bool.Decides.{nat_tests}
use Rattle.stores.specs.Store.{Store, raise_answer, raised, restarted, Lawful}

raised-capacity : (s : Store) → (raised s).capacity ≡ s.capacity
raised-capacity s = grind (arith, nat_tests)

raised-within : (s : Store) → s.mark ≤ s.capacity → (raised s).mark ≤ (raised s).capacity
raised-within s h = grind (arith, nat_tests)

-- a raise leaves a lawful store
pub raised-lawful : (s : Store) → Lawful s → Lawful (raised s)
raised-lawful s l = record { within = raised-within s l.within; small = omega (arith, raised-capacity s, l.small) }

-- so does a restart, which leaves the mark
pub restarted-lawful : (s : Store) (p v : ℕ) → Lawful s → Lawful (restarted s p v)
restarted-lawful s p v l = record { within = l.within; small = l.small }

-- whatever a raise answers, the mark does not fall
pub raised_grows : (s : Store) → s.mark ≤ (raised s).mark
raised_grows s = grind (arith, nat_tests)

-- the mark m was taken from s, which is then t
pub record Taken (s t : Store) (m : ℕ) : Type 0 where
  pub is_mark : m ≡ s.mark
  pub next : t.mark ≡ s.mark + 1

-- a raise that completes gives the mark, and the mark is then one more
pub raised-taken : (s : Store) (m : ℕ) → raise_answer s ≡ Ok m → Taken s (raised s) m
raised-taken s m e = record { is_mark = grind (arith, nat_tests); next = grind (arith, nat_tests) }
