-- What a last line is told as, by the length of its message and by what stands behind it. Assumes nothing.
use Rattle.std.proofs.Common.{◌≡◌, ℕ, ◌<◌, ◌≤◌, cond, List, [], ◌∷◌, length, Some, Ok, Err, refl, ap, arith, le-leb}
use borrow.Author.Tests.{lt-leb}
use Rattle.sealtext.specs.Inputs.{longest_message, at_end, at_message}

pub message_long : (m rest : List ℕ) → longest_message < length m → at_message (Some (m, rest)) ≡ Err 5
message_long m rest l = ap (λ b. cond b (at_end m rest) (Err 5)) (lt-leb (length m) longest_message l)

short : (m rest : List ℕ) → length m ≤ longest_message → at_message (Some (m, rest)) ≡ at_end m rest
short m rest l = ap (λ b. cond b (at_end m rest) (Err 5)) (le-leb (length m) longest_message l)

pub more_behind : (m rest : List ℕ) → length m ≤ longest_message → (length rest ≡ 0 → ⊥) → at_message (Some (m, rest)) ≡ Err 6
more_behind m [] l n = absurd (n refl)
more_behind m (c ∷ cs) l n = short m (c ∷ cs) l

pub none_behind : (m rest : List ℕ) → length m ≤ longest_message → length rest ≡ 0 → at_message (Some (m, rest)) ≡ Ok m
none_behind m [] l n = short m [] l
none_behind m (c ∷ cs) l n = let z : ⊥ = omega arith in absurd z
