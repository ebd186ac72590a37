-- What a call means that comes to its cipher. Assumes nothing.
use Rattle.std.proofs.Common.{◌≡◌, ℕ, Bool, true, false, cond, List, eqb, length, Some, None, Ok, Err, Option, arith}
use Rattle.ciphers.specs.Keys.{wrong_length}
use Rattle.cipherlines.specs.Chosen.{key_bytes, standard_of}
use Rattle.cipherlines.specs.declared.chosen.Name.{Name}
use Rattle.refusals.specs.Answers.{Answer}
use Rattle.exports.specs.Calls.{call_answer}
use Rattle.exports.specs.Sheets.{under}

-- the function that the key makes is the one that is asked
pub under_made : {X : Type 0} (c : Option Name) (key : List ℕ) (x y : X) (f : (ℕ → ℕ) → X) (E : ℕ → ℕ) → Ok E ≡ call_answer c key → f E ≡ under c key x y f
under_made None key x y f E e = absurd (let z : ◌≡◌ {A = ℕ} 0 1 = cc in omega arith)
under_made (Some n) key x y f E e = go (eqb (length key) (key_bytes n)) e
  where
    go : (b : Bool) → ◌≡◌ {A = Answer (ℕ → ℕ)} (Ok E) (cond b (Ok (standard_of n key)) (Err wrong_length)) → f E ≡ cond b (f (standard_of n key)) y
    go true q = let same : E ≡ standard_of n key = cc in λ i. f (same i)
    go false q = absurd (let z : ◌≡◌ {A = ℕ} 0 1 = cc in omega arith)
