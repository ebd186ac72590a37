-- What a call answers: its value, or a refusal. Assumes nothing.
-- Told: what a refusal tells.
-- Answer A: the value of an accepted call, or what the refusal tells.
-- answered told r: the answer that a result is, where `told` says what each fault tells.
use Rattle.std.specs.Prelude.{ℕ, List, Ok, Err, Result}

-- the refusal's number, and the values that come with it
abbrev pub Told : Type 0
Told = ℕ × List ℕ

abbrev pub Answer : Type 0 → Type 0
Answer A = Result A Told

abbrev pub answered : {A E : Type 0} → (E → Told) → Result A E → Answer A
answered told (Ok a) = Ok a
answered told (Err e) = Err (told e)
