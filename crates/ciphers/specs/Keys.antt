-- Making a cipher of a key: what a fault tells, and which answer a key gets. Assumes nothing.
use Rattle.std.specs.Prelude.{ℕ, cond, List, [], length, Ok, Err, Result, ◌==◌}
use Rattle.refusals.specs.Answers.{Told, Answer}
use Rattle.ciphers.specs.declared.fault.KeyFault.{KeyFault}
use Rattle.ciphers.specs.declared.fault.KeyFault.TheVariants.{WrongLength}

-- refusal 7: a key has not its cipher's length
abbrev pub wrong_length : Told
wrong_length = (7, [])

abbrev pub key_told : KeyFault → Told
key_told WrongLength = wrong_length

-- a cipher with keys of n bytes is made of a key of n bytes, and of no other
abbrev pub key_answer : ℕ → List ℕ → Answer (Unit {0})
key_answer n key = cond (length key == n) (Ok tt) (Err wrong_length)

-- a made cipher, by the function that it means
abbrev pub meant : {C E : Type 0} → (C → ℕ → ℕ) → Result C E → Result (ℕ → ℕ) E
meant image (Ok c) = Ok (image c)
meant image (Err e) = Err e

-- the function that `standard` gives for the key
abbrev pub made_answer : ℕ → (List ℕ → ℕ → ℕ) → List ℕ → Answer (ℕ → ℕ)
made_answer n standard key = cond (length key == n) (Ok (standard key)) (Err wrong_length)

-- the image of a block under the cipher that `standard` gives for the key
abbrev pub image_answer : ℕ → (List ℕ → ℕ → ℕ) → List ℕ → ℕ → Answer ℕ
image_answer n standard key b = cond (length key == n) (Ok (standard key b)) (Err wrong_length)
