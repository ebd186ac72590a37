-- Sealing, checking and the keystream under a cipher that is named by a number. Assumes nothing.
-- number_of r: 0 where a call was accepted, and else the refusal's number.
-- keyed n standard key x f, under c key none bad f: f of the function that the key makes of a cipher, by its standard or its name; else x, `bad` where the
-- key has another length and `none` where there is no cipher.
-- checked N h c t E, xored N o bytes E: what is answered to a sheet; what bytes are after they were xored with the keystream.
-- sealing a t h m room E: what a sealer answers that was just set up over a register at the mark a.
-- seal_text a t h m out E, tag_or old r: what the two buffers hold after a seal.
use Rattle.std.specs.Prelude.{ℕ, true, cond, List, length, Some, None, Ok, Err, Option, ◌==◌}
use Rattle.checks.specs.Checks.{check_answer}
use Rattle.chm.specs.Sealers.{standing}
use Rattle.chm.specs.Seals.{seal_answer}
use Rattle.chm.specs.Seals as seals
use Rattle.chm.specs.declared.draft.Sealed.{Sealed}
use Rattle.cipherlines.specs.Chosen.{key_bytes, standard_of}
use Rattle.cipherlines.specs.declared.chosen.Name.{Name}
use Rattle.keystream.specs.Counters.{ciphered}
use Rattle.refusals.specs.Answers.{Answer}
use Rattle.sealtext.specs.Seals.{register_at}

abbrev pub number_of : {X : Type 0} → Answer X → ℕ
number_of (Ok x) = 0
number_of (Err t) = t.0

-- what the key makes of a cipher with keys of n bytes, or x where it has another length
abbrev pub keyed : {X : Type 0} → ℕ → (List ℕ → ℕ → ℕ) → List ℕ → X → ((ℕ → ℕ) → X) → X
keyed n standard key x f = cond (length key == n) (f (standard key)) x

abbrev pub under : {X : Type 0} → Option Name → List ℕ → X → X → ((ℕ → ℕ) → X) → X
under None key none bad f = none
under (Some c) key none bad f = keyed (key_bytes c) (standard_of c) key bad f

abbrev pub checked : ℕ → List ℕ → List ℕ → List ℕ → (ℕ → ℕ) → ℕ
checked N h c t E = number_of (check_answer E N h c t)

abbrev pub xored : ℕ → ℕ → List ℕ → (ℕ → ℕ) → List ℕ
xored N o bytes E = ciphered E N o bytes

-- over a register at a mark, by a sealer that was just set up
abbrev pub sealing : ℕ → ℕ → List ℕ → List ℕ → ℕ → (ℕ → ℕ) → Answer Sealed
sealing a t h m room E = seal_answer E (standing (register_at a) true None) t h m room

abbrev pub seal_text : ℕ → ℕ → List ℕ → List ℕ → List ℕ → (ℕ → ℕ) → List ℕ
seal_text a t h m out E = seals.seal_out E (standing (register_at a) true None) t h m out

abbrev pub tag_or : List ℕ → Answer Sealed → List ℕ
tag_or old (Ok s) = s.tag
tag_or old (Err e) = old
