-- A header and a message sealed in one call. Assumes nothing.
-- seal_told: what each fault tells.
-- sizes_answer t h m room: what is said of a tag length, the lengths of header and message, and that of the output.
-- seal_answer, sealed_standing, seal_out: what the call answers, and the sealer and the output after it.
use Rattle.std.specs.Prelude.{ℕ, if◌then◌else◌, List, length, Ok, Err, ◌==◌, nat_le}
use Rattle.keystream.specs.Counters.{ciphered}
use Rattle.method.specs.Limits.{header_limit, message_limit, tag_fits, header_too_long, message_too_long, lengths_differ, bad_tag_length}
use Rattle.refusals.specs.Answers.{Told, Answer}
use Rattle.chm.specs.Drafts.{words_of, sealed, if_accepted, head_told, body_told}
use Rattle.chm.specs.Sealers.{Standing, begin_told, sealer_down, issue_answer, begun}
use Rattle.chm.specs.declared.draft.Sealed.{Sealed}
use Rattle.chm.specs.declared.fault.SealFault.{SealFault}
use Rattle.chm.specs.declared.fault.SealFault.TheVariants.{Begin, Head, Body}

abbrev pub seal_told : SealFault → Told
seal_told (Begin f) = begin_told f
seal_told (Head f) = head_told f
seal_told (Body f) = body_told f

-- the caller's faults are tested before a nonce is used: the tag's length, the header, the output, the message
abbrev pub sizes_answer : ℕ → ℕ → ℕ → ℕ → Answer (Unit {0})
sizes_answer t h m room =
    if tag_fits t
    then (if nat_le h header_limit
    then (if room == m
    then (if nat_le m message_limit then Ok tt else Err message_too_long)
    else Err lengths_differ)
    else Err header_too_long)
    else Err bad_tag_length

abbrev pub if_sized : {X : Type 0} → Answer (Unit {0}) → Answer X → Answer X
if_sized (Ok u) x = x
if_sized (Err e) x = Err e

-- what finish gives of the draft of this nonce, header and message
abbrev pub sealed_under : (ℕ → ℕ) → ℕ → List ℕ → List ℕ → Answer ℕ → Answer Sealed
sealed_under E t h m (Ok N) = Ok (sealed (words_of E N t h m))
sealed_under E t h m (Err e) = Err e

abbrev pub seal_answer : (ℕ → ℕ) → Standing → ℕ → List ℕ → List ℕ → ℕ → Answer Sealed
seal_answer E s t h m room =
    if_sized (sizes_answer t (length h) (length m) room) (if s.live then sealed_under E t h m (issue_answer s) else Err sealer_down)

abbrev pub sealed_standing : Standing → ℕ → List ℕ → List ℕ → ℕ → Standing
sealed_standing s t h m room = if_accepted (sizes_answer t (length h) (length m) room) (begun s t) s

-- the message's ciphertext under the nonce that was issued, or the output as it was
abbrev pub ciphered_under : (ℕ → ℕ) → List ℕ → List ℕ → Answer Sealed → List ℕ
ciphered_under E m out (Ok x) = ciphered E x.nonce 0 m
ciphered_under E m out (Err e) = out

abbrev pub seal_out : (ℕ → ℕ) → Standing → ℕ → List ℕ → List ℕ → List ℕ → List ℕ
seal_out E s t h m out = ciphered_under E m out (seal_answer E s t h m (length out))
