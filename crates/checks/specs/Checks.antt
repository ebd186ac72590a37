-- Checking a sheet, and reading a checked one. Assumes nothing.
-- check_answer E N h c t: what check answers to a nonce, a header, a ciphertext and a tag.
-- accepted r: whether a sheet was made, or why not; what a caller gets of a check but for the sheet.
-- read_answer c o n, read_out E N c o out: what a read of n bytes from offset o answers, and what it leaves in the buffer.
use Rattle.std.specs.Prelude.{ℕ, ◌+◌, cond, List, length, take, drop, Some, None, Ok, Err, Option, Result, nat_le}
use Rattle.keystream.specs.Counters.{ciphered}
use Rattle.method.specs.Limits.{limit_told, past_end, tag_differs}
use Rattle.method.specs.Published.{decryption}
use Rattle.method.specs.Sheets.{within}
use Rattle.refusals.specs.Answers.{Told, Answer}
use Rattle.checks.specs.declared.fault.CheckFault.{CheckFault}
use Rattle.checks.specs.declared.fault.CheckFault.TheVariants.{Limit, TagDiffers}
use Rattle.checks.specs.declared.fault.ReadFault.{ReadFault}
use Rattle.checks.specs.declared.fault.ReadFault.TheVariants.{PastEnd}

abbrev pub check_told : CheckFault → Told
check_told (Limit f) = limit_told f
check_told TagDiffers = tag_differs

abbrev pub read_told : ReadFault → Told
read_told PastEnd = past_end

-- a result with what was made forgotten
abbrev pub accepted : {X E : Type 0} → Result X E → Result (Unit {0}) E
accepted (Ok x) = Ok tt
accepted (Err e) = Err e

-- accepted where the published decryption does not reject
abbrev pub not_rejected : Option (List ℕ) → Answer (Unit {0})
not_rejected None = Err tag_differs
not_rejected (Some m) = Ok tt

-- the tests in their order: the limits of the tag, the nonce, the header and the message, and last the tag
abbrev pub check_answer : (ℕ → ℕ) → ℕ → List ℕ → List ℕ → List ℕ → Answer (Unit {0})
check_answer E N h c t = within N (length h) (length c) (length t) (not_rejected (decryption E N h c t))

abbrev pub read_answer : List ℕ → ℕ → ℕ → Answer (Unit {0})
read_answer c o n = cond (nat_le (o + n) (length c)) (Ok tt) (Err past_end)

abbrev pub if_accepted : {X : Type 0} → Answer (Unit {0}) → X → X → X
if_accepted (Ok u) x y = x
if_accepted (Err e) x y = y

-- the bytes from the offset on of the ciphertext xored with the keystream, or the buffer as it was
abbrev pub read_out : (ℕ → ℕ) → ℕ → List ℕ → ℕ → List ℕ → List ℕ
read_out E N c o out =
    if_accepted (read_answer c o (length out)) (take (length out) (drop o (ciphered E N 0 c))) out
