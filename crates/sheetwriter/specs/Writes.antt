-- Writing the lines of a sheet into a buffer. Assumes nothing.
-- write_answer N h c t room: what writing the sheet with nonce N, header h, ciphertext c and tag t answers for a buffer of `room` bytes.
-- written answer lines buffer: what the buffer holds after that answer.
use Rattle.std.specs.Prelude.{ℕ, cond, List, [], ◌∷◌, ◌++◌, length, drop, Ok, Err, nat_le}
use Rattle.method.specs.Limits.{limit_told}
use Rattle.method.specs.Sheets.{within}
use Rattle.refusals.specs.Answers.{Told, Answer}
use Rattle.sheetlines.specs.Sheets.{lines_of}
use Rattle.sheetwriter.specs.declared.fault.WriteFault.{WriteFault}
use Rattle.sheetwriter.specs.declared.fault.WriteFault.TheVariants.{Limit, BufferTooSmall}

-- refusal 8: a buffer is too small; where lines are written, it tells 0
abbrev pub write_too_small : Told
write_too_small = (8, 0 ∷ [])

abbrev pub write_told : WriteFault → Told
write_told (Limit f) = limit_told f
write_told BufferTooSmall = write_too_small

-- so many bytes, where the buffer has room for them
abbrev pub sized : ℕ → ℕ → Answer ℕ
sized size room = cond (nat_le size room) (Ok size) (Err write_too_small)

-- the tests in their order: the limits of the tag, the nonce, the header and the ciphertext, and last the buffer's
abbrev pub write_answer : ℕ → List ℕ → List ℕ → List ℕ → ℕ → Answer ℕ
write_answer N h c t room = within N (length h) (length c) (length t) (sized (length (lines_of N h c t)) room)

-- the lines, and then what it held; or all that it held
abbrev pub written : Answer ℕ → List ℕ → List ℕ → List ℕ
written (Ok n) lines buffer = lines ++ drop n buffer
written (Err e) lines buffer = buffer
