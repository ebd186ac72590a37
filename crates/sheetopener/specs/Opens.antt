-- Opening a sheet's lines. Assumes nothing.
-- open_told: what each fault tells; a fault of a lower layer is carried up whole.
-- open_answer E text hs ms: what opening a text answers, under a cipher that means E, with buffers of hs and ms bytes for header and
-- message: the fields of line 1, or a refusal.
-- filled answer told buffer: what a buffer holds after that answer, where `told` is what the lines tell for it.
use Rattle.std.specs.Prelude.{ℕ, cond, List, [], ◌∷◌, ◌++◌, length, drop, Ok, Err, Result, nat_lt}
use Rattle.checks.specs.Checks.{check_told, check_answer}
use Rattle.refusals.specs.Answers.{Told, Answer}
use Rattle.sheetlines.specs.Faults.{sheet_told}
use Rattle.sheetlines.specs.Sheets.{sheet_answer, header_of, cipher_of, tag_of}
use Rattle.sheetlines.specs.declared.fault.SheetFault.{SheetFault}
use Rattle.sheetlines.specs.declared.fields.Fields.{Fields}
use Rattle.sheetopener.specs.declared.fault.Buffer.TheVariants.{Header, Message}
use Rattle.sheetopener.specs.declared.fault.OpenFault.{OpenFault}
use Rattle.sheetopener.specs.declared.fault.OpenFault.TheVariants.{InSheet, BufferTooSmall, InSeal}

-- refusal 8: a buffer is too small; it tells 1 for the header's and 2 for the message's
abbrev pub header_buffer_small : Told
header_buffer_small = (8, 1 ∷ [])

abbrev pub message_buffer_small : Told
message_buffer_small = (8, 2 ∷ [])

abbrev pub open_told : OpenFault → Told
open_told (InSheet f) = sheet_told f
open_told (BufferTooSmall Header) = header_buffer_small
open_told (BufferTooSmall Message) = message_buffer_small
open_told (InSeal f) = check_told f

-- check has the last word
abbrev pub if_checked : Fields → Answer (Unit {0}) → Answer Fields
if_checked f (Ok u) = Ok f
if_checked f (Err e) = Err e

-- of lines that were read: the buffers, the header's first, and then check
abbrev pub open_read : (ℕ → ℕ) → List ℕ → ℕ → ℕ → Result Fields SheetFault → Answer Fields
open_read E text hs ms (Err e) = Err (sheet_told e)
open_read E text hs ms (Ok f) =
    cond (nat_lt hs f.header_len)
    (Err header_buffer_small)
    (cond (nat_lt ms f.message_len)
    (Err message_buffer_small)
    (if_checked f (check_answer E f.nonce (header_of f text) (cipher_of f text) (tag_of f text))))

abbrev pub open_answer : (ℕ → ℕ) → List ℕ → ℕ → ℕ → Answer Fields
open_answer E text hs ms = open_read E text hs ms (sheet_answer text)

-- a buffer with xs at its front
abbrev pub at_front : List ℕ → List ℕ → List ℕ
at_front xs buffer = xs ++ drop (length xs) buffer

abbrev pub filled : Answer Fields → (Fields → List ℕ) → List ℕ → List ℕ
filled (Ok f) told buffer = at_front (told f) buffer
filled (Err e) told buffer = buffer
