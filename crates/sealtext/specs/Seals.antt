-- What the five lines of an input are sealed to: the lines of a sheet, or a refusal. Assumes nothing.
-- fault_told: what each fault tells.
-- register_at a: a register at the mark a, with the largest power and the leftover byte ff.
-- first_nonce a: the first nonce that a sealer over that register issues.
-- sheet_lines E h m N: the lines of the sheet of header h and message m under the nonce N, with a tag of sixteen bytes.
-- lines_answer n standard i: what the input i is answered with under a cipher with keys of n bytes.
-- seal_input i: the same under the cipher that the input names.
use Rattle.std.specs.Prelude.{ℕ, ◌-◌, ◌^◌, min, true, cond, List, length, None, Ok, Err, ◌==◌, nat_le}
use Rattle.refusals.specs.Answers.{Told, Answer}
use Rattle.ciphers.specs.Keys.{key_told, wrong_length}
use Rattle.method.specs.Limits.{header_limit, header_too_long}
use Rattle.method.specs.Published.{crypt, tag}
use Rattle.stores.specs.Store.{Store, store}
use Rattle.chm.specs.Drafts.{head_told}
use Rattle.chm.specs.Sealers.{standing, begin_told, issue_answer}
use Rattle.cipherlines.specs.Chosen.{key_bytes, standard_of}
use Rattle.sheetlines.specs.Sheets.{lines_of}
use Rattle.sealtext.specs.Inputs.{Input}
use Rattle.sealtext.specs.declared.fault.InputFault.{InputFault}
use Rattle.sealtext.specs.declared.fault.InputFault.TheVariants.{Key, Begin, Head}

abbrev pub fault_told : InputFault → Told
fault_told (Key f) = key_told f
fault_told (Begin f) = begin_told f
fault_told (Head f) = head_told f

-- a mark from 2^53 on counts as 2^53
abbrev pub register_at : ℕ → Store
register_at a = store (min a (2 ^ 53)) (2 ^ 53) (2 ^ 32 - 1) 255 true

abbrev pub first_nonce : ℕ → Answer ℕ
first_nonce a = issue_answer (standing (register_at a) true None)

-- a tag has sixteen bytes
abbrev pub tag_bytes : ℕ
tag_bytes = 16

abbrev pub sheet_lines : (ℕ → ℕ) → List ℕ → List ℕ → ℕ → List ℕ
sheet_lines E h m N = lines_of N h (crypt E N m) (tag E tag_bytes N h (crypt E N m))

-- a header within its limit
abbrev pub header_answer : List ℕ → Answer (Unit {0})
header_answer h = cond (nat_le (length h) header_limit) (Ok tt) (Err header_too_long)

abbrev pub if_fits : Answer (Unit {0}) → List ℕ → Answer (List ℕ)
if_fits (Ok u) lines = Ok lines
if_fits (Err t) lines = Err t

-- the nonce is issued before the header is judged
abbrev pub under_nonce : (ℕ → ℕ) → List ℕ → List ℕ → Answer ℕ → Answer (List ℕ)
under_nonce E h m (Err t) = Err t
under_nonce E h m (Ok N) = if_fits (header_answer h) (sheet_lines E h m N)

-- the key is judged first
abbrev pub lines_answer : ℕ → (List ℕ → ℕ → ℕ) → Input → Answer (List ℕ)
lines_answer n standard i =
    cond (length i.key == n) (under_nonce (standard i.key) i.header i.message (first_nonce i.mark)) (Err wrong_length)

abbrev pub seal_input : Input → Answer (List ℕ)
seal_input i = lines_answer (key_bytes i.name) (standard_of i.name) i

-- how many bytes the lines are
abbrev pub counted : Answer (List ℕ) → Answer ℕ
counted (Ok lines) = Ok (length lines)
counted (Err t) = Err t
