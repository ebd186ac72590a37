-- The five lines of an input: a cipher's name, a key, the mark that a register starts at, a header and a message. Assumes nothing.
-- Input: what the five lines tell.
-- parsed cs: what the text cs tells, or the number of its first line that is not of its form. Bytes behind the fifth line count as a
-- sixth.
use Rattle.std.specs.Prelude.{ℕ, cond, List, [], ◌∷◌, length, Some, None, Ok, Err, Option, Result, nat_le}
use Rattle.digits.specs.Digits.{digits_bytes, number_of}
use Rattle.digits.specs.Hex.{unhex}
use Rattle.cipherlines.specs.declared.chosen.Name.{Name}
use Rattle.inputlines.specs.Lines.{line_as}
use Rattle.inputlines.specs.Openings.{Opened, opened}
use Rattle.sealtext.specs.declared.lines.Lines.{Lines}

pub record Input : Type 0 where
  pub name : Name
  pub key : List ℕ
  pub mark : ℕ
  pub header : List ℕ
  pub message : List ℕ

abbrev pub input_of : Name → List ℕ → ℕ → List ℕ → List ℕ → Input
input_of n k a h m = record { name = n; key = k; mark = a; header = h; message = m }

-- a mark has fourteen digits
abbrev pub mark_digits : ℕ
mark_digits = 14

-- a message has at most 16,384 bytes
abbrev pub longest_message : ℕ
longest_message = 16384

-- the message, where nothing stands behind its line
abbrev pub at_end : List ℕ → List ℕ → Result (List ℕ) ℕ
at_end m [] = Ok m
at_end m (c ∷ cs) = Err 6

abbrev pub at_message : Option (List ℕ × List ℕ) → Result (List ℕ) ℕ
at_message None = Err 5
at_message (Some p) = cond (nat_le (length p.0) longest_message) (at_end p.0 p.1) (Err 5)

-- the message that a text is, as the last line of an input
abbrev pub last_line : List ℕ → Result (List ℕ) ℕ
last_line cs = at_message (line_as digits_bytes cs)

abbrev pub with_message : Opened → ℕ → List ℕ → Result (List ℕ) ℕ → Result Input ℕ
with_message o a h (Err n) = Err n
with_message o a h (Ok m) = Ok (input_of o.name o.key a h m)

abbrev pub at_header : Opened → ℕ → Option (List ℕ × List ℕ) → Result Input ℕ
at_header o a None = Err 4
at_header o a (Some p) = with_message o a p.0 (last_line p.1)

abbrev pub at_mark : Opened → Option (ℕ × List ℕ) → Result Input ℕ
at_mark o None = Err 3
at_mark o (Some p) = at_header o p.0 (line_as digits_bytes p.1)

-- the first two lines were read
abbrev pub at_opening : Result Opened ℕ → Result Input ℕ
at_opening (Err n) = Err n
at_opening (Ok o) = at_mark o (line_as (number_of mark_digits) o.rest)

abbrev pub parsed : List ℕ → Result Input ℕ
parsed cs = at_opening (opened cs)

-- what lines hold, with key, header and message still in digits
abbrev pub lines_told : Lines → Input
lines_told l = input_of l.name (unhex l.key.now) l.mark (unhex l.header.now) (unhex l.message.now)
