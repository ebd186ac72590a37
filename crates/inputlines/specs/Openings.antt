-- The first two lines of an input, a cipher's name and a key, and what stands behind them. Assumes nothing.
-- opened cs: what the two lines of the text cs tell, and the rest; where one is bad, its number.
use Rattle.std.specs.Prelude.{ℕ, List, Some, None, Ok, Err, Option, Result}
use Rattle.digits.specs.Digits.{digits_bytes}
use Rattle.digits.specs.Hex.{unhex}
use Rattle.cipherlines.specs.Chosen.{name_of}
use Rattle.cipherlines.specs.declared.chosen.Name.{Name}
use Rattle.inputlines.specs.Lines.{line_as}
use Rattle.inputlines.specs.declared.opening.Opening.{Opening}

-- the cipher, the bytes of the key, and the text behind both lines
pub record Opened : Type 0 where
  pub name : Name
  pub key : List ℕ
  pub rest : List ℕ

abbrev pub opened_as : Name → List ℕ → List ℕ → Opened
opened_as n k cs = record { name = n; key = k; rest = cs }

abbrev pub at_key : Name → Option (List ℕ × List ℕ) → Result Opened ℕ
at_key n None = Err 2
at_key n (Some p) = Ok (opened_as n p.0 p.1)

abbrev pub at_name : Option (Name × List ℕ) → Result Opened ℕ
at_name None = Err 1
at_name (Some p) = at_key p.0 (line_as digits_bytes p.1)

abbrev pub opened : List ℕ → Result Opened ℕ
opened cs = at_name (line_as name_of cs)

-- what an opening holds, its key still in digits
abbrev pub opening_told : Opening → Opened
opening_told o = opened_as o.name (unhex o.key.now) o.rest.now
