-- Lines of digits: how bytes are written as a line, and what is wrong first with a text that should be lines. Assumes nothing.
-- line_of bs: the digits of the bytes bs, and a line feed.
-- lines_size ws: how many bytes lines have that tell ws bytes each.
-- fault_in l k n text: the first fault of line l, of which n digits are to come from column k on, where `text` is what is left.
-- lines_fault l ws text: the first fault of the lines from number l on that should tell ws bytes each.
-- bytes_in ws text: the bytes that these lines tell, joined.
use Rattle.std.specs.Prelude.{ℕ, zero, suc, ◌+◌, ◌*◌, cond, List, [], ◌∷◌, ◌++◌, take, drop, Some, None, Option, ◌==◌}
use Rattle.digits.specs.Hex.{is_digit, hex, unhex}
use Rattle.sheetlines.specs.declared.fault.LineFault.{LineFault}
use Rattle.sheetlines.specs.declared.fault.LineFault.TheVariants.{NoDigit, WrongEnd}
use Rattle.sheetlines.specs.declared.fault.Place.{Place}

-- a line feed
abbrev pub feed : ℕ
feed = 10

abbrev pub line_of : List ℕ → List ℕ
line_of bs = hex bs ++ feed ∷ []

abbrev pub lines_size : List ℕ → ℕ
lines_size [] = 0
lines_size (w ∷ ws) = 2 * w + 1 + lines_size ws

abbrev pub place : ℕ → ℕ → Place
place l k = record { line = l; column = k }

-- the text ends; after the last digit a line feed has to stand; before it, a digit: a line feed is then an early end, and any other
-- byte is no digit
abbrev pub fault_in : ℕ → ℕ → ℕ → List ℕ → Option LineFault
fault_in l k zero [] = Some (WrongEnd (place l k))
fault_in l k zero (c ∷ text) = cond (c == feed) None (Some (WrongEnd (place l k)))
fault_in l k (suc n) [] = Some (WrongEnd (place l k))
fault_in l k (suc n) (c ∷ text) =
    cond (is_digit c) (fault_in l (k + 1) n text) (Some (cond (c == feed) (WrongEnd (place l k)) (NoDigit (place l k))))

abbrev pub or_else : Option LineFault → Option LineFault → Option LineFault
or_else None o = o
or_else (Some f) o = Some f

abbrev pub lines_fault : ℕ → List ℕ → List ℕ → Option LineFault
lines_fault l [] text = None
lines_fault l (w ∷ ws) text = or_else (fault_in l 1 (2 * w) text) (lines_fault (l + 1) ws (drop (2 * w + 1) text))

abbrev pub bytes_in : List ℕ → List ℕ → List ℕ
bytes_in [] text = []
bytes_in (w ∷ ws) text = unhex (take (2 * w) text) ++ bytes_in ws (drop (2 * w + 1) text)
