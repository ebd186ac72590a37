-- What the faults of a sheet's lines tell. Assumes nothing.
-- line_told: the number, the line, the column and the layer.
-- fault_place: where a line's fault lies.
-- field_number: the place of a field in line 1, from 1.
-- sheet_told: the line's fault whole; or the number, the field where there is one, and the layer.
use Rattle.std.specs.Prelude.{ℕ, [], ◌∷◌}
use Rattle.refusals.specs.Answers.{Told}
use Rattle.refusals.specs.Layers.{line_layer, sheet_layer}
use Rattle.sheetlines.specs.declared.fault.Field.{Field}
use Rattle.sheetlines.specs.declared.fault.Field.TheVariants.{Nonce, MessageLength, HeaderLength, TagLength}
use Rattle.sheetlines.specs.declared.fault.LineFault.{LineFault}
use Rattle.sheetlines.specs.declared.fault.LineFault.TheVariants.{NoDigit, WrongEnd}
use Rattle.sheetlines.specs.declared.fault.Place.{Place}
use Rattle.sheetlines.specs.declared.fault.SheetFault.{SheetFault}
use Rattle.sheetlines.specs.declared.fault.SheetFault.TheVariants.{InLine, OutOfRange, MoreBytes}

-- refusal 11: a byte is no digit; refusal 12: a line ends early or late, or the text ends in it
abbrev pub line_told : LineFault → Told
line_told (NoDigit p) = (11, p.line ∷ p.column ∷ line_layer ∷ [])
line_told (WrongEnd p) = (12, p.line ∷ p.column ∷ line_layer ∷ [])

abbrev pub fault_place : LineFault → Place
fault_place (NoDigit p) = p
fault_place (WrongEnd p) = p

abbrev pub field_number : Field → ℕ
field_number Nonce = 1
field_number MessageLength = 2
field_number HeaderLength = 3
field_number TagLength = 4

-- refusal 13: a field of line 1 is outside its range; refusal 14: bytes follow the last line
abbrev pub sheet_told : SheetFault → Told
sheet_told (InLine f) = line_told f
sheet_told (OutOfRange f) = (13, field_number f ∷ sheet_layer ∷ [])
sheet_told MoreBytes = (14, sheet_layer ∷ [])
