-- The layer of a sheet that a fault was found in, as refusals tell it. Assumes nothing.
use Rattle.std.specs.Prelude.{ℕ}

-- the digits and the ends of lines
abbrev pub line_layer : ℕ
line_layer = 1

-- the fields of line 1, and how many lines there are
abbrev pub sheet_layer : ℕ
sheet_layer = 2

-- the tag
abbrev pub seal_layer : ℕ
seal_layer = 3
