-- The numbers of an input's lines. Assumes nothing.
-- line_number l: the number of the line l, from 1 on.
use Rattle.std.specs.Prelude.{ℕ}
use Rattle.inputlines.specs.declared.fault.BadLine.{BadLine}
use Rattle.inputlines.specs.declared.fault.BadLine.TheVariants as line

abbrev pub line_number : BadLine → ℕ
line_number line.Name = 1
line_number line.Key = 2
line_number line.Mark = 3
line_number line.Header = 4
line_number line.Message = 5
line_number line.Behind = 6
