-- The lines so far are left behind: the lines to come have the fault and the end that all of them have.
use Rattle.std.proofs.Common.{◌≡◌, ◌+◌, ◌≤◌, [], ◌∷◌, ◌++◌, length, drop}
use Rattle.sheetlines.specs.Lines.{lines_fault, lines_size}
use Rattle.sheetlines.specs.Sheets.{widths}
use Rattle.sheetlines.proofs.Widths.{Narrow}
use Rattle.sheetreader.proofs.sheet.read_rest.Given as goal

abbrev pub invariant-loop-width : goal.invariant-loop-width
invariant-loop-width l = record {
  finite : (goal.iterator-loop-width).is_finite l.width-iterator;
  fault : lines_fault l.lines.line (l.width-iterator ++ l.fields.tag_len ∷ []) l.lines.rest.now
      ≡ lines_fault 2 (widths l.fields) l.fn.lines.rest.now;
  rest : drop (lines_size (l.width-iterator ++ l.fields.tag_len ∷ [])) l.lines.rest.now
      ≡ drop (lines_size (widths l.fields)) l.fn.lines.rest.now;
  number : l.lines.line + length l.width-iterator ≤ 1048579;
  narrow : Narrow l.width-iterator;
}
