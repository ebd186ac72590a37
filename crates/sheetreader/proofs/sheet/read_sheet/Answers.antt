-- Past every fault, what is left of the text decides.
use Rattle.std.proofs.Common.{drop, sym, ap, ◌∙◌, arith}
use Rattle.std.proofs.lemmas.Bool.Decides.{nat_tests}
use Rattle.sheetlines.specs.Lines.{lines_size, lines_fault}
use Rattle.sheetlines.specs.Sheets.{widths}
use Rattle.sheetreader.proofs.Whole.{more_bytes, no_more}
use Rattle.sheetreader.proofs.sheet.read_sheet.Goals as goal

pub returns-then-not-is_empty : goal.returns-then-not-is_empty
returns-then-not-is_empty c =
    let ws = widths c.read_fields-fields.result in
    let first = c.in_ok-read.ensures in
    let h = c.in_ok-read_rest.ensures in
    let some = c.if-not-is_empty.ensures in
    record {
      answer = more_bytes c.args.text.now c.read_fields-fields.result first.fault c.read_fields-fields.ensures (sym c.in_default.ensures)
          (ap (lines_fault 2 ws) (sym first.rest) ∙ h.fault) c.read_rest.new.lines.rest.now
          (h.rest ∙ ap (drop (lines_size ws)) first.rest) (grind (arith, nat_tests));
    }

pub returns : goal.returns
returns c =
    let ws = widths c.read_fields-fields.result in
    let first = c.in_ok-read.ensures in
    let h = c.in_ok-read_rest.ensures in
    let none = c.if-not-is_empty.ensures in
    record {
      answer = no_more c.args.text.now c.read_fields-fields.result first.fault c.read_fields-fields.ensures (sym c.in_default.ensures)
          (ap (lines_fault 2 ws) (sym first.rest) ∙ h.fault) c.read_rest.new.lines.rest.now
          (h.rest ∙ ap (drop (lines_size ws)) first.rest) (grind (arith, nat_tests));
    }
