-- What was taken and what the lines left tell is the whole ciphertext.
use Rattle.std.proofs.Common.{◌≡◌, ◌+◌, ◌≤◌, ◌++◌, length, take}
use Rattle.sheetlines.proofs.Widths.{total}
use Rattle.sheetlines.specs.Lines.{lines_size, bytes_in}
use Rattle.sheetlines.specs.Sheets.{frames_of}
use Rattle.sheetopener.proofs.body.take_body.Given as goal

abbrev pub invariant-loop-width : goal.invariant-loop-width
invariant-loop-width l = record {
  finite : (goal.iterator-loop-width).is_finite l.width-iterator;
  told : take l.done l.out ++ bytes_in l.width-iterator l.rest ≡ bytes_in (frames_of (length l.initial.out)) l.text;
  within : lines_size l.width-iterator ≤ length l.rest;
  left : l.done + total l.width-iterator ≡ length l.initial.out;
}
