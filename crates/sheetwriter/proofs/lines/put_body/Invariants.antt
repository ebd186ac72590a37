use Rattle.std.proofs.Common.{◌≡◌, ◌+◌, length}
use Rattle.sheetlines.specs.Lines.{lines_size}
use Rattle.sheetlines.specs.Sheets.{frames_of, body_lines}
use Rattle.sheetlines.proofs.Widths.{total}
use Rattle.sheetwriter.specs.Puts.{put}
use Rattle.sheetwriter.proofs.lines.put_body.Given as goal

-- with the lines that are left, the buffer and the end are what they have to be
abbrev pub invariant-loop-width : goal.invariant-loop-width
invariant-loop-width l = record {
  finite : (goal.iterator-loop-width).is_finite l.width-iterator;
  wrote : put l.out l.at (body_lines l.width-iterator l.rest) ≡ put l.initial.out l.start (body_lines (frames_of (length l.ciphertext)) l.ciphertext);
  next : l.at + lines_size l.width-iterator ≡ l.start + lines_size (frames_of (length l.ciphertext));
  left : total l.width-iterator ≡ length l.rest;
}
