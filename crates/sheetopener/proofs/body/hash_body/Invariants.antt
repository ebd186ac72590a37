-- What was absorbed and what the lines left tell is the whole ciphertext.
use Rattle.std.proofs.Common.{◌≡◌, ◌≤◌, length}
use Rattle.polyhash.specs.Running.{started, absorbed}
use Rattle.sheetlines.proofs.Widths.{Narrow}
use Rattle.sheetlines.specs.Lines.{lines_size, bytes_in}
use Rattle.sheetlines.specs.Sheets.{frames_of}
use Rattle.sheetopener.proofs.body.hash_body.Given as goal

abbrev pub invariant-loop-width : goal.invariant-loop-width
invariant-loop-width l = record {
  finite : (goal.iterator-loop-width).is_finite l.width-iterator;
  hashed : absorbed l.running (bytes_in l.width-iterator l.rest)
      ≡ absorbed (started l.key) (bytes_in (frames_of l.message_len) l.text);
  within : lines_size l.width-iterator ≤ length l.rest;
  narrow : Narrow l.width-iterator;
  line : length l.line ≡ 4096;
}
