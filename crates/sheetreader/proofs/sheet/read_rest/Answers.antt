-- After the header's line the ciphertext's lines are to come, and the tag's.
use Rattle.std.proofs.Common.{◌≡◌, ℕ, ◌*◌, List, [], ◌∷◌, ◌++◌, length, drop, sym, ap, ◌∙◌, subst, arith}
use Rattle.sheetlines.specs.Lines.{lines_size, fault_in, lines_fault}
use Rattle.sheetlines.specs.Sheets.{frames_of}
use Rattle.sheetlines.proofs.Widths.{Narrow, narrow_frames_of, size_frames_of}
use Rattle.sheetreader.proofs.Rows.{row_passed}
use Rattle.sheetlines.proofs.Ranges.{in_range}
use Rattle.sheetreader.proofs.sheet.read_rest.Goals as goal

pub loop-width-init : goal.loop-width-init
loop-width-init c =
    let f = c.args.fields in
    let t = c.args.lines.now.rest.now in
    let h = c.in_ok-read.ensures in
    let is : c.into_iter-width-iterator.result ≡ frames_of f.message_len = c.into_iter-width-iterator.ensures.into_iter_gives ∙ c.of-width-items.ensures in
    let ws = frames_of f.message_len ++ f.tag_len ∷ [] in
    let after = c.read.new.self in
    let none = ap (λ l. fault_in l 1 (2 * f.header_len) t) (sym c.requires.second) ∙ h.fault in
    let s = row_passed 2 after.line f.header_len ws t after.rest.now none (omega (arith, h.line, c.requires.second)) h.rest in
    let r = in_range f c.requires.in_range in
    record {
      finite = tt;
      fault = ap (λ (vs : List ℕ). lines_fault after.line (vs ++ f.tag_len ∷ []) after.rest.now) is ∙ s.0;
      rest = ap (λ (vs : List ℕ). drop (lines_size (vs ++ f.tag_len ∷ [])) after.rest.now) is ∙ s.1;
      number = omega (arith, (size_frames_of f.message_len).1, ap length is);
      narrow = subst Narrow (sym is) (narrow_frames_of f.message_len);
    }
