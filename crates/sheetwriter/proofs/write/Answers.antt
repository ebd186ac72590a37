-- Where the lines do not fit, nothing was put; where they do, the four puts are the lines of the sheet.
use Rattle.std.proofs.Common.{◌≡◌, ℕ, [], ◌∷◌, ◌++◌, length, leb, drop, Ok, sym, ap, ◌∙◌, zero-add, arith}
use Rattle.std.proofs.lemmas.Bool.{cond-true, cond-false, le-leb, lt-leb}
use Rattle.refusals.specs.Answers.{Answer}
use Rattle.sheetlines.specs.Sheets.{frames_of, lines_of}
use Rattle.sheetlines.proofs.Sizes.{length-first_bytes, length-lines}
use Rattle.sheetlines.proofs.Widths.{size_append}
use Rattle.sheetwriter.specs.Writes.{written}
use Rattle.sheetwriter.proofs.Writes.{put-lines, limited}
use Rattle.sheetwriter.proofs.write.Goals as goal

pub returns-then-sheet_size-out : goal.returns-then-sheet_size-out
returns-then-sheet_size-out c =
    let s = c.args.sheet.now in
    let N = s.nonce in
    let h = s.header.now in
    let cs = s.ciphertext.now in
    let t = s.tag.now in
    let d = c.args.out.now in
    let lines = lines_of N h cs t in
    let size = length-lines N h cs t in
    let widths = size_append (frames_of (length cs)) (length t ∷ []) in
    let small = limited N h cs t (length d) c.in_ok-within_limits.ensures
    ∙ cond-false (leb (length lines) (length d)) _ _ (lt-leb (length lines) (length d) (omega arith)) in
    record { answer = sym small; wrote = ap (λ (a : Answer ℕ). written a lines d) (sym small) }

pub put_body-tag_at-requires : goal.put_body-tag_at-requires
put_body-tag_at-requires c =
    let f = c.first_bytes in
    let widths = size_append (frames_of (length c.args.sheet.now.ciphertext.now)) (length c.args.sheet.now.tag.now ∷ []) in
    omega arith

pub put_line-end-requires : goal.put_line-end-requires
put_line-end-requires c =
    let widths = size_append (frames_of (length c.args.sheet.now.ciphertext.now)) (length c.args.sheet.now.tag.now ∷ []) in
    omega arith

pub returns : goal.returns
returns c =
    let s = c.args.sheet.now in
    let N = s.nonce in
    let h = s.header.now in
    let cs = s.ciphertext.now in
    let t = s.tag.now in
    let d = c.args.out.now in
    let lines = lines_of N h cs t in
    let size = length-lines N h cs t in
    let widths = size_append (frames_of (length cs)) (length t ∷ []) in
    let fits = limited N h cs t (length d) c.in_ok-within_limits.ensures
    ∙ cond-true (leb (length lines) (length d)) _ _ (le-leb (length lines) (length d) (omega arith)) in
    let first = c.first_bytes.result in
    let first-is = c.first_bytes.ensures in
    let first-size : length first ≡ 15 = ap length first-is ∙ length-first_bytes N (length cs) (length h) (length t) in
    let header_at = c.put_line-header_at.ensures.next in
    let body_at = c.put_line-body_at.ensures.next in
    let tag_at = c.put_body-tag_at.ensures.next in
    let end = c.put_line-end.ensures.next in
    let count : c.put_line-end.result ≡ length lines = omega arith in
    let whole = put-lines d c.put_line-header_at.new.out c.put_line-body_at.new.out c.put_body-tag_at.new.out c.put_line-end.new.out N
    c.put_line-header_at.result c.put_line-body_at.result c.put_body-tag_at.result
    first h cs t (omega arith) first-is c.put_line-header_at.ensures.wrote header_at c.put_line-body_at.ensures.wrote body_at
    c.put_body-tag_at.ensures.wrote tag_at c.put_line-end.ensures.wrote in
    record {
      answer = ap (λ n. Ok n) count ∙ sym fits;
      wrote = whole ∙ ap (λ k. lines ++ drop k d) (zero-add (length lines)) ∙ ap (λ (a : Answer ℕ). written a lines d) (sym fits);
    }
