-- The lines of a sheet put one after another, and what writing answers within the limits. Assumes nothing.
use Rattle.std.proofs.Common.{◌≡◌, ℕ, ◌+◌, ◌*◌, ◌≤◌, List, ◌++◌, length, Ok, ap, ◌∙◌, arith}
use Rattle.std.proofs.lemmas.List.{append_assoc, length-append}
use Rattle.std.proofs.lemmas.Bool.Decides.{nat_tests}
use Rattle.method.specs.Sheets.{limits_answer}
use Rattle.sheetlines.specs.Lines.{line_of, lines_size}
use Rattle.sheetlines.specs.Sheets.{first_bytes, frames_of, body_lines, lines_of}
use Rattle.sheetlines.proofs.Sizes.{length_line, length-first_bytes, length_first, length-cipher-lines, length-lines}
use Rattle.sheetwriter.specs.Puts.{put}
use Rattle.sheetwriter.specs.Writes.{sized, write_answer}
use Rattle.sheetwriter.proofs.Puts.{put-after}

-- the buffers after line 1, the header's line, the ciphertext's lines and the tag's line, and where each of the last three begins
pub put-lines : (d d1 d2 d3 d4 : List ℕ) (N p q r : ℕ) (first h c t : List ℕ)
    → length (lines_of N h c t) ≤ length d
    → first ≡ first_bytes N (length c) (length h) (length t)
    → d1 ≡ put d 0 (line_of first) → p ≡ 0 + 2 * length first + 1
    → d2 ≡ put d1 p (line_of h) → q ≡ p + 2 * length h + 1
    → d3 ≡ put d2 q (body_lines (frames_of (length c)) c) → r ≡ q + lines_size (frames_of (length c))
    → d4 ≡ put d3 r (line_of t)
    → d4 ≡ put d 0 (lines_of N h c t)
put-lines d d1 d2 d3 d4 N p q r first h c t fits ef is1 ep is2 eq is3 er is4 =
    let one = line_of (first_bytes N (length c) (length h) (length t)) in
    let body = body_lines (frames_of (length c)) c in
    let l = length-lines N h c t in
    let lf : length first ≡ 15 = ap length ef ∙ length-first_bytes N (length c) (length h) (length t) in
    let l1 = length_first N (length c) (length h) (length t) in
    let l2 = length_line h in
    let l3 = length-cipher-lines c in
    let l12 = length-append one (line_of h) in
    let l123 = length-append (one ++ line_of h) body in
    let x1 = is1 ∙ ap (λ (y : List ℕ). put d 0 (line_of y)) ef in
    let x2 = put-after d d1 d2 one (line_of h) p x1 (omega arith) (omega arith) is2 in
    let x3 = put-after d d2 d3 (one ++ line_of h) body q x2 (omega arith) (omega arith) is3 in
    let x4 = put-after d d3 d4 ((one ++ line_of h) ++ body) (line_of t) r x3 (omega arith) (omega arith) is4 in
    x4 ∙ ap (put d 0) (append_assoc (one ++ line_of h) body (line_of t) ∙ append_assoc one (line_of h) (body ++ line_of t))

-- within the limits the buffer's room decides
pub limited : (N : ℕ) (h c t : List ℕ) (room : ℕ) → Ok tt ≡ limits_answer N (length h) (length c) (length t)
    → write_answer N h c t room ≡ sized (length (lines_of N h c t)) room
limited N h c t room e = grind (arith, nat_tests)
