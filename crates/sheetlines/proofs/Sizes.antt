-- How long a line is, the lines of a ciphertext, and all lines of a sheet. Assumes nothing.
use Rattle.std.proofs.Common.{◌≡◌, ℕ, zero, suc, ◌+◌, ◌-◌, ◌*◌, ◌≤◌, min, Bool, true, false, cond, eqb, List, [], ◌∷◌, ◌++◌, length, take, drop, refl, ap, ◌∙◌, arith}
use Rattle.std.proofs.lemmas.List.{length-append, length-drop, length-take-le}
use Rattle.blocks.proofs.Numbers.{length-bytes_of}
use Rattle.digits.proofs.Hexes.{length-hex}
use Rattle.sheetlines.specs.Lines.{line_of, lines_size}
use Rattle.sheetlines.specs.Sheets.{later_frame, first_frame, frames, frames_of, body_lines, first_bytes, lines_of, widths, header_at}
use Rattle.sheetlines.specs.Laws.{sheet_fields}
use Rattle.sheetlines.proofs.Widths.{size_append}

pub length_line : (bs : List ℕ) → length (line_of bs) ≡ 2 * length bs + 1
length_line bs = simp length-append (omega (arith, length-hex bs))

pub length-first_bytes : (N m h t : ℕ) → length (first_bytes N m h t) ≡ 15
length-first_bytes N m h t =
    let a = length-bytes_of 8 N in
    let b = length-bytes_of 4 m in
    let c = length-bytes_of 2 h in
    let d = length-bytes_of 1 t in
    simp length-append (omega arith)

pub length_first : (N m h t : ℕ) → length (line_of (first_bytes N m h t)) ≡ header_at
length_first N m h t = let l = length-first_bytes N m h t in length_line (first_bytes N m h t) ∙ omega arith

-- lines of frames are as long as the frames' widths say
pub length-body : (k room left : ℕ) (bs : List ℕ) → left ≤ length bs
    → length (body_lines (frames k room left) bs) ≡ lines_size (frames k room left)
length-body zero room left bs h = refl
length-body (suc k) room left bs h =
    let i : left - room ≤ length (drop (min left room) bs) = simp length-drop (omega arith) in
    go (eqb left 0) (length-body k later_frame (left - room) (drop (min left room) bs) i)
  where
    go : (b : Bool)
        → length (body_lines (frames k later_frame (left - room)) (drop (min left room) bs))
        ≡ lines_size (frames k later_frame (left - room))
        → length (body_lines (cond b [] (min left room ∷ frames k later_frame (left - room))) bs)
        ≡ lines_size (cond b [] (min left room ∷ frames k later_frame (left - room)))
    go true r = refl
    go false r =
        let m : min left room ≤ length bs = omega arith in
        let t = length-take-le (min left room) bs m in
        let n = length_line (take (min left room) bs) in
        length-append (line_of (take (min left room) bs)) (body_lines (frames k later_frame (left - room)) (drop (min left room) bs))
        ∙ omega arith

pub length-cipher-lines : (c : List ℕ) → length (body_lines (frames_of (length c)) c) ≡ lines_size (frames_of (length c))
length-cipher-lines c = length-body (length c) first_frame (length c) c (omega arith)

-- line 1, the header's line, the ciphertext's lines and the tag's line
pub length-lines : (N : ℕ) (h c t : List ℕ)
    → length (lines_of N h c t) ≡ header_at + (2 * length h + 1) + lines_size (frames_of (length c)) + (2 * length t + 1)
length-lines N h c t =
    let first = line_of (first_bytes N (length c) (length h) (length t)) in
    let body = body_lines (frames_of (length c)) c in
    let l1 = length_first N (length c) (length h) (length t) in
    let l2 = length_line h in
    let l3 = length-cipher-lines c in
    let l4 = length_line t in
    length-append first (line_of h ++ (body ++ line_of t))
    ∙ ap (λ x. length first + x) (length-append (line_of h) (body ++ line_of t))
    ∙ ap (λ x. length first + (length (line_of h) + x)) (length-append body (line_of t))
    ∙ omega arith

-- the same by the widths that line 1 tells
pub length-lines-widths : (N : ℕ) (h c t : List ℕ) → length (lines_of N h c t) ≡ header_at + lines_size (widths (sheet_fields N h c t))
length-lines-widths N h c t = length-lines N h c t ∙ omega (arith, size_append (frames_of (length c)) (length t ∷ []))
