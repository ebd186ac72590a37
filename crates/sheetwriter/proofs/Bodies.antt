-- Lines put into a buffer: one line more of a ciphertext. Assumes nothing.
use Rattle.std.proofs.Common.{◌≡◌, ℕ, ◌+◌, ◌*◌, ◌≤◌, List, ◌∷◌, ◌++◌, length, take, drop, ap, ◌∙◌, arith}
use Rattle.sheetlines.specs.Lines.{line_of}
use Rattle.sheetlines.specs.Sheets.{body_lines}
use Rattle.sheetlines.proofs.Sizes.{length_line}
use Rattle.sheetwriter.specs.Puts.{put}
use Rattle.sheetwriter.proofs.Puts.{put-put}

-- a line put at p, and then the lines after it
pub body_more : (out last : List ℕ) (p next w : ℕ) (ws bs part others : List ℕ)
    → part ≡ take w bs → others ≡ drop w bs → last ≡ put out p (line_of part) → next ≡ p + 2 * length part + 1 → next ≤ length out
    → put last next (body_lines ws others) ≡ put out p (body_lines (w ∷ ws) bs)
body_more out last p next w ws bs part others ep eo el en h =
    let ll = length_line part in
    ap (λ (y : List ℕ). put y next (body_lines ws others)) el
    ∙ put-put out p next (line_of part) (body_lines ws others) (omega arith) h
    ∙ ap (λ (y : List ℕ). put out p (line_of y ++ body_lines ws others)) ep
    ∙ ap (λ (y : List ℕ). put out p (line_of (take w bs) ++ body_lines ws y)) eo
