-- Bytes appended as a line of digits, two digits a turn. Assumes nothing.
use Rattle.std.proofs.Common.{◌≡◌, ℕ, ◌+◌, ◌<◌, ◌≤◌, List, [], ◌∷◌, ◌++◌, length, get_or, take, sym, ap, ◌∙◌, append_assoc}
use Rattle.std.proofs.lemmas.List.{take_all}
use Rattle.digits.proofs.Hexes.{hex-more}
use Rattle.digits.specs.Hex.{hex}
use Rattle.sheetlines.specs.Lines.{feed, line_of}

-- the digits of one byte more
pub digits_more : (before out two longer bytes : List ℕ) (i : ℕ) → i < length bytes → out ≡ before ++ hex (take i bytes)
    → two ≡ hex (get_or bytes i 0 ∷ []) → longer ≡ out ++ two → longer ≡ before ++ hex (take (i + 1) bytes)
digits_more before out two longer bytes i h e d l =
    l ∙ (λ k. e k ++ d k) ∙ append_assoc before (hex (take i bytes)) (hex (get_or bytes i 0 ∷ []))
    ∙ ap (λ (xs : List ℕ). before ++ xs) (sym (hex-more bytes i h))

-- and the line feed behind them all
pub line_ends : (before out longer bytes : List ℕ) (i : ℕ) → length bytes ≤ i → out ≡ before ++ hex (take i bytes)
    → longer ≡ out ++ feed ∷ [] → longer ≡ before ++ line_of bytes
line_ends before out longer bytes i h e l =
    l ∙ ap (λ (xs : List ℕ). xs ++ feed ∷ []) (e ∙ ap (λ (xs : List ℕ). before ++ hex xs) (take_all i bytes h))
    ∙ append_assoc before (hex bytes) (feed ∷ [])
