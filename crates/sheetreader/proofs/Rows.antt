-- A line that was read, and the lines after it. Assumes nothing.
use Rattle.std.proofs.Common.{◌≡◌, ℕ, ◌+◌, ◌*◌, List, ◌∷◌, drop, None, sym, ap, ◌∙◌}
use Rattle.std.proofs.lemmas.List.{drop-drop}
use Rattle.sheetlines.specs.Lines.{lines_size, fault_in, lines_fault}
use Rattle.sheetlines.proofs.Widths.{fault_later}

-- a line has no fault: the lines from the next on have the fault and the end that all of them have
pub row_passed : (l m w : ℕ) (ws text rest : List ℕ) → fault_in l 1 (2 * w) text ≡ None → m ≡ l + 1 → rest ≡ drop (2 * w + 1) text
    → (lines_fault m ws rest ≡ lines_fault l (w ∷ ws) text) × (drop (lines_size ws) rest ≡ drop (lines_size (w ∷ ws)) text)
row_passed l m w ws text rest h em er = (
  (λ i. lines_fault (em i) ws (er i)) ∙ sym (fault_later l w ws text h),
  ap (drop (lines_size ws)) er ∙ drop-drop (lines_size ws) (2 * w + 1) text,
)
