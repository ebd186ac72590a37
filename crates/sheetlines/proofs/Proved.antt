-- Writing a sheet's lines and reading them undo each other, and two texts are never read as one sheet. Assumes nothing.
use Rattle.std.proofs.Common.{◌≡◌, ℕ, List, Ok, sym, ◌∙◌}
use Rattle.sheetlines.specs.Laws.{LineLaws}
use Rattle.sheetlines.specs.Sheets.{lines_of, sheet_answer, header_of, cipher_of, tag_of}
use Rattle.sheetlines.specs.declared.fields.Fields.{Fields}
use Rattle.sheetlines.proofs.Complete.{read_back}
use Rattle.sheetlines.proofs.Sound.{canonical}

pub line_laws : LineLaws
line_laws = record { canonical = canonical; reads_back = read_back }

-- two different texts are never read as one sheet
pub unlike : (text text' : List ℕ) (f f' : Fields) → sheet_answer text ≡ Ok f → sheet_answer text' ≡ Ok f' → f.nonce ≡ f'.nonce
    → header_of f text ≡ header_of f' text' → cipher_of f text ≡ cipher_of f' text' → tag_of f text ≡ tag_of f' text' → text ≡ text'
unlike text text' f f' a a' n h c t = (canonical text f a).lines ∙ (λ i. lines_of (n i) (h i) (c i) (t i)) ∙ sym (canonical text' f' a').lines
