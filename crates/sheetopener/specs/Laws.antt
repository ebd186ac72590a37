-- What ties opening to check and to writing. Assumes nothing.
-- OpensTo E text hs ms N h c t: with buffers of hs and ms bytes the text opens to the sheet with nonce N, header h, ciphertext c and
-- tag t, under a cipher that means E.
-- OpenLaws: the lines of a sheet that check accepts open to it, and no other lines do.
use Rattle.std.specs.Prelude.{◌≡◌, ℕ, ◌≤◌, List, length, take, Ok}
use Rattle.blocks.specs.Blocks.{AllBytes}
use Rattle.checks.specs.Checks.{check_answer}
use Rattle.method.specs.Published.{crypt}
use Rattle.sheetlines.specs.Laws.{sheet_fields}
use Rattle.sheetlines.specs.Sheets.{lines_of, header_of, cipher_of, tag_of}
use Rattle.sheetlines.specs.declared.fields.Fields.{Fields}
use Rattle.sheetopener.specs.Opens.{open_answer}
use Rattle.sheetwriter.specs.Writes.{write_answer, written}

pub record OpensTo (E : ℕ → ℕ) (text : List ℕ) (hs ms N : ℕ) (h c t : List ℕ) : Type 0 where
  pub answer : open_answer E text hs ms ≡ Ok (sheet_fields N h c t)
  pub header : header_of (sheet_fields N h c t) text ≡ h
  pub cipher : cipher_of (sheet_fields N h c t) text ≡ c
  pub tag : tag_of (sheet_fields N h c t) text ≡ t

-- for every function E from blocks to blocks
pub record OpenLaws : Type 0 where
  -- given long enough buffers, the lines of a sheet that check accepts open to it
  pub opens : (E : ℕ → ℕ) (hs ms N : ℕ) (h c t : List ℕ) → AllBytes h → AllBytes c → AllBytes t → check_answer E N h c t ≡ Ok tt
      → length h ≤ hs → length c ≤ ms → OpensTo E (lines_of N h c t) hs ms N h c t
  -- and no other lines do: what opens is the lines of a sheet that check accepts
  pub only : (E : ℕ → ℕ) (text : List ℕ) (hs ms : ℕ) (f : Fields) → open_answer E text hs ms ≡ Ok f
      → (text ≡ lines_of f.nonce (header_of f text) (cipher_of f text) (tag_of f text))
      × (check_answer E f.nonce (header_of f text) (cipher_of f text) (tag_of f text) ≡ Ok tt)
  -- two different texts never open to one sheet: fields, header and message tell the text
  pub one_text : (E : ℕ → ℕ) (text text' : List ℕ) (hs ms hs' ms' : ℕ) (f : Fields) → open_answer E text hs ms ≡ Ok f → open_answer E text' hs' ms' ≡ Ok f
      → header_of f text ≡ header_of f text' → crypt E f.nonce (cipher_of f text) ≡ crypt E f.nonce (cipher_of f text') → text ≡ text'
  -- what write puts into a buffer opens, where check accepts what was written
  pub written_opens : (E : ℕ → ℕ) (hs ms N n : ℕ) (h c t buffer : List ℕ) → AllBytes h → AllBytes c → AllBytes t → check_answer E N h c t ≡ Ok tt
      → write_answer N h c t (length buffer) ≡ Ok n → length h ≤ hs → length c ≤ ms
      → OpensTo E (take n (written (Ok n) (lines_of N h c t) buffer)) hs ms N h c t
