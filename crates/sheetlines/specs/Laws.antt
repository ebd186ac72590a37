-- What writing a sheet's lines and reading them have to do with each other. Assumes nothing.
-- sheet_fields N h c t: the fields of the sheet with nonce N, header h, ciphertext c and tag t.
-- Within N h c t: the sheet is within the limits, and its parts are bytes.
-- LineLaws: a text that is read as a sheet is the lines of that sheet, and the lines of a sheet are read as that sheet.
use Rattle.std.specs.Prelude.{◌≡◌, ℕ, ◌^◌, ◌<◌, ◌≤◌, List, length, Ok}
use Rattle.blocks.specs.Blocks.{AllBytes}
use Rattle.method.specs.Limits.{header_limit, message_limit}
use Rattle.sheetlines.specs.Sheets.{fields, lines_of, sheet_answer, header_of, cipher_of, tag_of}
use Rattle.sheetlines.specs.declared.fields.Fields.{Fields}

abbrev pub sheet_fields : ℕ → List ℕ → List ℕ → List ℕ → Fields
sheet_fields N h c t = fields N (length c) (length h) (length t)

pub record Within (N : ℕ) (h c t : List ℕ) : Type 0 where
  pub nonce : N < 2 ^ 63
  pub header : length h ≤ header_limit
  pub message : length c ≤ message_limit
  pub least : 12 ≤ length t
  pub most : length t ≤ 16
  pub header_bytes : AllBytes h
  pub cipher_bytes : AllBytes c
  pub tag_bytes : AllBytes t

pub record ReadBack (N : ℕ) (h c t : List ℕ) : Type 0 where
  pub answer : sheet_answer (lines_of N h c t) ≡ Ok (sheet_fields N h c t)
  pub header : header_of (sheet_fields N h c t) (lines_of N h c t) ≡ h
  pub cipher : cipher_of (sheet_fields N h c t) (lines_of N h c t) ≡ c
  pub tag : tag_of (sheet_fields N h c t) (lines_of N h c t) ≡ t

pub record Parts (text : List ℕ) (f : Fields) : Type 0 where
  -- the text is the lines of what it tells
  pub lines : text ≡ lines_of f.nonce (header_of f text) (cipher_of f text) (tag_of f text)
  -- and its parts have the lengths that line 1 tells
  pub header : length (header_of f text) ≡ f.header_len
  pub cipher : length (cipher_of f text) ≡ f.message_len
  pub tag : length (tag_of f text) ≡ f.tag_len
  -- which are within the limits
  pub within : Within f.nonce (header_of f text) (cipher_of f text) (tag_of f text)

pub record LineLaws : Type 0 where
  pub canonical : (text : List ℕ) (f : Fields) → sheet_answer text ≡ Ok f → Parts text f
  pub reads_back : (N : ℕ) (h c t : List ℕ) → Within N h c t → ReadBack N h c t
