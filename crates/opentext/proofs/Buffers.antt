-- The buffers of an opened sheet, cut to the lengths that line 1 tells: header and message, and nothing else. Assumes nothing.
use Rattle.std.proofs.Common.{◌≡◌, ℕ, List, ◌++◌, length, take, drop, Ok, sym, ap, ◌∙◌, arith}
use Rattle.std.proofs.lemmas.List.{take_at}
use Rattle.method.proofs.Undone.{length-crypt}
use Rattle.method.specs.Limits.{header_limit, message_limit}
use Rattle.method.specs.Published.{crypt}
use Rattle.refusals.specs.Answers.{Answer}
use Rattle.sheetlines.specs.Sheets.{header_of, cipher_of}
use Rattle.sheetlines.specs.declared.fields.Fields.{Fields}
use Rattle.sheetopener.proofs.Opened.{opened}
use Rattle.sheetopener.proofs.Placed.{placed}
use Rattle.sheetopener.specs.Opens.{open_answer, at_front}
use Rattle.opentext.specs.Texts.{sheet_text, opened_text}

-- the text of what opening answered, with buffers of these lengths
pub answer_text : (E : ℕ → ℕ) (text : List ℕ) (hs ms : ℕ) (a : Answer Fields) → hs ≡ header_limit → ms ≡ message_limit
    → a ≡ open_answer E text hs ms → sheet_text E text a ≡ opened_text E text
answer_text E text hs ms a h m e = ap (sheet_text E text) (e ∙ (λ i. open_answer E text (h i) (m i)))

-- how long header and message are
pub record Long (E : ℕ → ℕ) (text : List ℕ) (f : Fields) : Type 0 where
  pub header : length (header_of f text) ≡ f.header_len
  pub message : length (crypt E f.nonce (cipher_of f text)) ≡ f.message_len

pub long : (E : ℕ → ℕ) (text : List ℕ) (hs ms : ℕ) (f : Fields) → Ok f ≡ open_answer E text hs ms → Long E text f
long E text hs ms f a =
    let p = placed text f (opened E text hs ms f (sym a)).read in
    let c = p.cipher_long in
    let short = p.message_short in
    record { header = p.header_long; message = length-crypt E f.nonce (cipher_of f text) p.nonce_fits (omega arith) ∙ c }

-- a buffer of `room` bytes whose front was filled, cut to what fills it; `spare` is what stands behind a vector's bytes
pub front : (told buffer filled spare cut : List ℕ) (room n : ℕ) → filled ≡ at_front told buffer → length filled ≡ room → length told ≡ n
    → cut ≡ take n (take room (filled ++ spare)) → cut ≡ told
front told buffer filled spare cut room n f r l e =
    e ∙ ap (take n) (take_at filled spare room r ∙ f) ∙ take_at told (drop (length told) buffer) n l
