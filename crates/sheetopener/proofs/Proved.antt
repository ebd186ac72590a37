-- The laws of opening: the lines of a sheet that check accepts open to it, and no other lines do. Assumes nothing.
use Rattle.std.proofs.Common.{◌≡◌, ℕ, ◌≤◌, ltb, leb, List, length, take, drop, Ok, sym, refl, ap, ◌∙◌, subst}
use Rattle.std.proofs.lemmas.List.{take_at}
use Rattle.std.proofs.lemmas.Bool.{cond-false, le-ltb}
use Rattle.blocks.specs.Blocks.{AllBytes}
use Rattle.checks.specs.Checks.{check_answer}
use Rattle.method.proofs.Kept.{passed, limits_kept}
use Rattle.method.specs.Published.{crypt, tag}
use Rattle.sheetlines.proofs.Proved.{line_laws, unlike}
use Rattle.sheetlines.specs.Laws.{sheet_fields}
use Rattle.sheetlines.specs.Sheets.{lines_of, header_of, cipher_of, tag_of}
use Rattle.sheetlines.specs.declared.fields.Fields.{Fields}
use Rattle.sheetopener.proofs.Accepted.{accepted, within, one-cipher}
use Rattle.sheetopener.proofs.Opened.{opened}
use Rattle.sheetopener.specs.Laws.{OpensTo, OpenLaws}
use Rattle.sheetopener.specs.Opens.{if_checked, open_read, open_answer}
use Rattle.sheetwriter.specs.Writes.{write_too_small, sized, write_answer, written}

-- the lines are read back, the buffers are long enough, and check gets what it accepts
opens_is : (E : ℕ → ℕ) (hs ms N : ℕ) (h c t : List ℕ) → AllBytes h → AllBytes c → AllBytes t → check_answer E N h c t ≡ Ok tt
    → length h ≤ hs → length c ≤ ms → OpensTo E (lines_of N h c t) hs ms N h c t
opens_is E hs ms N h c t bh bc bt a uh uc =
    let f = sheet_fields N h c t in
    let text = lines_of N h c t in
    let back = line_laws.reads_back N h c t (within E N h c t (accepted E N h c t a) bh bc bt) in
    let genuine : check_answer E N (header_of f text) (cipher_of f text) (tag_of f text) ≡ Ok tt =
    (λ i. check_answer E N (back.header i) (back.cipher i) (back.tag i)) ∙ a in
    record {
      answer = ap (open_read E text hs ms) back.answer ∙ cond-false (ltb hs (length h)) _ _ (le-ltb hs (length h) uh)
          ∙ cond-false (ltb ms (length c)) _ _ (le-ltb ms (length c) uc) ∙ ap (if_checked f) genuine;
      header = back.header;
      cipher = back.cipher;
      tag = back.tag;
    }

-- what is read is the lines of what it tells
only_is : (E : ℕ → ℕ) (text : List ℕ) (hs ms : ℕ) (f : Fields) → open_answer E text hs ms ≡ Ok f
    → (text ≡ lines_of f.nonce (header_of f text) (cipher_of f text) (tag_of f text))
    × (check_answer E f.nonce (header_of f text) (cipher_of f text) (tag_of f text) ≡ Ok tt)
only_is E text hs ms f a =
    let o = opened E text hs ms f a in
    ((line_laws.canonical text f o.read).lines, o.genuine)

-- one nonce, header and message make one ciphertext, and that and the tag's length make one tag
one_text_is : (E : ℕ → ℕ) (text text' : List ℕ) (hs ms hs' ms' : ℕ) (f : Fields) → open_answer E text hs ms ≡ Ok f
    → open_answer E text' hs' ms' ≡ Ok f
    → header_of f text ≡ header_of f text' → crypt E f.nonce (cipher_of f text) ≡ crypt E f.nonce (cipher_of f text') → text ≡ text'
one_text_is E text text' hs ms hs' ms' f a a' h m =
    let N = f.nonce in
    let o = opened E text hs ms f a in
    let o' = opened E text' hs' ms' f a' in
    let s = accepted E N (header_of f text) (cipher_of f text) (tag_of f text) o.genuine in
    let s' = accepted E N (header_of f text') (cipher_of f text') (tag_of f text') o'.genuine in
    let c = one-cipher E N (cipher_of f text) (cipher_of f text') s.kept.nonce s.kept.message s'.kept.message m in
    let l = (line_laws.canonical text f o.read).tag ∙ sym (line_laws.canonical text' f o'.read).tag in
    unlike text text' f f o.read o'.read refl h c (sym s.genuine ∙ (λ i. tag E (l i) N (h i) (c i)) ∙ s'.genuine)

-- what write answers is how long the lines are
count_is : (N n room : ℕ) (h c t : List ℕ) → write_answer N h c t room ≡ Ok n → length (lines_of N h c t) ≡ n
count_is N n room h c t w =
    let size = length (lines_of N h c t) in
    let kept = limits_kept N (length h) (length c) (length t) (sized size room) n w in
    let is : Ok size ≡ Ok n = (passed (leb size room) (Ok size) write_too_small n kept.1).1 in
    cc

-- the front that write answers is the lines
written_opens_is : (E : ℕ → ℕ) (hs ms N n : ℕ) (h c t buffer : List ℕ) → AllBytes h → AllBytes c → AllBytes t
    → check_answer E N h c t ≡ Ok tt → write_answer N h c t (length buffer) ≡ Ok n → length h ≤ hs → length c ≤ ms
    → OpensTo E (take n (written (Ok n) (lines_of N h c t) buffer)) hs ms N h c t
written_opens_is E hs ms N n h c t buffer bh bc bt a w uh uc =
    let front = take_at (lines_of N h c t) (drop n buffer) n (count_is N n (length buffer) h c t w) in
    subst (λ (text : List ℕ). OpensTo E text hs ms N h c t) (sym front) (opens_is E hs ms N h c t bh bc bt a uh uc)

pub open_laws : OpenLaws
open_laws = record { opens = opens_is; only = only_is; one_text = one_text_is; written_opens = written_opens_is }
