-- Where the parts of a text stand that was read as a sheet. Assumes nothing.
use Rattle.std.proofs.Common.{◌≡◌, ℕ, ◌+◌, ◌*◌, ◌^◌, ◌<◌, ◌≤◌, List, ◌++◌, length, drop, Ok, sym, ap, ◌∙◌, arith}
use Rattle.method.specs.Limits.{header_limit, message_limit}
use Rattle.sheetlines.proofs.Proved.{line_laws}
use Rattle.sheetlines.proofs.Sizes.{length-lines}
use Rattle.sheetlines.specs.Lines.{lines_size}
use Rattle.sheetlines.specs.Sheets.{tag_at, frames_of, sheet_answer, header_of, cipher_of, tag_of}
use Rattle.sheetlines.specs.declared.fields.Fields.{Fields}
use Rattle.sheetopener.specs.Opens.{at_front}

pub record Placed (text : List ℕ) (f : Fields) : Type 0 where
  -- the tag's line is the last
  pub end : length text ≡ tag_at f + 2 * f.tag_len + 1
  pub header_short : f.header_len ≤ header_limit
  pub message_short : f.message_len ≤ message_limit
  pub tag-least : 12 ≤ f.tag_len
  pub tag-most : f.tag_len ≤ 16
  pub nonce_fits : f.nonce < 2 ^ 63
  pub header_long : length (header_of f text) ≡ f.header_len
  pub cipher_long : length (cipher_of f text) ≡ f.message_len
  pub tag_long : length (tag_of f text) ≡ f.tag_len

pub placed : (text : List ℕ) (f : Fields) → sheet_answer text ≡ Ok f → Placed text f
placed text f e =
    let p = line_laws.canonical text f e in
    let h = p.header in
    let c = p.cipher in
    let t = p.tag in
    let w = p.within in
    let size = ap length p.lines ∙ length-lines f.nonce (header_of f text) (cipher_of f text) (tag_of f text) in
    let frames : lines_size (frames_of (length (cipher_of f text))) ≡ lines_size (frames_of f.message_len) = ap (λ n. lines_size (frames_of n)) c in
    record {
      end = omega arith;
      header_short = omega (arith, w.header);
      message_short = omega (arith, w.message);
      tag-least = omega (arith, w.least);
      tag-most = omega (arith, w.most);
      nonce_fits = w.nonce;
      header_long = h;
      cipher_long = c;
      tag_long = t;
    }

-- a buffer whose front was filled
pub fronted : (xs ys out : List ℕ) (n : ℕ) → xs ≡ ys → length ys ≡ n → xs ++ drop n out ≡ at_front ys out
fronted xs ys out n e l = (λ i. e i ++ drop (sym l i) out)
