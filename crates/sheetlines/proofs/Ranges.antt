-- The ranges of the fields of line 1, one by one. Assumes nothing.
use Rattle.std.proofs.Common.{◌≡◌, ◌^◌, leb, None, ◌∙◌, arith}
use Rattle.std.proofs.lemmas.Bool.{cond-true, and_from, le-leb, lt-ltb}
use Rattle.std.proofs.lemmas.Bool.Decides.{nat_tests}
use Rattle.method.proofs.Kept.{Kept}
use Rattle.method.specs.Limits.{header_limit, message_limit, tag_fits, nonce_fits}
use Rattle.sheetlines.specs.Sheets.{field_fault}
use Rattle.sheetlines.specs.declared.fields.Fields.{Fields}

pub in_range : (f : Fields) → field_fault f ≡ None → Kept f.nonce f.header_len f.message_len f.tag_len
in_range f h = record {
  nonce = grind (arith, nat_tests);
  message = grind (arith, nat_tests);
  header = grind (arith, nat_tests);
  least = grind (arith, nat_tests);
  most = grind (arith, nat_tests);
}

pub no_fault : (f : Fields) → Kept f.nonce f.header_len f.message_len f.tag_len → field_fault f ≡ None
no_fault f r =
    cond-true (nonce_fits f.nonce) _ _ (lt-ltb f.nonce (2 ^ 63) r.nonce)
    ∙ cond-true (leb f.message_len message_limit) _ _ (le-leb f.message_len message_limit r.message)
    ∙ cond-true (leb f.header_len header_limit) _ _ (le-leb f.header_len header_limit r.header)
    ∙ cond-true (tag_fits f.tag_len) _ _ (and_from (leb 12 f.tag_len) (leb f.tag_len 16) (le-leb 12 f.tag_len r.least) (le-leb f.tag_len 16 r.most))
