use Rattle.std.proofs.Common.{◌≡◌, ◌-◌, ◌*◌, length, take, drop, arith}
use Rattle.sheetlines.specs.Sheets.{tag_at}
use Rattle.sheetopener.proofs.Placed.{placed}
use Rattle.sheetopener.proofs.read.ReadSheet.tag_digits.Goals as goal

pub overflow_mul-result : goal.overflow_mul-result
overflow_mul-result c = let p = placed c.args.self.now.text.now c.args.self.now.fields c.args.self.now.read in omega arith

pub overflow_sub-result : goal.overflow_sub-result
overflow_sub-result c = let p = placed c.args.self.now.text.now c.args.self.now.fields c.args.self.now.read in omega arith

pub returns : goal.returns
returns c =
    let text = c.args.self.now.text.now in
    let f = c.args.self.now.fields in
    let p = placed text f c.args.self.now.read in
    let from : length text - 1 - 2 * f.tag_len ≡ tag_at f = omega arith in
    let count : length text - 1 - (length text - 1 - 2 * f.tag_len) ≡ 2 * f.tag_len = omega arith in
    (λ i. take (count i) (drop (from i) text))
