-- The digits of line 1 are decoded, and each field is the number of its bytes.
use Rattle.std.proofs.Common.{◌≡◌, take, replicate, ap, ◌∙◌, arith}
use Rattle.std.proofs.lemmas.List.{length-take-le}
use Rattle.digits.proofs.Hexes.{decoded_all}
use Rattle.digits.specs.Hex.{unhex}
use Rattle.sheetlines.specs.Sheets.{first_digits, fields, fields_told}
use Rattle.sheetreader.proofs.sheet.read_fields.Goals as goal

pub returns : goal.returns
returns c =
    let digits = take first_digits c.args.text.now in
    let long = length-take-le first_digits c.args.text.now c.requires in
    let told : c.decode.new.out ≡ unhex digits = c.decode.ensures ∙ decoded_all digits (replicate 15 0) (omega arith) in
    (λ i. fields (c.number.ensures i) (c.number-2.ensures i) (c.number-3.ensures i) (c.number-4.ensures i)) ∙ ap fields_told told
