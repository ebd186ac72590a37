-- Each part of the array holds the bytes of its number.
use Rattle.std.proofs.Common.{◌≡◌, ◌∙◌, arith}
use Rattle.sheetlines.proofs.Ranges.{in_range}
use Rattle.sheetwriter.proofs.Spelt.{bytes_8, bytes_4, bytes_2, first_spelt}
use Rattle.sheetwriter.proofs.first.first_bytes.Goals as goal

pub returns : goal.returns
returns c =
    let nonce : c.copy_from_slice.new.self ≡ bytes_8 c.args.fields.nonce =
    c.copy_from_slice.ensures.after ∙ c.to_be_bytes.ensures in
    let message : c.copy_from_slice-2.new.self ≡ bytes_4 c.args.fields.message_len =
    c.copy_from_slice-2.ensures.after ∙ c.to_be_bytes-2.ensures in
    let header : c.copy_from_slice-3.new.self ≡ bytes_2 c.args.fields.header_len =
    c.copy_from_slice-3.ensures.after ∙ c.to_be_bytes-3.ensures in
    let r = in_range c.args.fields c.requires in
    simp (nonce, message, header)
    (first_spelt c.args.fields.nonce c.args.fields.message_len c.args.fields.header_len c.args.fields.tag_len (omega arith))
