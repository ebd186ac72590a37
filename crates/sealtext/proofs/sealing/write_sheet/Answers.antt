-- The draft's tag and ciphertext are the published ones, and the output has room for the lines.
use Rattle.std.proofs.Common.{arith, rules}
use Rattle.digits.proofs.Hexes.{length-unhex}
use Rattle.digits.specs.Hex.{unhex}
use Rattle.sealtext.proofs.Sheets.{sheet_written}
use Rattle.sealtext.proofs.sealing.write_sheet.Goals as goal

pub bytes_in-header-requires : goal.bytes_in-header-requires
bytes_in-header-requires g c = let l = length-unhex c.args.header.now in omega arith

pub bytes_in-message-requires : goal.bytes_in-message-requires
bytes_in-message-requires g c = let l = length-unhex c.args.message.now in omega arith

pub returns : goal.returns
returns g c =
    let s = c.finish_draft-sealed in
    let w = c.write in
    let k =
    sheet_written (g.C.Permutation.image c.args.cipher.now) c.args.draft.nonce (unhex c.args.header.now)
    (unhex c.args.message.now) c.args.out.now c.requires.nonce c.requires.header c.requires.message (search rules)
    s.result.nonce c.bytes_in-header.result.now c.bytes_in-message.result.now s.new.ciphertext s.result.tag
    s.ensures.nonce c.bytes_in-header.ensures c.bytes_in-message.ensures s.ensures.wrote s.ensures.tag
    w.result c.unwrap_or.result w.new.out w.ensures.answer c.unwrap_or.ensures w.ensures.wrote in
    record { count = k.count_is; wrote = k.buffer_is }
