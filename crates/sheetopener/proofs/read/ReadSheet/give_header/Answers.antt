-- The front of the buffer is just filled with the bytes that the header's digits are.
use Rattle.std.proofs.Common.{take, drop, arith}
use Rattle.std.proofs.lemmas.List.{length-drop, length-take-le}
use Rattle.sheetlines.specs.Sheets.{header_at, header_of}
use Rattle.sheetopener.proofs.Bodies.{line_decoded}
use Rattle.sheetopener.proofs.Placed.{placed, fronted}
use Rattle.sheetopener.proofs.read.ReadSheet.give_header.Goals as goal

pub returns : goal.returns
returns c =
    let text = c.args.self.now.text.now in
    let f = c.args.self.now.fields in
    let n = f.header_len in
    let out = c.args.out.now in
    let p = placed text f c.args.self.now.read in
    let l = length-drop header_at text in
    let room = length-take-le n out c.requires in
    fronted c.decode.new.out (header_of f text) out n
    (line_decoded n (drop header_at text) _ (take n out) _ c.decode.ensures c.header_and_body.ensures.header (omega arith) room) p.header_long
