-- The ciphertext is taken and deciphered in place.
use Rattle.std.proofs.Common.{◌≡◌, length, sym, ap, ◌∙◌, arith}
use Rattle.std.proofs.lemmas.List.{length-drop, length-take-le}
use Rattle.keystream.specs.Counters.{ciphered}
use Rattle.method.proofs.Closed.{crypt_is}
use Rattle.method.proofs.Undone.{length-crypt}
use Rattle.method.specs.Published.{crypt}
use Rattle.sheetlines.specs.Lines.{lines_size, bytes_in}
use Rattle.sheetlines.specs.Sheets.{cipher_at, frames_of, cipher_of}
use Rattle.sheetopener.proofs.Placed.{placed, fronted}
use Rattle.sheetopener.proofs.read.ReadSheet.give_message.Goals as goal

pub take_body-requires : goal.take_body-requires
take_body-requires g c =
    let text = c.args.self.now.text.now in
    let f = c.args.self.now.fields in
    let p = placed text f c.args.self.now.read in
    let n = length-take-le f.message_len c.args.out.now c.requires in
    let size = ap (λ m. lines_size (frames_of m)) n in
    let l = ap length c.header_and_body.ensures.body ∙ length-drop (cipher_at f) text in
    omega arith

pub returns : goal.returns
returns g c =
    let E = g.C.Permutation.image c.args.cipher.now in
    let text = c.args.self.now.text.now in
    let f = c.args.self.now.fields in
    let out = c.args.out.now in
    let p = placed text f c.args.self.now.read in
    let n = length-take-le f.message_len out c.requires in
    let told : c.take_body.new.out ≡ cipher_of f text =
    c.take_body.ensures ∙ (λ i. bytes_in (frames_of (n i)) (c.header_and_body.ensures.body i)) in
    let is = crypt_is E f.nonce (cipher_of f text) p.nonce_fits (omega (arith, p.message_short, p.cipher_long)) in
    fronted c.xor_onto.new.bytes (crypt E f.nonce (cipher_of f text)) out f.message_len
    (c.xor_onto.ensures ∙ (λ i. ciphered (g.C.Permutation.image (c.new.ensures.cipher i)) (c.new.ensures.nonce i) 0 (told i)) ∙ sym is)
    (length-crypt E f.nonce (cipher_of f text) p.nonce_fits (omega (arith, p.message_short, p.cipher_long)) ∙ p.cipher_long)
