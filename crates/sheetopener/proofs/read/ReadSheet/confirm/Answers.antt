-- What the lines tell is hashed, and the tag that they tell is confirmed: check's own answer.
use Rattle.std.proofs.Common.{◌≡◌, ℕ, ◌*◌, length, take, drop, replicate, sym, ap, ◌∙◌, arith}
use Rattle.std.proofs.lemmas.List.{length-drop, length-take, length-take-le}
use Rattle.checks.proofs.Tags.{answer_is}
use Rattle.checks.specs.Tags.{tag_answer}
use Rattle.keystream.specs.Counters.{const0, const1}
use Rattle.polyhash.specs.Hash.{hash}
use Rattle.digits.specs.Hex.{unhex}
use Rattle.sheetlines.specs.Lines.{bytes_in}
use Rattle.sheetlines.specs.Sheets.{header_at, frames_of, cipher_at, tag_at, header_of, cipher_of, tag_of}
use Rattle.sheetopener.proofs.Bodies.{line_decoded}
use Rattle.sheetopener.proofs.Placed.{placed}
use Rattle.sheetopener.proofs.read.ReadSheet.confirm.Goals as goal

pub hash_line-header_hash-requires : goal.hash_line-header_hash-requires
hash_line-header_hash-requires g c =
    let text = c.args.self.now.text.now in
    let f = c.args.self.now.fields in
    let p = placed text f c.args.self.now.read in
    let l = ap length c.header_and_body.ensures.header ∙ length-take (2 * f.header_len) (drop header_at text) in
    omega arith

pub hash_body-ciphertext_hash-requires : goal.hash_body-ciphertext_hash-requires
hash_body-ciphertext_hash-requires g c =
    let text = c.args.self.now.text.now in
    let f = c.args.self.now.fields in
    let p = placed text f c.args.self.now.read in
    let l = ap length c.header_and_body.ensures.body ∙ length-drop (cipher_at f) text in
    omega arith

pub slice_bounds-bytes-end : goal.slice_bounds-bytes-end
slice_bounds-bytes-end g c = let p = placed c.args.self.now.text.now c.args.self.now.fields c.args.self.now.read in omega arith

pub slice_bounds-tag-end : goal.slice_bounds-tag-end
slice_bounds-tag-end g c =
    let f = c.args.self.now.fields in
    let p = placed c.args.self.now.text.now f c.args.self.now.read in
    sym (length-take-le f.tag_len (replicate 16 0) (omega arith))

pub returns : goal.returns
returns g c =
    let E = g.C.Permutation.image c.args.cipher.now in
    let text = c.args.self.now.text.now in
    let f = c.args.self.now.fields in
    let p = placed text f c.args.self.now.read in
    let keys = c.hash_keys-ciphertext_key.ensures in
    let parts = c.header_and_body.ensures in
    let cipher : c.hash_body-ciphertext_hash.result ≡ hash (E const0) (cipher_of f text) =
    c.hash_body-ciphertext_hash.ensures ∙ (λ i. hash (keys i).0 (bytes_in (frames_of f.message_len) (parts.body i))) in
    let header : c.hash_line-header_hash.result ≡ hash (E const1) (header_of f text) =
    c.hash_line-header_hash.ensures ∙ (λ i. hash (keys i).1 (unhex (parts.header i))) in
    let l = length-drop (tag_at f) text in
    let wide = length-take-le f.tag_len (replicate {A = ℕ} 16 0) (omega arith) in
    let tag : c.decode.new.out ≡ tag_of f text =
    line_decoded f.tag_len (drop (tag_at f) text) _ (take f.tag_len (replicate 16 0)) _ c.decode.ensures c.tag_digits.ensures (omega arith) wide in
    answer_is E f.nonce c.hash_body-ciphertext_hash.result c.hash_line-header_hash.result (header_of f text) (cipher_of f text) (tag_of f text) _
    cipher header (c.confirm_tag.ensures ∙ ap (tag_answer _) tag) (omega arith) (omega arith) p.nonce_fits (omega arith) (omega arith)
