-- The key's cipher and the first nonce gave the draft, and the header fits.
use Rattle.std.proofs.Common.{◌≡◌, [], sym, ap, ◌∙◌}
use Rattle.chm.specs.Drafts.{words_of}
use Rattle.cipherlines.specs.Chosen.{key_bytes, standard_of, chosen_image}
use Rattle.digits.specs.Hex.{unhex}
use Rattle.sealtext.proofs.Begins.{begun-over, fits_within}
use Rattle.sealtext.specs.Seals.{tag_bytes}
use Rattle.sealtext.proofs.sealing.seal.Goals as goal

pub write_sheet-requires : goal.write_sheet-requires
write_sheet-requires c =
    let lines = c.args.lines.now in
    let s = c.new-sealer in
    let cipher = c.in_ok-cipher.cipher in
    let d = c.in_ok-draft.draft in
    let b =
    begun-over chosen_image (key_bytes lines.name) (standard_of lines.name) (unhex lines.key.now) lines.mark cipher c.new.result s.result d
    c.in_ok-cipher.ensures c.new.ensures s.ensures.stands s.ensures.cipher
    c.in_ok-draft.ensures.answer in
    let same : c.cipher.result.now ≡ cipher = cc in
    record {
      begun = b.new ∙ ap (λ k. words_of (chosen_image k) d.nonce tag_bytes [] []) (sym same);
      nonce = b.small;
      header = fits_within (unhex lines.header.now) c.in_ok-header_fits.ensures;
      message = c.requires;
    }
