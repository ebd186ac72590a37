-- The buffer has as many bytes as the digits are.
use Rattle.std.proofs.Common.{◌≡◌, length, ap, ◌∙◌, arith, rules}
use Rattle.std.proofs.lemmas.List.{take_at}
use Rattle.digits.proofs.Hexes.{decoded_fits, length-unhex}
use Rattle.digits.specs.Hex.{unhex}
use Rattle.opentext.proofs.opening.bytes_of.Goals as goal

pub returns : goal.returns
returns c =
    let text = c.args.text.now in
    let size = length-unhex text in
    let room : length c.deref_mut.result.now ≡ length (unhex text) = search rules in
    let told : c.decode.new.out ≡ unhex text = c.decode.ensures ∙ decoded_fits text c.deref_mut.result.now (omega arith) in
    let long = ap length told in
    take_at c.decode.new.out _ c.in_ok-bytes.bytes.len (search rules) ∙ told
