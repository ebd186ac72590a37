-- The part of the line's buffer is just filled with the bytes that the digits are.
use Rattle.std.proofs.Common.{◌≡◌, ℕ, ◌/◌, List, length, take, replicate, sym, ap, ◌∙◌, arith}
use Rattle.std.proofs.lemmas.List.{length-take-le}
use Rattle.digits.proofs.Hexes.{length-unhex, decoded_fits}
use Rattle.digits.specs.Hex.{unhex}
use Rattle.polyhash.specs.Hash.{hash}
use Rattle.sheetopener.proofs.body.hash_line.Goals as goal

pub returns : goal.returns
returns c =
    let ds = c.args.digits.now in
    let part : List ℕ = take (length ds / 2) (replicate 4096 0) in
    let long : length part ≡ length ds / 2 = length-take-le (length ds / 2) (replicate 4096 0) (omega arith) in
    let told : c.decode.new.out ≡ unhex ds = c.decode.ensures ∙ decoded_fits ds part (length-unhex ds ∙ sym long) in
    c.hash_of.ensures ∙ ap (hash c.args.key) told
