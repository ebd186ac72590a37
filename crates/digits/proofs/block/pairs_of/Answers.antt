use Rattle.std.proofs.Common.{rules, [], ◌≡◌, length, arith, ◌∙◌, ap}
use Rattle.digits.specs.Hex.{hex}
use Rattle.digits.proofs.Blocks.{hex-pairs}
use Rattle.digits.proofs.block.pairs_of.Goals as goal

pub returns : goal.returns
returns c =
    let m = c.map.ensures.items in
    let l : length c.to_bytes.result ≡ 16 = omega arith in
    hex-pairs c.to_bytes.result c.map.result (omega (arith, m.long)) (λ i h. let x = m.at i 0 [] (omega arith) in search rules) ∙ ap hex c.to_bytes.ensures.value
