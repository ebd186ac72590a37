use Rattle.std.proofs.Common.{◌≡◌, ap, ◌∙◌, mod-eq_of_lt, arith}
use Rattle.blocks.specs.Blocks.{number, bytes_of}
use Rattle.blocks.proofs.Numbers.{number-bytes_of}
use Rattle.blocks.proofs.Spelt.{bytes_high_first_is}
use Rattle.blocks.proofs.to_bytes.Goals as goal

pub returns : goal.returns
returns c =
    let x = c.args.block in
    let is : c.to_be_bytes.result ≡ bytes_of 16 x = c.to_be_bytes.ensures ∙ bytes_high_first_is 16 x in
    record { value = is; back = ap number is ∙ number-bytes_of 16 x ∙ mod-eq_of_lt (omega arith) }
