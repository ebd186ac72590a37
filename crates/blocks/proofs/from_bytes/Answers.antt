use Rattle.std.proofs.Common.{◌≡◌, length, sym, ap, ◌∙◌, rules}
use Rattle.blocks.specs.Blocks.{number, bytes_of}
use Rattle.blocks.proofs.Numbers.{all_bytes, bytes_of-number}
use Rattle.blocks.proofs.Spelt.{number_16}
use Rattle.blocks.proofs.from_bytes.Goals as goal

pub returns : goal.returns
returns c =
    let xs = c.args.bytes in
    let len : length xs ≡ 16 = search rules in
    let is : c.from_be_bytes.result ≡ number xs = c.from_be_bytes.ensures ∙ number_16 xs len in
    record {
      value = is;
      back = ap (bytes_of 16) is ∙ ap (λ n. bytes_of n (number xs)) (sym len) ∙ bytes_of-number xs (all_bytes xs (λ i h. search rules));
    }
