use Rattle.std.proofs.Common.{rules, sym, subst, ◌∙◌}
use Rattle.std.specs.Str.{IsUtf8}
use Rattle.digits.proofs.Blocks.{block_text-IsUtf8}
use Rattle.digits.proofs.block.BlockDigitsDisplay.fmt.Goals as goal

pub unwrap-requires : goal.unwrap-requires
unwrap-requires g c = let u = subst IsUtf8 (sym (c.as_flattened.ensures.value ∙ c.pairs_of-pairs.ensures)) (block_text-IsUtf8 _) in search rules
