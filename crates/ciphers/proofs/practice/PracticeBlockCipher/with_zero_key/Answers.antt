-- Sixteen zeros are the number 0.
use Rattle.std.proofs.Common.{refl}
use Rattle.blocks.specs.Blocks.{number_from}
use Rattle.ciphers.proofs.practice.PracticeBlockCipher.with_zero_key.Goals as goal

pub returns : goal.returns
unfolding number_from
returns c = refl
