-- Column after column.
use Rattle.aes.specs.Cipher.{next_round_key}
use Rattle.aes.proofs.keys.next_round_key.Goals as goal

pub returns : goal.returns
unfolding next_round_key
returns c = simp (
  c.add_column-d.ensures.sum,
  c.add_column-c.ensures.sum,
  c.add_column-b.ensures.sum,
  c.add_column-a.ensures.sum,
  c.turn.ensures,
)
