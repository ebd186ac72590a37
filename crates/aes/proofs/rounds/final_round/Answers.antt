-- The transformations in turn, with no mix.
use Rattle.std.proofs.Common.{ap, ◌∙◌}
use Rattle.aes.specs.Cipher.{final_round}
use Rattle.aes.specs.State.{shift_rows, add_round_key}
use Rattle.aes.proofs.rounds.final_round.Goals as goal

pub returns : goal.returns
unfolding final_round
returns c = c.add_round_key.ensures ∙ ap (add_round_key c.args.k) (c.shift_rows.ensures ∙ ap shift_rows c.sub_bytes.ensures)
