-- Eight bytes copied, and their number.
use mathlib.Core.Path.{◌≡◌, ap, ◌∙◌}
use mathlib.Core.List.{List}
use Prim.Native.Nat.{ℕ, ◌+◌, ◌-◌, ◌*◌}
use native.Mathlib.Omega.{arith}
use lib.ListN.{take, drop}
use Rattle.blocks.specs.Blocks.{number}
use Rattle.blocks.proofs.Spelt.{number_8}
use Rattle.speck.proofs.word_of.Goals as goal

-- a part from `at` to `at + 8` has eight bytes
part : (at : ℕ) (xs : List ℕ) → number (take (at + 8 - at) (drop at xs)) ≡ number (take 8 (drop at xs))
part at xs = let width : at + 8 - at ≡ 8 = omega arith in ap (λ n. number (take n (drop at xs))) width

pub returns : goal.returns
returns c =
    c.from_be_bytes.ensures
    ∙ number_8 c.copy_from_slice.new.self c.copy_from_slice.ensures.len
    ∙ ap number c.copy_from_slice.ensures.after
    ∙ part (8 * c.args.j) c.args.key.now
