-- Confirming the tag of a sheet whose hashes are at hand. Assumes nothing.
-- tag_answer b t: what a tag is answered that should be the first bytes of the block b.
use Rattle.std.specs.Prelude.{ℕ, cond, List, length, take, Ok, Err}
use Rattle.std.specs.Str.{bytes_eq}
use Rattle.blocks.specs.Blocks.{bytes_of}
use Rattle.method.specs.Limits.{tag_differs}
use Rattle.refusals.specs.Answers.{Answer}

-- a tag is the first bytes of the block b, or it differs
abbrev pub tag_answer : ℕ → List ℕ → Answer (Unit {0})
tag_answer b t = cond (bytes_eq (take (length t) (bytes_of 16 b)) t) (Ok tt) (Err tag_differs)
