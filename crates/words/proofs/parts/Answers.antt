-- `split_once` finds the first space.
use Rattle.std.proofs.Common.{◌≡◌, ℕ, List, Some, None, Option, ap, ◌∙◌, arith, Bor, MatchOption}
use Rattle.std.proofs.lemmas.Str.Pattern.{IsSplitOnceResult, split_parts}
use Rattle.words.specs.Splits.{parted}
use Rattle.words.proofs.Spaces.{parted_none, parted_some}
use Rattle.words.proofs.parts.Goals as goal

found : (cs : List ℕ) (r : Option (Bor (List ℕ) × Bor (List ℕ))) → IsSplitOnceResult 32 cs r
    → MatchOption r (parted cs ≡ None) (λ p. parted cs ≡ Some (p.0.now, p.1.now))
found cs None h = parted_none cs (split_parts 32 cs None h (omega arith))
found cs (Some p) h =
    let s = split_parts 32 cs (Some p) h (omega arith) in
    ap parted s.0 ∙ parted_some p.0.now p.1.now s.1

pub returns : goal.returns
returns c = found c.args.text.now c.split_once.result c.split_once.ensures.cases
