-- A text in two at its first space. Assumes nothing.
use Rattle.std.specs.Prelude.{ℕ, if◌then◌else◌, List, [], ◌∷◌, Some, None, Option, ◌==◌}

abbrev pub Parts : Type 0
Parts = Option (List ℕ × List ℕ)

-- one character more in the first part
abbrev pub longer : ℕ → Parts → Parts
longer c None = None
longer c (Some p) = Some (c ∷ p.0, p.1)

-- what stands before the first space, and what stands behind it; none where there is no space
unfoldable pub parted : List ℕ → Parts
parted [] = None
parted (c ∷ cs) = if c == 32 then Some ([], cs) else longer c (parted cs)
