-- A text cut at its first line feed, and what the line before it tells. Assumes nothing.
-- parted_line cs: what stands before the first line feed of the text cs, and what stands behind it.
-- line_as f cs: what f makes of the first line of cs, and what stands behind that line.
use Rattle.std.specs.Prelude.{ℕ, cond, List, [], ◌∷◌, Some, None, Option, ◌==◌}

-- a line feed
abbrev pub feed : ℕ
feed = 10

-- one character more in the line
abbrev pub longer : ℕ → Option (List ℕ × List ℕ) → Option (List ℕ × List ℕ)
longer c None = None
longer c (Some p) = Some (c ∷ p.0, p.1)

-- none where there is no line feed
unfoldable pub parted_line : List ℕ → Option (List ℕ × List ℕ)
parted_line [] = None
parted_line (c ∷ cs) = cond (c == feed) (Some ([], cs)) (longer c (parted_line cs))

abbrev pub with_rest : {A : Type 0} → List ℕ → Option A → Option (A × List ℕ)
with_rest rest None = None
with_rest rest (Some a) = Some (a, rest)

abbrev pub parts_as : {A : Type 0} → (List ℕ → Option A) → Option (List ℕ × List ℕ) → Option (A × List ℕ)
parts_as f None = None
parts_as f (Some p) = with_rest p.1 (f p.0)

abbrev pub line_as : {A : Type 0} → (List ℕ → Option A) → List ℕ → Option (A × List ℕ)
line_as f cs = parts_as f (parted_line cs)
