-- Bytes put into a buffer. Assumes nothing.
use Rattle.std.specs.Prelude.{ℕ, ◌+◌, List, ◌++◌, length, take, drop}

-- the buffer d with s from place p on
abbrev pub put : List ℕ → ℕ → List ℕ → List ℕ
put d p s = take p d ++ (s ++ drop (p + length s) d)
