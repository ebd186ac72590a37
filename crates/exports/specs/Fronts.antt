-- An output put to the front of a buffer that a caller lends. Assumes nothing.
-- fit_count xs room: how many bytes the output xs has, or the largest number where it does not fit.
-- fit_front xs buffer: the buffer with the output at its front, or as it was where that does not fit.
-- Opened xs buffer r after: that, or the number that tells want of memory, and the buffer as it was.
use Rattle.std.specs.Prelude.{◌≡◌, ℕ, ◌-◌, ◌^◌, cond, ◌⊎◌, List, ◌++◌, length, drop, nat_le}

abbrev pub fit_count : List ℕ → ℕ → ℕ
fit_count xs room = cond (nat_le (length xs) room) (length xs) (2 ^ 64 - 1)

abbrev pub fit_front : List ℕ → List ℕ → List ℕ
fit_front xs buffer = cond (nat_le (length xs) (length buffer)) (xs ++ drop (length xs) buffer) buffer

abbrev pub Opened : List ℕ → List ℕ → ℕ → List ℕ → Type 0
Opened xs buffer r after =
    ((r ≡ fit_count xs (length buffer)) × (after ≡ fit_front xs buffer)) ⊎ ((r ≡ 2 ^ 64 - 2) × (after ≡ buffer))
