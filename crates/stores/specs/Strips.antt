-- The strip as a mark store: its cells are bytes, and the mark is read off them. Assumes nothing.
-- counted cs: the cells that count.
-- used cs: the number of cells up to the last one that is not ff.
-- strip_mark cs, strip_capacity cs: the mark and the capacity of a strip of these cells.
-- raised_cells cs on p v: the cells after a raise.
-- strip-lawful s: the mark of a strip is within its capacity.
use Rattle.std.proofs.Common.{arith, length-take}
use Rattle.std.specs.Prelude.{ℕ, suc, ◌+◌, ◌≤◌, Bool, true, false, cond, List, [], ◌∷◌, length, take, ◌==◌, nat_lt, slice_set}
use Rattle.stores.specs.Store.{Store, store, Lawful}
use Rattle.stores.specs.declared.strip.Strip.{Strip}

-- the first 65,536 cells
abbrev pub counted : List ℕ → List ℕ
counted cs = take 65536 cs

-- 0 where every cell is ff
abbrev pub used : List ℕ → ℕ
used [] = 0
used (x ∷ xs) = cond (nat_lt 0 (used xs)) (used xs + 1) (cond (x == 255) 0 1)

abbrev pub strip_mark : List ℕ → ℕ
strip_mark cs = used (counted cs)

abbrev pub strip_capacity : List ℕ → ℕ
strip_capacity cs = length (counted cs)

abbrev pub strip_cells : Strip → List ℕ
strip_cells s = s.cells.now

abbrev pub strip_store : Strip → Store
strip_store s = store (strip_mark (strip_cells s)) (strip_capacity (strip_cells s)) s.supply.power s.supply.leftover s.on

-- a raise writes one cell, the one at the mark: 00 where it completes, the leftover byte where the power fails in it.
-- It writes none where the strip is off or full. No other cell changes, counted or not.
abbrev pub raised_cells : List ℕ → Bool → ℕ → ℕ → List ℕ
raised_cells cs on p v = cond on (cond (strip_mark cs == strip_capacity cs) cs (slice_set cs (strip_mark cs) (cond (nat_lt 0 p) 0 v))) cs

pub used-within : (cs : List ℕ) → used cs ≤ length cs
used-within [] = omega arith
used-within (x ∷ xs) = go (nat_lt 0 (used xs)) (x == 255) (used-within xs)
  where
    go : (a b : Bool) → used xs ≤ length xs → cond a (used xs + 1) (cond b 0 1) ≤ suc (length xs)
    go true b h = omega arith
    go false true h = omega arith
    go false false h = omega arith

pub strip-lawful : (s : Strip) → Lawful (strip_store s)
strip-lawful s = record { within = used-within (counted (strip_cells s)); small = omega (arith, length-take 65536 (strip_cells s)) }
