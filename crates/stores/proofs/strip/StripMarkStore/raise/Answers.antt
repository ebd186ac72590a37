-- The cell at the mark is written, and the mark read off the cells is then the one that a raise leaves.
use Rattle.std.proofs.Common.{◌≡◌, ◌≢◌, ℕ, ◌-◌, ◌<◌, Bool, true, false, List, length, set, Ok, Err, ap, refl, arith, nat_lt}
use Rattle.std.proofs.lemmas.List.{length-take}
use Rattle.std.proofs.lemmas.Bool.{ne_eqb}
use Rattle.std.proofs.lemmas.Bool.Decides.{nat_tests}
use Rattle.stores.specs.Store.{Store, store, full, power_failed, raise_case, raised}
use Rattle.stores.specs.Strips.{counted, strip_mark, strip_capacity, used-within}
use Rattle.stores.proofs.Cells.{mark_set, capacity-set}
use Rattle.stores.proofs.strip.StripMarkStore.raise.Goals as goal

-- a raise of s is not refused, and completes as b says
record Goes (s : Store) (b : Bool) : Type 0 where
  on : s.on ≡ true
  more : s.mark ≢ s.capacity
  power : nat_lt 0 s.power ≡ b

goes : (t s : Store) (a b : Bool) → t ≡ s → a ≡ b → Ok a ≡ raise_case t (Err power_failed) (Err full) (Ok true) (Ok false) → Goes s b
goes t s a b e f h =
    rw (← e, ← f) record { on = grind (arith, nat_tests); more = grind (arith, nat_tests); power = grind (arith, nat_tests) }

-- the store of a strip's parts
abbrev strip : List ℕ → ℕ → ℕ → Bool → Store
strip cs p v on = store (strip_mark cs) (strip_capacity cs) p v on

below : (cs : List ℕ) (p v : ℕ) (on b : Bool) → Goes (strip cs p v on) b → strip_mark cs < strip_capacity cs
below cs p v on b g = omega (arith, used-within (counted cs), g.more)

-- no power is left: the leftover byte is written
cut : (cs : List ℕ) (p v : ℕ) (on : Bool) → Goes (strip cs p v on) false → strip (set cs (strip_mark cs) v) p v false ≡ raised (strip cs p v on)
cut cs p v on g =
    let more = ne_eqb (strip_mark cs) (strip_capacity cs) g.more in
    rw (g.on, more, g.power, mark_set cs v (below cs p v on false g), capacity-set cs (strip_mark cs) v) refl

-- power is left: 00 is written
completed : (cs : List ℕ) (p v : ℕ) (on : Bool) → Goes (strip cs p v on) true → strip (set cs (strip_mark cs) 0) (p - 1) v on ≡ raised (strip cs p v on)
completed cs p v on g =
    let more = ne_eqb (strip_mark cs) (strip_capacity cs) g.more in
    rw (g.on, more, g.power, mark_set cs 0 (below cs p v on true g), capacity-set cs (strip_mark cs) 0) refl

-- the cell at the mark that was read is one of the cells
inside : (cs : List ℕ) (m p v : ℕ) (on b : Bool) → m ≡ strip_mark cs → Goes (strip cs p v on) b → m < length cs
inside cs m p v on b e g = omega (arith, below cs p v on b g, length-take 65536 cs)

pub bounds-self-mark : goal.bounds-self-mark
bounds-self-mark c =
    let s = c.args.self.now in
    let mark = ap (λ (t : Store). t.mark) c.reading-now.ensures in
    inside s.cells.now _ s.supply.power s.supply.leftover s.on _ mark (goes _ _ _ _ c.reading-now.ensures refl c.in_ok-completes.ensures)

pub returns-then-branch-clause-after : goal.returns-then-branch-clause-after
returns-then-branch-clause-after c =
    let s = c.args.self.now in
    let mark : c.reading-now.result.mark ≡ strip_mark s.cells.now = ap (λ (t : Store). t.mark) c.reading-now.ensures in
    let goes = goes _ _ _ _ c.reading-now.ensures c.if-branch.true c.in_ok-completes.ensures in
    rw mark (completed s.cells.now s.supply.power s.supply.leftover s.on goes)

pub bounds-self-mark-else-branch : goal.bounds-self-mark-else-branch
bounds-self-mark-else-branch c =
    let s = c.args.self.now in
    let mark = ap (λ (t : Store). t.mark) c.reading-now.ensures in
    inside s.cells.now _ s.supply.power s.supply.leftover s.on _ mark (goes _ _ _ _ c.reading-now.ensures refl c.in_ok-completes.ensures)

pub returns-else-branch-clause-after : goal.returns-else-branch-clause-after
returns-else-branch-clause-after c =
    let s = c.args.self.now in
    let mark : c.reading-now.result.mark ≡ strip_mark s.cells.now = ap (λ (t : Store). t.mark) c.reading-now.ensures in
    let leftover : c.reading-now.result.leftover ≡ s.supply.leftover = ap (λ (t : Store). t.leftover) c.reading-now.ensures in
    let goes = goes _ _ _ _ c.reading-now.ensures c.if-branch.false c.in_ok-completes.ensures in
    rw (mark, leftover) (cut s.cells.now s.supply.power s.supply.leftover s.on goes)
