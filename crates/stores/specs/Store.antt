-- What a mark store means, and what a raise and a restart make of it. Assumes nothing.
-- Store: the five things that a mark store means.
-- raise_told: what each fault of a raise tells.
-- raise_case s a b c d: the one of four that is the case when s is raised.
-- raise_answer s, raised s: what a raise of s answers, and the store that it leaves.
-- completed s, cut s: the store that a raise leaves where it completes, and where the power fails in it.
-- restarted s p v: the store after a restart with power p and leftover v.
-- Lawful s: what is true of every mark store.
use Rattle.std.specs.Prelude.{ℕ, ◌+◌, ◌-◌, ◌^◌, ◌≤◌, Bool, true, false, cond, [], Ok, Err, ◌==◌, nat_lt}
use Rattle.refusals.specs.Answers.{Told, Answer}
use Rattle.stores.specs.declared.fault.RaiseFault.{RaiseFault}
use Rattle.stores.specs.declared.fault.RaiseFault.TheVariants.{Full, PowerFailed}

-- the mark; how far it can rise; how many more raises will complete; the byte that a cut leaves in a cell; whether it is on
pub record Store : Type 0 where
  pub mark : ℕ
  pub capacity : ℕ
  pub power : ℕ
  pub leftover : ℕ
  pub on : Bool

abbrev pub store : ℕ → ℕ → ℕ → ℕ → Bool → Store
store m k p v o = record { mark = m; capacity = k; power = p; leftover = v; on = o }

-- refusal 22: the store is full
abbrev pub full : Told
full = (22, [])

-- refusal 23: the power failed
abbrev pub power_failed : Told
power_failed = (23, [])

abbrev pub raise_told : RaiseFault → Told
raise_told Full = full
raise_told PowerFailed = power_failed

-- the first that fits: off; the mark at the capacity; power left; no power left
abbrev pub raise_case : {A : Type 0} → Store → A → A → A → A → A
raise_case s off at_end completes fails = cond s.on (cond (s.mark == s.capacity) at_end (cond (nat_lt 0 s.power) completes fails)) off

abbrev pub raise_answer : Store → Answer ℕ
raise_answer s = raise_case s (Err power_failed) (Err full) (Ok s.mark) (Err power_failed)

-- a raise that completes uses power, and the mark is one more
abbrev pub completed : Store → Store
completed s = store (s.mark + 1) s.capacity (s.power - 1) s.leftover true

-- the mark after a cut: the byte ff is what a cell holds that was never written, so it leaves the mark
abbrev pub cut_mark : ℕ → ℕ → ℕ
cut_mark m v = cond (v == 255) m (m + 1)

-- a raise that the power fails in puts the store off
abbrev pub cut : Store → Store
cut s = store (cut_mark s.mark s.leftover) s.capacity s.power s.leftover false

abbrev pub raised : Store → Store
raised s = raise_case s s s (completed s) (cut s)

abbrev pub restarted : Store → ℕ → ℕ → Store
restarted s p v = store s.mark s.capacity p v true

-- the mark never passes the capacity, which is at most 2^53
pub record Lawful (s : Store) : Type 0 where
  pub within : s.mark ≤ s.capacity
  pub small : s.capacity ≤ 2 ^ 53
