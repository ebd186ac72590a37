-- What holds at each zero byte of the padding.
use Rattle.std.proofs.Common.{◌≡◌, ◌-◌, ◌≤◌, replicate}
use Rattle.polyhash.specs.Running.{absorbed}
use Rattle.polyhash.proofs.running.Running.finish.Given as goal

-- the one bit's byte and the zeros before this one are absorbed
abbrev pub invariant-loop : goal.invariant-loop
invariant-loop l = (l.counter - l.fill ≤ 15 - l.fill) × (l.self ≡ absorbed l.initial.self (replicate (l.counter - l.fill) 0))
