-- Each call so far has its buffer, and there is space for the others.
use Rattle.std.proofs.Common.{◌≡◌, ◌≤◌, length, take, vec_items, vec_len, vec_capacity}
use Rattle.std.specs.List.{AllZip}
use Rattle.history.specs.Runs.{asked}
use Rattle.history.specs.Slots.{RoomFor}
use Rattle.history.proofs.calls.buffers.Given as goal

abbrev pub invariant-loop-call : goal.invariant-loop-call
invariant-loop-call l =
    (vec_len l.all ≡ l.call-index) × (length l.calls ≤ vec_capacity l.all)
    × AllZip (λ c o. RoomFor (asked c) o) (take l.call-index l.calls) (vec_items l.all)
