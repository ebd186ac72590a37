-- A buffer of zeros of the length that the body asks for.
use Rattle.std.proofs.Common.{Some, sym, refl, subst}
use Rattle.history.specs.Runs.{asked}
use Rattle.history.specs.Slots.{RoomFor}
use Rattle.history.specs.declared.Call.{Call}
use Rattle.history.proofs.calls.buffer_for.Goals as goal

pub returns-in_ok-vec-in-Body : goal.returns-in_ok-vec-in-Body
returns-in_ok-vec-in-Body c =
    let out = c.in_ok-vec-in-Body.field-0 in
    subst (λ (k : Call). RoomFor (asked k) (Some out)) (sym c.in-Body.is) (out, refl, c.in_ok-vec-in-Body.ensures.len)
