-- A turn adds one buffer.
use Rattle.std.proofs.Common.{take, vec_items, arith}
use Rattle.std.proofs.lemmas.List.{take_more, take_all}
use Rattle.std.proofs.lemmas.Slice.Zip.{all_zipped_more}
use Rattle.history.specs.Runs.{asked}
use Rattle.history.specs.Slots.{RoomFor}
use Rattle.history.specs.declared.Call.TheVariants.{Begin}
use Rattle.history.proofs.calls.buffers.Goals as goal

pub loop-call-preserved : goal.loop-call-preserved
loop-call-preserved c =
    let calls = c.args.calls.now in
    let n = c.loop-call.call-index in (
      omega arith,
      omega arith,
      rw (c.push_reserved.ensures.items, take_more calls n (Begin 0) c.loop-call-test.true)
          (all_zipped_more (λ k o. RoomFor (asked k) o) (take n calls) (vec_items c.loop-call.all) _ _ c.loop-call.invariant.2 c.in_ok-buffer_for.ensures),
    )

pub returns : goal.returns
returns c = rw (← take_all c.loop-call.call-index c.args.calls.now (omega arith)) c.loop-call.invariant.2
