-- A turn puts one round key more in place.
use Rattle.std.proofs.Common.{refl, arith, length-set}
use Rattle.aes.proofs.Agree.{expanded_image}
use Rattle.aes.proofs.Begun.{begun_none, begun_more}
use Rattle.aes.proofs.keys.expand.Goals as goal

pub loop-i-init : goal.loop-i-init
loop-i-init c = (refl, λ key e. begun_none key _ _ refl e)

pub loop-i-preserved : goal.loop-i-preserved
loop-i-preserved c =
    let p = c.loop-i in (
      simp length-set p.invariant.0,
      λ key e. begun_more key p.i p.k _ p.keys (omega arith) (p.invariant.1 key e) c.next_round_key-columns.ensures,
    )

pub returns : goal.returns
returns c =
    let p = c.loop-i in
    expanded_image c.args.key p.keys (λ i h. (p.invariant.1 c.args.key c.from_block.ensures).so_far i (omega arith))
