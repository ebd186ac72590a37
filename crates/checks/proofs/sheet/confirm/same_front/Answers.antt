-- The or of the xors is zero where all bytes are the same.
use Rattle.std.proofs.Common.{◌≡◌, length, sym, ◌∙◌, arith}
use Rattle.std.proofs.lemmas.List.{take_all}
use Rattle.std.proofs.lemmas.Bool.{eq-eqb, eqb-true}
use Rattle.checks.proofs.Gaps.{gap_more}
use Rattle.checks.proofs.sheet.confirm.same_front.Goals as goal

pub loop-k-preserved : goal.loop-k-preserved
loop-k-preserved c = gap_more c.args.full.now c.args.tag.now c.loop-k.k c.loop-k.gap (omega arith) (omega arith) c.loop-k.invariant

pub returns : goal.returns
returns c =
    let T = c.args.tag.now in
    let F = c.args.full.now in
    let e : c.loop-k.k ≡ length T = omega arith in
    let all = take_all (length T) T (omega arith) in
    let i = rw e at c.loop-k.invariant in (
      (λ r. i.0 (eqb-true c.loop-k.gap 0 r) ∙ all),
      (λ s. eq-eqb c.loop-k.gap 0 (i.1 (s ∙ sym all))),
    )
