-- A turn of the loop is a round more.
use mathlib.Core.Path.{◌≡◌, sym, ap, ◌∙◌}
use Prim.Native.Nat.{ℕ}
use native.Mathlib.Numerals.{add-one}
use native.Mathlib.Omega.{arith}
use lib.ListN.{get_or}
use Rattle.speck.specs.Rounds.{Words, round, rounds}
use Rattle.speck.proofs.Keys.{rounds_none, rounds-more}
use Rattle.speck.proofs.all_rounds.Goals as goal

pub loop-k-init : goal.loop-k-init
loop-k-init c = sym (rounds_none (λ i. get_or c.args.keys.now i 0) (c.args.x, c.args.y))

pub loop-k-preserved : goal.loop-k-preserved
loop-k-preserved c =
    let n = c.loop-k.k-index in
    let w : ℕ → ℕ = λ i. get_or c.args.keys.now i 0 in
    let v : Words = (c.args.x, c.args.y) in
    c.next_words-v.ensures ∙ ap (round (w n)) c.loop-k.invariant ∙ sym (rounds-more n w v) ∙ ap (λ k. rounds k w v) (sym (add-one n))

pub returns : goal.returns
returns c =
    let e : c.loop-k.k-index ≡ 34 = omega arith in
    c.loop-k.invariant ∙ ap (λ k. rounds k (λ i. get_or c.args.keys.now i 0) (c.args.x, c.args.y)) e
