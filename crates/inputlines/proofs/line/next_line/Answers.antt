-- The first line feed ends the line; without one there is no line.
use Rattle.std.proofs.Common.{rules, ◌≡◌, ◌≢◌, ◌+◌, take, Some, sym, ap, ◌∙◌, arith}
use Rattle.std.proofs.lemmas.Iterator.{IsFirst-from_position, YieldsList-from_slice}
use Rattle.std.proofs.lemmas.List.{take_rest}
use borrow.Author.Tests.{tests}
use Rattle.inputlines.specs.Lines.{feed}
use Rattle.inputlines.proofs.Feeds.{parted_none, parted-at}
use Rattle.inputlines.proofs.line.next_line.Goals as goal

pub returns-in_err-end : goal.returns-in_err-end
returns-in_err-end c =
    let h = IsFirst-from_position _ _ c.position.result (λ x. x ≡ feed) (λ x. x ≢ feed) c.position.ensures.ran (YieldsList-from_slice c.args.text.now cc) (λ x q k. search (rules, tests)) (λ x q k. search (rules, tests)) in
    let none = rw c.in_err-end.was at h in
    rw c.from_residual.ensures (parted_none c.args.text.now (λ i l. none i 0 (omega arith) l))

pub returns : goal.returns
returns c =
    let text = c.args.text.now in
    let i = c.in_ok-end.end in
    let h = IsFirst-from_position _ _ _ (λ x. x ≡ feed) (λ x. x ≢ feed) c.in_ok-end.ensures.ran (YieldsList-from_slice text cc) (λ x q k. search (rules, tests)) (λ x q k. search (rules, tests)) in
    parted-at text i h.0 (λ j l. h.2 j 0 (omega arith) l) (h.1 0) ∙ ap (λ rest. Some (take i text, rest)) (sym (take_rest text (i + 1)))
