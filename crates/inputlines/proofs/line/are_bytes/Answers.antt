-- Digits alone are bytes where their number is even; another character stops them.
use Rattle.std.proofs.Common.{rules, ◌≡◌, true, false, arith}
use Rattle.std.proofs.lemmas.Iterator.{cases_from_all, YieldsList-from_slice}
use borrow.Author.Tests.{tests}
use Rattle.digits.specs.Hex.{is_digit}
use Rattle.digits.proofs.Pairs.{bytes_odd}
use Rattle.inputlines.proofs.Digital.{digits_told}
use Rattle.inputlines.proofs.line.are_bytes.Goals as goal

pub returns-then-text-eq0 : goal.returns-then-text-eq0
returns-then-text-eq0 c =
    digits_told c.args.text.now c.all.result c.if-text-eq0.true
    (cases_from_all _ _ _ (λ x. is_digit x ≡ true) (λ x. is_digit x ≡ false) c.all.ensures.ran (YieldsList-from_slice c.args.text.now cc) (λ x q k. search (rules, tests)) (λ x q k. search (rules, tests)))

pub returns-else-text-eq0 : goal.returns-else-text-eq0
returns-else-text-eq0 c = rw (bytes_odd c.args.text.now (omega arith)) (grind (arith, tests))
