-- The line was read: its length and what stands behind it decide.
use Rattle.std.proofs.Common.{rules, ◌≡◌, Some, length, sym, ap, ◌∙◌, arith}
use Rattle.std.proofs.lemmas.Bool.{eqb-true, eqb-false}
use Rattle.digits.proofs.Hexes.{length-unhex}
use Rattle.digits.specs.Digits.{digits_bytes}
use Rattle.digits.specs.Hex.{unhex}
use Rattle.inputlines.specs.Lines.{line_as}
use Rattle.sealtext.proofs.Ends.{message_long, more_behind, none_behind}
use Rattle.sealtext.specs.Inputs.{at_message}
use Rattle.sealtext.proofs.lines.last_line.Goals as goal

pub returns-then-message-gt-LONGEST_MESSAGE-clause-told : goal.returns-then-message-gt-LONGEST_MESSAGE-clause-told
returns-then-message-gt-LONGEST_MESSAGE-clause-told c =
    let m = c.in_ok-message.message.now in
    let long = length-unhex m in
    let read : line_as digits_bytes c.args.text.now ≡ Some (unhex m, c.in_ok-message.rest.now) = search rules in
    ap at_message read ∙ message_long (unhex m) c.in_ok-message.rest.now (omega arith)

pub returns-then-not-is_empty-clause-told : goal.returns-then-not-is_empty-clause-told
returns-then-not-is_empty-clause-told c =
    let m = c.in_ok-message.message.now in
    let rest = c.in_ok-message.rest.now in
    let long = length-unhex m in
    let read : line_as digits_bytes c.args.text.now ≡ Some (unhex m, rest) = search rules in
    ap at_message read ∙ more_behind (unhex m) rest (omega arith) (eqb-false (length rest) 0 (sym c.if-not-is_empty.ensures))

pub returns-clause-told : goal.returns-clause-told
returns-clause-told c =
    let m = c.in_ok-message.message.now in
    let rest = c.in_ok-message.rest.now in
    let long = length-unhex m in
    let read : line_as digits_bytes c.args.text.now ≡ Some (unhex m, rest) = search rules in
    ap at_message read ∙ none_behind (unhex m) rest (omega arith) (eqb-true (length rest) 0 (sym c.if-not-is_empty.ensures))

pub returns-clause-small : goal.returns-clause-small
returns-clause-small c = let long = length-unhex c.in_ok-message.message.now in omega arith
