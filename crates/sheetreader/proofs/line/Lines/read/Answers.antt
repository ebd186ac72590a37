-- What stands after the digits decides.
use Rattle.std.proofs.Common.{inl, inr, arith}
use Rattle.sheetreader.proofs.Steps.{digits_few, text_ends, early_feed, no_digit, last-feed, last_other}
use Rattle.sheetreader.proofs.line.Lines.read.Goals as goal

pub overflow_add-here : goal.overflow_add-here
overflow_add-here c = omega (arith, digits_few c.args.count c.digits_in_front-digits.result c.args.self.now.rest.now c.digits_in_front-digits.ensures)

pub returns-in_default-clause-fault : goal.returns-in_default-clause-fault
returns-in_default-clause-fault c =
    let s = c.args.self.now in
    let d = c.digits_in_front-digits in
    text_ends s.line c.args.count d.result s.rest.now d.ensures c.in_default.ensures.lookup.3

pub returns-then-digits-count-clause-fault : goal.returns-then-digits-count-clause-fault
returns-then-digits-count-clause-fault c =
    let s = c.args.self.now in
    let d = c.digits_in_front-digits in
    let h = c.in-Some.ensures.lookup.3 in
    no_digit s.line c.args.count d.result s.rest.now d.ensures c.in-Some.field-0.now h.0 (h.1 0) (omega arith) c.if-byte-ne-LINE_FEED.true

pub returns-then-byte-ne-LINE_FEED-2-clause-fault : goal.returns-then-byte-ne-LINE_FEED-2-clause-fault
returns-then-byte-ne-LINE_FEED-2-clause-fault c =
    let s = c.args.self.now in
    let d = c.digits_in_front-digits in
    let h = c.in-Some.ensures.lookup.3 in
    elim c.else-byte-ne-LINE_FEED.either [
      | inl p ↦ last_other s.line c.args.count d.result s.rest.now d.ensures c.in-Some.field-0.now h.0 (h.1 0) p.1 p.0
      | inr e ↦ early_feed s.line c.args.count d.result s.rest.now d.ensures c.in-Some.field-0.now h.0 (h.1 0)
          (elim c.then-byte-ne-LINE_FEED-2.either [ inl f ↦ absurd (f e) | inr q ↦ q.1 ]) e
    ]

pub returns-clause-fault : goal.returns-clause-fault
returns-clause-fault c =
    let s = c.args.self.now in
    let d = c.digits_in_front-digits in
    let h = c.in-Some.ensures.lookup.3 in
    last-feed s.line c.args.count d.result s.rest.now d.ensures c.in-Some.field-0.now h.0 (h.1 0) (omega arith) (omega arith)
