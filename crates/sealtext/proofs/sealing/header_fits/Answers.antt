-- Two digits are a byte.
use Rattle.std.proofs.Common.{cond, Ok, Err, sym, ap, arith, le-leb}
use borrow.Author.Tests.{lt-leb}
use Rattle.digits.proofs.Hexes.{length-unhex}
use Rattle.method.specs.Limits.{header_limit, header_too_long}
use Rattle.sealtext.proofs.sealing.header_fits.Goals as goal

pub returns-then-header-gt-HEADER_LIMIT : goal.returns-then-header-gt-HEADER_LIMIT
returns-then-header-gt-HEADER_LIMIT c =
    let l = length-unhex c.args.header.now in
    sym (ap (λ b. cond b (Ok tt) (Err header_too_long)) (lt-leb _ header_limit (omega arith)))

pub returns : goal.returns
returns c =
    let l = length-unhex c.args.header.now in
    sym (ap (λ b. cond b (Ok tt) (Err header_too_long)) (le-leb _ header_limit (omega arith)))
