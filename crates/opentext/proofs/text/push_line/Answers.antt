-- A turn appends the digits of a byte.
use Rattle.std.proofs.Common.{vec_items, arith}
use Rattle.opentext.proofs.Lines.{digits_more, line_ends}
use Rattle.opentext.proofs.text.push_line.Goals as goal

pub loop-byte-preserved : goal.loop-byte-preserved
loop-byte-preserved c =
    digits_more (vec_items c.args.out.now) (vec_items c.loop-byte.out) c.digits_of.result (vec_items c.extend_from_slice.new.self)
    c.args.bytes.now c.loop-byte.byte-index (omega arith) c.loop-byte.invariant c.digits_of.ensures
    c.in_ok-extend_from_slice.ensures.items

pub returns : goal.returns
returns c =
    line_ends (vec_items c.args.out.now) (vec_items c.loop-byte.out) (vec_items c.push.new.self) c.args.bytes.now
    c.loop-byte.byte-index (omega arith) c.loop-byte.invariant c.in_ok-push.ensures.items
