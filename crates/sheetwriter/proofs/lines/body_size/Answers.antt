-- There are as many widths as lines.
use Rattle.std.proofs.Common.{length, inl, ap, arith}
use Rattle.std.proofs.lemmas.Iterator.Consumers.{YieldsList-from_first, count_from_yields_List}
use Rattle.sheetlines.specs.Sheets.{frames_of}
use Rattle.sheetlines.proofs.Widths.{size_frames_of}
use Rattle.sheetwriter.proofs.lines.body_size.Goals as goal

pub count-requires-clause-fits : goal.count-requires-clause-fits
count-requires-clause-fits c =
    let s = size_frames_of c.args.message_len in
    let l = ap length c.of.ensures in
    inl (omega arith)

pub overflow_add-result : goal.overflow_add-result
overflow_add-result c =
    let s = size_frames_of c.args.message_len in
    let n = count_from_yields_List c.of.result c.count.result c.count.ensures.ran (YieldsList-from_first (λ x. x) (λ rest. rest) (frames_of c.args.message_len) c.of.ensures) in
    omega arith

pub returns : goal.returns
returns c =
    let s = size_frames_of c.args.message_len in
    let n = count_from_yields_List c.of.result c.count.result c.count.ensures.ran (YieldsList-from_first (λ x. x) (λ rest. rest) (frames_of c.args.message_len) c.of.ensures) in
    record { size = omega arith; small = omega arith }
