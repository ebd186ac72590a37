-- A turn puts the two digits of one byte more.
use Rattle.std.proofs.Common.{◌≡◌, ℕ, ◌+◌, ◌-◌, ◌*◌, List, ◌++◌, length, take, set, sym, ap, ◌∙◌, arith}
use Rattle.std.proofs.lemmas.List.{take_all, length-take-le}
use borrow.Rule.Slice.PartMut.{put_mid}
use Rattle.digits.specs.Hex.{hex}
use Rattle.digits.proofs.Hexes.{length-hex, hex-more}
use Rattle.sheetlines.specs.Lines.{feed}
use Rattle.sheetwriter.specs.Puts.{put}
use Rattle.sheetwriter.proofs.Puts.{put-put, put_one, put_part}
use Rattle.sheetwriter.proofs.lines.put_line.Goals as goal

pub loop-byte-preserved : goal.loop-byte-preserved
loop-byte-preserved c =
    let d = c.args.out.now in
    let bs = c.args.bytes.now in
    let at = c.args.at in
    let i = c.loop-byte.byte-index in
    let end = c.loop-byte.end in
    let so_far = hex (take i bs) in
    let pair = c.digits_of.result in
    let l : length so_far ≡ 2 * i = length-hex (take i bs) ∙ ap (λ n. 2 * n) (length-take-le i bs (omega arith)) in
    let lp = ap length c.digits_of.ensures in (
      ap (put_mid end (end + 2 - end) c.loop-byte.out) c.copy_from_slice.ensures.after
          ∙ put_part c.loop-byte.out pair end (end + 2 - end) (omega arith)
          ∙ ap (λ (y : List ℕ). put y end pair) c.loop-byte.invariant.0
          ∙ put-put d at end so_far pair (omega arith) (omega arith)
          ∙ ap (λ (y : List ℕ). put d at (so_far ++ y)) c.digits_of.ensures
          ∙ ap (put d at) (sym (hex-more bs i (omega arith))),
      omega arith,
    )

pub returns-clause-wrote : goal.returns-clause-wrote
returns-clause-wrote c =
    let d = c.args.out.now in
    let bs = c.args.bytes.now in
    let at = c.args.at in
    let end = c.loop-byte.end in
    let all : hex (take c.loop-byte.byte-index bs) ≡ hex bs = ap hex (take_all c.loop-byte.byte-index bs (omega arith)) in
    let l = length-hex bs in
    ap (λ (y : List ℕ). set y end feed) (c.loop-byte.invariant.0 ∙ ap (put d at) all)
    ∙ put_one d at end (hex bs) feed (omega arith) (omega arith)
