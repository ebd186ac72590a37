-- A turn takes one line more.
use Rattle.std.proofs.Common.{◌≡◌, ℕ, ◌+◌, ◌-◌, ◌*◌, List, ◌++◌, length, take, drop, sym, ap, ◌∙◌, append_assoc, arith}
use Rattle.std.proofs.lemmas.List.{length-drop}
use Rattle.std.proofs.lemmas.Slice.{take-put_mid}
use Rattle.digits.specs.Hex.{unhex}
use Rattle.sheetlines.proofs.Widths.{total, total_frames_of}
use Rattle.sheetlines.specs.Lines.{lines_size, bytes_in}
use Rattle.sheetlines.specs.Sheets.{frames_of}
use Rattle.sheetopener.proofs.Bodies.{line_decoded, length-told}
use Rattle.sheetopener.proofs.body.take_body.Goals as goal

pub loop-width-init : goal.loop-width-init
loop-width-init c =
    let text = c.args.text.now in
    let m = length c.args.out.now in
    let is : c.into_iter-width-iterator.result ≡ frames_of m = c.into_iter-width-iterator.ensures.into_iter_gives ∙ c.of-width-items.ensures in
    record {
      finite = tt;
      told = ap (λ (ws : List ℕ). bytes_in ws text) is;
      within = omega (arith, ap lines_size is, c.requires);
      left = omega (arith, ap total is, total_frames_of m);
    }

pub loop-width-preserved : goal.loop-width-preserved
loop-width-preserved c =
    let before = c.loop-width.invariant in
    let out = c.loop-width.out in
    let done = c.loop-width.done in
    let text = c.loop-width.rest.now in
    let w = c.in-Some.width in
    let ws = c.next.new.self in
    let is = c.in-Some.ensures.steps in
    let size = ap lines_size is in
    let sum = ap total is in
    let line = unhex (take (2 * w) text) in
    let told : c.decode.new.out ≡ line =
    line_decoded w text _ (take (done + w - done) (drop done out)) _ c.decode.ensures c.split_line.ensures.digits (omega arith) (omega arith) in
    let long : length c.decode.new.out ≡ w = ap length told ∙ length-told w text (omega arith) in
    let others = c.split_line.ensures.others in
    let fewer = ap length others ∙ length-drop (2 * w + 1) text in
    let front = take-put_mid done (done + w - done) out c.decode.new.out (done + w) (omega arith) (omega arith) in
    record {
      finite = tt;
      told = (λ i. front i ++ bytes_in ws (others i))
          ∙ ap (λ (xs : List ℕ). (take done out ++ xs) ++ bytes_in ws (drop (2 * w + 1) text)) told
          ∙ append_assoc (take done out) line (bytes_in ws (drop (2 * w + 1) text))
          ∙ ap (λ (vs : List ℕ). take done out ++ bytes_in vs text) (sym is) ∙ before.told;
      within = omega arith;
      left = omega arith;
    }
