-- A turn puts one line more.
use Rattle.std.proofs.Common.{◌≡◌, ◌+◌, length, List, ℕ, sym, ap, ◌∙◌, arith}
use Rattle.sheetlines.specs.Lines.{lines_size}
use Rattle.sheetlines.specs.Sheets.{frames_of, body_lines}
use Rattle.sheetlines.proofs.Widths.{total, total_frames_of}
use Rattle.sheetwriter.specs.Puts.{put}
use Rattle.sheetwriter.proofs.Bodies.{body_more}
use Rattle.sheetwriter.proofs.lines.put_body.Goals as goal

pub loop-width-init : goal.loop-width-init
loop-width-init c =
    let cs = c.args.ciphertext.now in
    let e : c.into_iter-width-iterator.result ≡ frames_of (length cs) = c.into_iter-width-iterator.ensures.into_iter_gives ∙ c.of-width-items.ensures in
    record {
      finite = tt;
      wrote = ap (λ (ws : List ℕ). put c.args.out.now c.args.start (body_lines ws cs)) e;
      next = ap (λ ws. c.args.start + lines_size ws) e;
      left = ap total e ∙ total_frames_of (length cs);
    }

pub loop-width-preserved : goal.loop-width-preserved
loop-width-preserved c =
    let before = c.loop-width.invariant in
    let is = c.in-Some.ensures.steps in
    let part = c.split_at.result.0.now in
    let l : length part ≡ c.in-Some.width = c.split_at.ensures.front_len in
    let t = ap total is in
    let s = ap lines_size is in
    record {
      finite = tt;
      wrote = body_more c.loop-width.out c.put_line-at.new.out c.loop-width.at c.put_line-at.result c.in-Some.width c.next.new.self
          c.loop-width.rest.now part c.split_at.result.1.now c.split_at.ensures.front c.split_at.ensures.back
          c.put_line-at.ensures.wrote c.put_line-at.ensures.next (omega arith)
          ∙ ap (λ (ws : List ℕ). put c.loop-width.out c.loop-width.at (body_lines ws c.loop-width.rest.now)) (sym is) ∙ before.wrote;
      next = omega arith;
      left = omega arith;
    }
