-- A turn absorbs one line more.
use Rattle.std.proofs.Common.{◌≡◌, ℕ, ◌+◌, ◌*◌, List, length, take, drop, sym, ap, ◌∙◌, subst, arith, rules}
use Rattle.std.proofs.lemmas.List.{places, length-drop, length-take-le}
use Rattle.digits.specs.Hex.{unhex}
use Rattle.polyhash.proofs.Runs.{laws}
use Rattle.polyhash.specs.Hash.{hash}
use Rattle.polyhash.specs.Running.{started, absorbed}
use Rattle.polyhash.specs.declared.running.Running.{Running}
use Rattle.sheetlines.proofs.Widths.{Narrow, narrow_frames_of}
use Rattle.sheetlines.specs.Lines.{lines_size, bytes_in}
use Rattle.sheetlines.specs.Sheets.{frames_of}
use Rattle.sheetopener.proofs.Bodies.{line_decoded, length-told, told_bytes, absorbed_none}
use Rattle.sheetopener.proofs.body.hash_body.Goals as goal

pub loop-width-init : goal.loop-width-init
loop-width-init c =
    let text = c.args.text.now in
    let is : c.into_iter-width-iterator.result ≡ frames_of c.args.message_len = c.into_iter-width-iterator.ensures.into_iter_gives ∙ c.of-width-items.ensures in
    record {
      finite = tt;
      hashed = (λ i. absorbed (c.new-running.ensures i) (bytes_in (is i) text));
      within = omega (arith, ap lines_size is, c.requires);
      narrow = subst Narrow (sym is) (narrow_frames_of c.args.message_len);
      line = omega arith;
    }

pub loop-width-preserved : goal.loop-width-preserved
loop-width-preserved c =
    let before = c.loop-width.invariant in
    let running = c.loop-width.running in
    let text = c.loop-width.rest.now in
    let w = c.in-Some.width in
    let ws = c.next.new.self in
    let is = c.in-Some.ensures.steps in
    let size = ap lines_size is in
    let narrow = subst Narrow is before.narrow in
    let wide = length-take-le w c.loop-width.line (omega arith) in
    let told : c.decode.new.out ≡ unhex (take (2 * w) text) =
    line_decoded w text _ (take w c.loop-width.line) _ c.decode.ensures c.split_line.ensures.digits (omega arith) (omega arith) in
    let long : length c.decode.new.out ≡ w = ap length told ∙ length-told w text (omega arith) in
    let others = c.split_line.ensures.others in
    let fewer = ap length others ∙ length-drop (2 * w + 1) text in
    record {
      finite = tt;
      hashed = ap (λ (xs : List ℕ). absorbed c.absorb.new.self (bytes_in ws xs)) others
          ∙ ap (λ (s : Running). absorbed s (bytes_in ws (drop (2 * w + 1) text))) (c.absorb.ensures.value ∙ ap (absorbed running) told)
          ∙ c.absorb.ensures.laws.pieces running (unhex (take (2 * w) text)) (bytes_in ws (drop (2 * w + 1) text))
          ∙ ap (λ (vs : List ℕ). absorbed running (bytes_in vs text)) (sym is) ∙ before.hashed;
      within = omega arith;
      narrow = narrow.1;
      line = search (rules, places);
    }

pub returns : goal.returns
returns c =
    let text = c.args.text.now in
    let all = bytes_in (frames_of c.args.message_len) text in
    let running = c.loop-width.running in
    let whole : running ≡ absorbed (started c.args.key) all =
    absorbed_none running
    ∙ ap (λ (vs : List ℕ). absorbed running (bytes_in vs c.loop-width.rest.now)) (sym c.in-None.ensures.steps.0) ∙ c.loop-width.invariant.hashed in
    let keyed : running.key ≡ c.args.key = ap (λ (s : Running). s.key) whole ∙ laws.keyed (started c.args.key) all in
    c.finish.ensures.whole all (told_bytes (frames_of c.args.message_len) text) (whole ∙ ap (λ k. absorbed (started k) all) (sym keyed))
    ∙ ap (λ k. hash k all) keyed
