use Rattle.std.proofs.Common.{◌≡◌, ◌+◌, ◌-◌, ◌*◌, length, take, drop, ap, ◌∙◌, arith}
use Rattle.std.proofs.lemmas.List.{drop-drop, length-drop, take_all, places}
use Rattle.sheetlines.specs.Sheets.{header_at, cipher_at}
use Rattle.sheetopener.proofs.Placed.{placed}
use Rattle.sheetopener.proofs.read.ReadSheet.header_and_body.Goals as goal

pub slice_bounds-split_line-count : goal.slice_bounds-split_line-count
slice_bounds-split_line-count c = let p = placed c.args.self.now.text.now c.args.self.now.fields c.args.self.now.read in omega arith

pub slice_bounds-split_line-start : goal.slice_bounds-split_line-start
slice_bounds-split_line-start c = let p = placed c.args.self.now.text.now c.args.self.now.fields c.args.self.now.read in omega arith

pub split_line-requires : goal.split_line-requires
split_line-requires c = let p = placed c.args.self.now.text.now c.args.self.now.fields c.args.self.now.read in grind (arith, places)

pub returns : goal.returns
returns c =
    let text = c.args.self.now.text.now in
    let h = c.args.self.now.fields.header_len in
    let l = length-drop header_at text in
    let all = take_all (length text - header_at) (drop header_at text) (omega arith) in
    let at : header_at + (2 * h + 1) ≡ cipher_at c.args.self.now.fields = omega arith in
    record {
      header = c.split_line.ensures.digits ∙ ap (take (2 * h)) all;
      body = c.split_line.ensures.others ∙ ap (drop (2 * h + 1)) all ∙ drop-drop (2 * h + 1) header_at text ∙ ap (λ k. drop k text) at;
    }
