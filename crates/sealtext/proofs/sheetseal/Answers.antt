-- The first bytes of the input are all that is answered.
use Rattle.std.proofs.Common.{length, take, drop, sym, ap, ◌∙◌, arith}
use Rattle.std.proofs.lemmas.List.{length-append, length-drop}
use Rattle.sealtext.proofs.Answered.{fronted, take_min}
use Rattle.sealtext.specs.Texts.{sheetseal_text}
use Rattle.sealtext.proofs.sheetseal.Goals as goal

pub returns : goal.returns
returns c =
    let input = c.args.input.now in
    let k = c.min-end.result in
    let f =
    fronted (sheetseal_text (take 65536 input)) (sheetseal_text (take k input)) c.answer.result c.args.out.now c.answer.new.out
    (ap sheetseal_text (sym (take_min input k 65536 c.min-end.ensures))) c.answer.ensures.count c.answer.ensures.wrote in
    let text = sheetseal_text (take k input) in
    let out = c.args.out.now in
    let long = ap length c.answer.ensures.wrote ∙ length-append text (drop (length text) out) in
    let rest = length-drop (length text) out in
    record { within = omega arith; count = f.count_is; wrote = f.buffer_is }
