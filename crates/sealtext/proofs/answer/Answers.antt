-- A bad line is told, a refusal is told, or the lines stand there.
use Rattle.std.proofs.Common.{Err, codes, sym, ap, ◌∙◌}
use Rattle.sealtext.proofs.Answered.{bad_text, fronted, lines_fronted, refusal_fronted}
use Rattle.sealtext.specs.Inputs.{lines_told}
use Rattle.sealtext.specs.Seals.{fault_told}
use Rattle.sealtext.specs.Texts.{told_line, sheetseal_text}
use Rattle.sealtext.proofs.answer.Goals as goal

pub returns-in-Err : goal.returns-in-Err
returns-in-Err c =
    let text = c.args.text.now in
    let n = c.number.result in
    let p = c.put_told in
    let f =
    fronted (sheetseal_text text) (told_line (codes "bad line ") n) p.result c.args.out.now p.new.out
    (bad_text text n (c.in-Err.ensures.told ∙ ap Err (sym c.number.ensures.told))) p.ensures.count p.ensures.wrote in
    record { count = f.count_is; wrote = f.buffer_is }

pub returns-in-Err-seal : goal.returns-in-Err-seal
returns-in-Err-seal c =
    let s = c.in-Err-seal.ensures in
    let p = c.put_told-in-Err-seal in
    let f =
    refusal_fronted c.args.text.now (lines_told c.in-Ok.lines) (fault_told c.in-Err-seal.fault) c.number-in-Err-seal.result p.result
    c.args.out.now c.seal.new.out p.new.out c.in-Ok.ensures.told s.answer s.wrote c.number-in-Err-seal.ensures
    p.ensures.count p.ensures.wrote in
    record { count = f.count_is; wrote = f.buffer_is }

pub returns-in-Ok-seal : goal.returns-in-Ok-seal
returns-in-Ok-seal c =
    let s = c.in-Ok-seal.ensures in
    let f =
    lines_fronted c.args.text.now (lines_told c.in-Ok.lines) c.in-Ok-seal.count c.args.out.now c.seal.new.out
    c.in-Ok.ensures.told s.answer s.wrote in
    record { count = f.count_is; wrote = f.buffer_is }
