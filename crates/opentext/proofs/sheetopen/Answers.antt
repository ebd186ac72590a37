-- What the first two lines tell is opened, or the bad one is told.
use Rattle.std.proofs.Common.{[], codes, sym, ap}
use Rattle.inputlines.specs.Faults.{line_number}
use Rattle.inputlines.specs.Openings.{opening_told}
use Rattle.opentext.proofs.Told.{told_as}
use Rattle.opentext.specs.Texts.{told_line, named_text, input_text, sheetopen_text}
use Rattle.opentext.proofs.sheetopen.Goals as goal

pub returns-in-Ok : goal.returns-in-Ok
unfolding sheetopen_text
returns-in-Ok c =
    told_as c.open_named.result (named_text (opening_told c.in-Ok.opening)) (sheetopen_text c.args.input.now)
    (ap input_text (sym c.in-Ok.ensures)) c.open_named.ensures

pub returns-in-Err : goal.returns-in-Err
unfolding sheetopen_text
returns-in-Err c =
    told_as c.bad_line.result (told_line (codes "bad line ") (line_number c.in-Err.line) []) (sheetopen_text c.args.input.now)
    (ap input_text (sym c.in-Err.ensures)) c.bad_line.ensures
