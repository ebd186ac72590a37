-- A turn takes the first of the widths, so that one fewer is left.
use Rattle.std.proofs.Common.{length, sym, ap, ◌∙◌, arith, rules}
use Rattle.sheetlines.proofs.Widths.{frames-more}
use Rattle.sheetlines.proofs.frames.FramesIterator.next.Goals as goal

pub returns-clause-steps : goal.returns-clause-steps
returns-clause-steps c =
    sym c.self.view_is
    ∙ frames-more c.self.inside.left c.self.inside.room c.min-width.result (omega arith) (omega arith) (omega arith)

pub returns-clause-goes : goal.returns-clause-goes
returns-clause-goes c = let fewer = ap length (returns-clause-steps c) in search rules
