-- The words, tied to the published method.
use Rattle.chm.proofs.Pieces.{draft_laws}
use Rattle.chm.proofs.draft.Draft.finish.Goals as goal

pub returns-clause-laws : goal.returns-clause-laws
returns-clause-laws c = draft_laws
