-- The laws of opening, at each return.
use Rattle.sheetopener.proofs.Proved.{open_laws}
use Rattle.sheetopener.proofs.open.open.Goals as goal

pub returns-in_err-fields-clause-laws : goal.returns-in_err-fields-clause-laws
returns-in_err-fields-clause-laws g c = open_laws

pub returns-then-header-fields-clause-laws : goal.returns-then-header-fields-clause-laws
returns-then-header-fields-clause-laws g c = open_laws

pub returns-then-message-fields-clause-laws : goal.returns-then-message-fields-clause-laws
returns-then-message-fields-clause-laws g c = open_laws

pub returns-in_err-confirm-clause-laws : goal.returns-in_err-confirm-clause-laws
returns-in_err-confirm-clause-laws g c = open_laws

pub returns-clause-laws : goal.returns-clause-laws
returns-clause-laws g c = open_laws
