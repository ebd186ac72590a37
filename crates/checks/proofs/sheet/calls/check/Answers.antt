-- The limits, and then what is answered to the tag.
use Rattle.std.proofs.Common.{rules}
use Rattle.checks.proofs.Proved.{check_laws}
use Rattle.checks.proofs.Tags.{checked_by}
use Rattle.checks.proofs.sheet.calls.check.Goals as goal

pub returns-in_err-within_limits-clause-laws : goal.returns-in_err-within_limits-clause-laws
returns-in_err-within_limits-clause-laws g c = check_laws

pub returns-in_err-confirm_tag-clause-answer : goal.returns-in_err-confirm_tag-clause-answer
returns-in_err-confirm_tag-clause-answer g c =
    checked_by (g.C.Permutation.image c.args.cipher.now) c.args.sheet.now.nonce c.hash_of-ciphertext_hash.result c.hash_of-header_hash.result
    c.args.sheet.now.header.now c.args.sheet.now.ciphertext.now c.args.sheet.now.tag.now _ (search rules) (search rules) (search rules) (search rules)

pub returns-in_err-confirm_tag-clause-laws : goal.returns-in_err-confirm_tag-clause-laws
returns-in_err-confirm_tag-clause-laws g c = check_laws

pub returns-clause-answer : goal.returns-clause-answer
returns-clause-answer g c =
    checked_by (g.C.Permutation.image c.args.cipher.now) c.args.sheet.now.nonce c.hash_of-ciphertext_hash.result c.hash_of-header_hash.result
    c.args.sheet.now.header.now c.args.sheet.now.ciphertext.now c.args.sheet.now.tag.now _ (search rules) (search rules) (search rules) (search rules)

pub returns-clause-laws : goal.returns-clause-laws
returns-clause-laws g c = check_laws
