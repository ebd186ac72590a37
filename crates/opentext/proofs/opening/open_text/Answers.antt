-- What stands at the fronts of the buffers is told, or the refusal.
use Rattle.std.proofs.Common.{◌≡◌, ◌++◌, length, Ok, Err, ◌∙◌, rules}
use Rattle.std.proofs.lemmas.Result.{IfOk-from_err}
use Rattle.method.specs.Limits.{header_limit, message_limit}
use Rattle.method.specs.Published.{crypt}
use Rattle.sheetlines.specs.Lines.{line_of}
use Rattle.sheetlines.specs.Sheets.{header_of, cipher_of}
use Rattle.sheetopener.specs.Opens.{open_told}
use Rattle.opentext.proofs.Buffers.{answer_text, long, front}
use Rattle.opentext.proofs.Told.{told_as}
use Rattle.opentext.specs.Texts.{refused_text, opened_text}
use Rattle.opentext.proofs.opening.open_text.Goals as goal

pub returns-in_err-message : goal.returns-in_err-message
returns-in_err-message g c = IfOk-from_err c.from_residual-in_err-message.result _ c.from_residual-in_err-message.ensures.0

pub returns-in-Ok : goal.returns-in-Ok
returns-in-Ok g c =
    let E = g.C.Permutation.image c.args.cipher.now in
    let text = c.args.text.now in
    let f = c.in-Ok.fields in
    let first = c.deref_mut.result.now in
    let second = c.deref_mut-2.result.now in
    let header = c.deref.result.now in
    let message = c.deref-in-Ok.result.now in
    let answer = c.in-Ok.ensures.answer in
    let hs : length first ≡ header_limit = c.deref_mut.ensures.len ∙ c.in_ok-header.ensures.len in
    let ms : length second ≡ message_limit = c.deref_mut-2.ensures.len ∙ c.in_ok-message.ensures.len in
    let l = long E text (length first) (length second) f answer in
    let kept : length c.open.new.header ≡ c.in_ok-header.header.len = search rules in
    let kept-2 : length c.open.new.message ≡ c.in_ok-message.message.len = search rules in
    let h : header ≡ header_of f text =
    front (header_of f text) first c.open.new.header _ header c.in_ok-header.header.len f.header_len
    c.in-Ok.ensures.headed kept l.header (c.deref.ensures.value ∙ c.truncate.ensures.items) in
    let m : message ≡ crypt E f.nonce (cipher_of f text) =
    front (crypt E f.nonce (cipher_of f text)) second c.open.new.message _ message c.in_ok-message.message.len f.message_len
    c.in-Ok.ensures.told kept-2 l.message (c.deref-in-Ok.ensures.value ∙ c.truncate-in-Ok.ensures.items) in
    told_as c.sheet_lines.result (line_of header ++ line_of message) (opened_text E text)
    ((λ i. line_of (h i) ++ line_of (m i)) ∙ answer_text E text (length first) (length second) (Ok f) hs ms answer) c.sheet_lines.ensures

pub returns : goal.returns
returns g c =
    let E = g.C.Permutation.image c.args.cipher.now in
    let text = c.args.text.now in
    let fault = c.in-Err.fault in
    let first = c.deref_mut.result.now in
    let second = c.deref_mut-2.result.now in
    let hs : length first ≡ header_limit = c.deref_mut.ensures.len ∙ c.in_ok-header.ensures.len in
    let ms : length second ≡ message_limit = c.deref_mut-2.ensures.len ∙ c.in_ok-message.ensures.len in
    told_as c.refused_open.result (refused_text (open_told fault)) (opened_text E text)
    (answer_text E text (length first) (length second) (Err (open_told fault)) hs ms c.in-Err.ensures.answer) c.refused_open.ensures
