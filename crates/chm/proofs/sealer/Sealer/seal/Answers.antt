-- The sizes fit and begin accepted, so header and message are sealed whole.
use Rattle.std.proofs.Common.{◌≡◌, length, Ok, ap, ◌∙◌, rules}
use Rattle.chm.proofs.Sealings.{seal_done}
use Rattle.chm.specs.Drafts.{headed, bodied, body_out, sealed}
use Rattle.chm.specs.Sealers.{sealer_standing}
use Rattle.chm.proofs.sealer.Sealer.seal.Goals as goal

pub returns : goal.returns
returns g c =
    let E = g.C.Permutation.image c.args.self.now.cipher in
    let s = sealer_standing g.S.MarkStore.meaning c.args.self.now in
    let h = c.args.header.now in
    let m = c.args.message.now in
    let out = c.args.out.now in
    let d = c.in_ok-draft.draft in
    let same : g.C.Permutation.image c.begin.new.self.cipher ≡ E = ap g.C.Permutation.image c.in_ok-draft.ensures.cipher in
    let head : c.head.new.self ≡ headed d h = c.head.ensures.after in
    let k = seal_done E s c.args.tag_len h m out d c.body.new.out c.in_ok-sizes_fit.ensures c.in_ok-draft.ensures.answer
    (c.body.ensures.wrote ∙ (λ i. body_out (same i) (head i) m out)) in
    record {
      answer = ap Ok (c.finish.ensures.value ∙ ap sealed (c.body.ensures.after ∙ (λ i. bodied (same i) (head i) m (length out)))) ∙ k.answer;
      after = search rules;
      wrote = k.wrote;
      cipher = search rules;
    }
