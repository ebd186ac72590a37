-- A new draft that is fed a header and a message and finished, in terms of the published method. Assumes nothing.
use Rattle.std.proofs.Common.{◌≡◌, ℕ, ◌^◌, ◌<◌, ◌≤◌, List, [], length, sym, ap, ◌∙◌, arith}
use Rattle.std.proofs.lemmas.List.{append-nil}
use Rattle.blocks.specs.Blocks.{AllBytes}
use Rattle.method.proofs.Closed.{crypt_is}
use Rattle.method.specs.Limits.{header_limit, message_limit}
use Rattle.method.specs.Published.{crypt, tag}
use Rattle.chm.proofs.Pieces.{draft_laws}
use Rattle.chm.proofs.Sealings.{body_wrote}
use Rattle.chm.specs.Drafts.{words_of, headed, bodied, body_out, sealed}
use Rattle.chm.specs.declared.draft.Draft.{Draft}
use Rattle.chm.specs.declared.draft.Sealed.{Sealed}
use Rattle.sealtext.specs.Seals.{tag_bytes}

-- what finish gives, and what the body wrote
pub record Finished (E : ℕ → ℕ) (N : ℕ) (h m : List ℕ) (s : Sealed) (wrote : List ℕ) : Type 0 where
  pub nonce : s.nonce ≡ N
  pub tag_is : s.tag ≡ tag E tag_bytes N h (crypt E N m)
  pub wrote_is : wrote ≡ crypt E N m

-- a header and a message within the limits, both bytes, and an output of the message's length
pub record Fitting (N : ℕ) (h m out : List ℕ) : Type 0 where
  pub nonce : N < 2 ^ 63
  pub header : length h ≤ header_limit
  pub message : length m ≤ message_limit
  pub room : length out ≡ length m
  pub header_bytes : AllBytes h
  pub message_bytes : AllBytes m

pub finished : (E : ℕ → ℕ) (N : ℕ) (h m out : List ℕ) (d e f : Draft) (s : Sealed) (wrote : List ℕ) → Fitting N h m out
    → d ≡ words_of E N tag_bytes [] [] → e ≡ headed d h → f ≡ bodied E e m (length out) → s ≡ sealed f → wrote ≡ body_out E e m out
    → Finished E N h m s wrote
finished E N h m out d e f s wrote k new heads bodies seals writes =
    let head : e ≡ words_of E N tag_bytes h [] =
    heads ∙ ap (λ x. headed x h) new ∙ draft_laws.heads E N tag_bytes [] [] h (omega (arith, k.header)) in
    let body : f ≡ words_of E N tag_bytes h m =
    bodies ∙ ap (λ x. bodied E x m (length out)) head ∙ ap (bodied E (words_of E N tag_bytes h []) m) k.room
    ∙ draft_laws.bodies E N tag_bytes h [] m (omega (arith, k.message)) in
    let seal : s ≡ sealed (words_of E N tag_bytes h m) = seals ∙ ap sealed body in
    record {
      nonce = ap (λ x. x.nonce) seal;
      tag_is =
          ap (λ x. x.tag) seal ∙ draft_laws.tags E N tag_bytes h m k.nonce k.message k.header_bytes k.message_bytes
          ∙ append-nil (tag E tag_bytes N h (crypt E N m));
      wrote_is =
          writes ∙ ap (λ x. body_out E x m out) head ∙ body_wrote E N tag_bytes h m out k.room k.message
          ∙ sym (crypt_is E N m k.nonce (omega (arith, k.message)));
    }
