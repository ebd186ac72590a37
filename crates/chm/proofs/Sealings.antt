-- A seal in one call: what its sizes and its begin answer decide. Assumes nothing.
use Rattle.std.proofs.Common.{◌≡◌, ℕ, ◌+◌, ◌≤◌, Bool, true, false, cond, eqb, leb, List, [], length, Ok, Err, sym, refl, ap, ◌∙◌, arith, eq-eqb, le-leb, leb-true}
use Rattle.std.proofs.lemmas.Bool.{eqb-true}
use Rattle.keystream.specs.Counters.{ciphered}
use Rattle.method.specs.Limits.{header_limit, message_limit, tag_fits, header_too_long, message_too_long, lengths_differ, bad_tag_length}
use Rattle.refusals.specs.Answers.{Answer}
use Rattle.chm.proofs.Helds.{held_len, sent-held}
use Rattle.chm.proofs.Pieces.{draft_laws}
use Rattle.chm.specs.Drafts.{words_of, headed, bodied, body_out, body_answer, sealed, if_accepted}
use Rattle.chm.specs.Sealers.{Standing, drafted, begin_answer, issue_answer, sealer_down}
use Rattle.chm.specs.Seals.{sizes_answer, if_sized, sealed_under, seal_answer, ciphered_under, seal_out}
use Rattle.chm.specs.Words.{sent, held}
use Rattle.chm.specs.declared.draft.Draft.{Draft}
use Rattle.chm.specs.declared.draft.Sealed.{Sealed}

pub record Sized (t h m room : ℕ) : Type 0 where
  pub tags : tag_fits t ≡ true
  pub heads : h ≤ header_limit
  pub outs : room ≡ m
  pub bodies : m ≤ message_limit

sized_by : (t h m room : ℕ) (a b c d : Bool) → tag_fits t ≡ a → leb h header_limit ≡ b → eqb room m ≡ c → leb m message_limit ≡ d
    → ◌≡◌ {A = Answer (Unit {0})} (Ok tt) (cond a (cond b (cond c (cond d (Ok tt) (Err message_too_long)) (Err lengths_differ)) (Err header_too_long)) (Err bad_tag_length))
    → Sized t h m room
sized_by t h m room true true true true ea eb ec ed e = record {
  tags = ea;
  heads = leb-true h header_limit eb;
  outs = eqb-true room m ec;
  bodies = leb-true m message_limit ed;
}
sized_by t h m room true true true false ea eb ec ed e = absurd cc
sized_by t h m room true true false d ea eb ec ed e = absurd cc
sized_by t h m room true false c d ea eb ec ed e = absurd cc
sized_by t h m room false b c d ea eb ec ed e = absurd cc

pub sized : (t h m room : ℕ) → ◌≡◌ {A = Answer (Unit {0})} (Ok tt) (sizes_answer t h m room) → Sized t h m room
sized t h m room e = sized_by t h m room (tag_fits t) (leb h header_limit) (eqb room m) (leb m message_limit) refl refl refl refl e

-- where the tag's length fits, begin answers by the next nonce, and so does the seal
begin-live : (E : ℕ → ℕ) (s : Standing) (t : ℕ) → tag_fits t ≡ true → begin_answer E s t ≡ cond s.live (drafted E t (issue_answer s)) (Err sealer_down)
begin-live E s t e = rw e refl

seal-live : (E : ℕ → ℕ) (s : Standing) (t : ℕ) (h m : List ℕ) (room : ℕ) → ◌≡◌ {A = Answer (Unit {0})} (Ok tt) (sizes_answer t (length h) (length m) room)
    → seal_answer E s t h m room ≡ cond s.live (sealed_under E t h m (issue_answer s)) (Err sealer_down)
seal-live E s t h m room e = ap (λ a. if_sized a (cond s.live (sealed_under E t h m (issue_answer s)) (Err sealer_down))) (sym e)

-- a draft that begin hands out is that of a nonce
drafted_by : (E : ℕ → ℕ) (t : ℕ) (h m : List ℕ) (live : Bool) (i : Answer ℕ) (d : Draft) → ◌≡◌ {A = Answer Draft} (Ok d) (cond live (drafted E t i) (Err sealer_down))
    → (N : ℕ) × (d ≡ words_of E N t [] []) × (cond live (sealed_under E t h m i) (Err sealer_down) ≡ Ok (sealed (words_of E N t h m)))
drafted_by E t h m true (Ok N) d q = (N, cc, refl)
drafted_by E t h m true (Err f) d q = absurd cc
drafted_by E t h m false i d q = absurd cc

pub record Done (E : ℕ → ℕ) (s : Standing) (t : ℕ) (h m out : List ℕ) (d : Draft) (ws : List ℕ) : Type 0 where
  pub answer : ◌≡◌ {A = Answer Sealed} (Ok (sealed (bodied E (headed d h) m (length out)))) (seal_answer E s t h m (length out))
  pub wrote : ws ≡ seal_out E s t h m out

-- an accepted body writes the ciphertext
pub body_wrote : (E : ℕ → ℕ) (N t : ℕ) (h m out : List ℕ) → length out ≡ length m → length m ≤ message_limit
    → body_out E (words_of E N t h []) m out ≡ ciphered E N 0 m
body_wrote E N t h m out o b =
    let short : (held E N 0).len + length m ≤ message_limit = omega (arith, held_len E N 0) in
    let ok : body_answer (words_of E N t h []) m (length out) ≡ Ok tt = rw (eq-eqb (length out) (length m) o, le-leb ((held E N 0).len + length m) message_limit short) refl in
    ap (λ a. if_accepted a (sent E N (held E N 0) m) out) ok ∙ sent-held E N 0 m

pub seal_done : (E : ℕ → ℕ) (s : Standing) (t : ℕ) (h m out : List ℕ) (d : Draft) (ws : List ℕ)
    → ◌≡◌ {A = Answer (Unit {0})} (Ok tt) (sizes_answer t (length h) (length m) (length out)) → ◌≡◌ {A = Answer Draft} (Ok d) (begin_answer E s t)
    → ws ≡ body_out E (headed d h) m out → Done E s t h m out d ws
seal_done E s t h m out d ws z q e =
    let k = sized t (length h) (length m) (length out) z in
    let b = drafted_by E t h m s.live (issue_answer s) d (q ∙ begin-live E s t k.tags) in
    let N = b.0 in
    let is : seal_answer E s t h m (length out) ≡ Ok (sealed (words_of E N t h m)) = seal-live E s t h m (length out) z ∙ b.2 in
    let head : headed d h ≡ words_of E N t h [] = ap (λ x. headed x h) b.1 ∙ draft_laws.heads E N t [] [] h (omega (arith, k.heads)) in
    let body : bodied E (words_of E N t h []) m (length out) ≡ words_of E N t h m =
    ap (bodied E (words_of E N t h []) m) k.outs ∙ draft_laws.bodies E N t h [] m (omega (arith, k.bodies)) in
    record {
      answer = ap (λ x. Ok (sealed x)) (ap (λ x. bodied E x m (length out)) head ∙ body) ∙ sym is;
      wrote = e ∙ ap (λ x. body_out E x m out) head ∙ body_wrote E N t h m out k.outs k.bodies ∙ ap (ciphered_under E m out) (sym is);
    }
