-- A cipher that was made of a key, and the first draft that was begun over a register under it. Assumes nothing.
use Rattle.std.proofs.Common.{◌≡◌, ℕ, ◌*◌, ◌^◌, ◌<◌, ◌≤◌, min, Bool, true, false, cond, eqb, leb, List, [], length, None, Ok, Err, sym, refl, ap, ◌∙◌, arith, leb-true}
use Rattle.std.proofs.lemmas.Bool.{eqb-false}
use Rattle.refusals.specs.Answers.{Answer}
use Rattle.ciphers.specs.Keys.{wrong_length, made_answer}
use Rattle.method.specs.Limits.{header_limit, header_too_long}
use Rattle.stores.specs.Registers.{register_store}
use Rattle.stores.specs.Store.{full}
use Rattle.stores.specs.declared.register.Register.{Register}
use Rattle.chm.specs.Drafts.{words_of}
use Rattle.chm.specs.Sealers.{Standing, standing, sealer_standing, raise_nonce, drafted, begin_answer}
use Rattle.chm.specs.declared.draft.Draft.{Draft}
use Rattle.chm.specs.declared.sealer.Sealer.{Sealer}
use Rattle.sealtext.specs.Seals.{register_at, first_nonce, tag_bytes, header_answer}

-- a register that is not full issues a nonce below 2^63
nonce-small : (a N : ℕ) → first_nonce a ≡ Ok N → N < 2 ^ 63
nonce-small a N e = go (eqb (min a (2 ^ 53)) (2 ^ 53)) refl e
  where
    go : (b : Bool) → eqb (min a (2 ^ 53)) (2 ^ 53) ≡ b → raise_nonce (cond b (Err full) (Ok (min a (2 ^ 53)))) ≡ Ok N → N < 2 ^ 63
    go true f e = absurd (let z : ◌≡◌ {A = ℕ} 0 1 = cc in omega arith)
    go false f e = let is : 1024 * min a (2 ^ 53) ≡ N = cc in let ne = eqb-false (min a (2 ^ 53)) (2 ^ 53) f in omega arith

-- E is the key's function, and d the draft of the first nonce, with nothing of header and message yet
pub record Begun (E : ℕ → ℕ) (n : ℕ) (standard : List ℕ → ℕ → ℕ) (key : List ℕ) (a : ℕ) (d : Draft) : Type 0 where
  pub sized : eqb (length key) n ≡ true
  pub means : E ≡ standard key
  pub issued : first_nonce a ≡ Ok d.nonce
  pub new : d ≡ words_of E d.nonce tag_bytes [] []
  pub small : d.nonce < 2 ^ 63

keyed : (E : ℕ → ℕ) (n : ℕ) (standard : List ℕ → ℕ → ℕ) (key : List ℕ) → ◌≡◌ {A = Answer (ℕ → ℕ)} (Ok E) (made_answer n standard key)
    → (eqb (length key) n ≡ true) × (E ≡ standard key)
keyed E n standard key e = go (eqb (length key) n) refl e
  where
    go : (b : Bool) → eqb (length key) n ≡ b → ◌≡◌ {A = Answer (ℕ → ℕ)} (Ok E) (cond b (Ok (standard key)) (Err wrong_length))
        → (eqb (length key) n ≡ true) × (E ≡ standard key)
    go true f e = (f, cc)
    go false f e = absurd (let z : ◌≡◌ {A = ℕ} 0 1 = cc in omega arith)

begun : (E : ℕ → ℕ) (n : ℕ) (standard : List ℕ → ℕ → ℕ) (key : List ℕ) (a : ℕ) (s : Standing) (d : Draft)
    → ◌≡◌ {A = Answer (ℕ → ℕ)} (Ok E) (made_answer n standard key) → s ≡ standing (register_at a) true None
    → ◌≡◌ {A = Answer Draft} (Ok d) (begin_answer E s tag_bytes) → Begun E n standard key a d
begun E n standard key a s d made stands began =
    let k = keyed E n standard key made in
    go k.0 k.1 (first_nonce a) refl (began ∙ ap (λ x. begin_answer E x tag_bytes) stands)
  where
    go : eqb (length key) n ≡ true → E ≡ standard key → (x : Answer ℕ) → first_nonce a ≡ x
        → ◌≡◌ {A = Answer Draft} (Ok d) (drafted E tag_bytes x) → Begun E n standard key a d
    go f g (Ok N) e q =
        let is : d ≡ words_of E N tag_bytes [] [] = cc in
        let same : d.nonce ≡ N = ap (λ x. x.nonce) is in
        record {
          sized = f;
          means = g;
          issued = e ∙ ap Ok (sym same);
          new = is ∙ ap (λ k. words_of E k tag_bytes [] []) (sym same);
          small = let l = nonce-small a N e in omega arith;
        }
    go f g (Err t) e q = absurd (let z : ◌≡◌ {A = ℕ} 0 1 = cc in omega arith)

-- the same of a sealer over a cipher and a register
pub begun-over : {C : Type 0} (image : C → ℕ → ℕ) (n : ℕ) (standard : List ℕ → ℕ → ℕ) (key : List ℕ) (a : ℕ) (cipher : C)
    (register : Register) (sealer : Sealer C Register) (d : Draft) → ◌≡◌ {A = Answer (ℕ → ℕ)} (Ok (image cipher)) (made_answer n standard key)
    → register_store register ≡ register_at a → sealer_standing register_store sealer ≡ standing (register_store register) true None
    → sealer.cipher ≡ cipher
    → ◌≡◌ {A = Answer Draft} (Ok d) (begin_answer (image sealer.cipher) (sealer_standing register_store sealer) tag_bytes)
    → Begun (image cipher) n standard key a d
begun-over image n standard key a cipher register sealer d made at stands same began =
    let s = sealer_standing register_store sealer in
    begun (image cipher) n standard key a s d made (stands ∙ ap (λ r. standing r true None) at)
    (began ∙ ap (λ k. begin_answer (image k) s tag_bytes) same)

-- a header that was let pass fits
pub fits_within : (h : List ℕ) → ◌≡◌ {A = Answer (Unit {0})} (Ok tt) (header_answer h) → length h ≤ header_limit
fits_within h e = go (leb (length h) header_limit) refl e
  where
    go : (b : Bool) → leb (length h) header_limit ≡ b → ◌≡◌ {A = Answer (Unit {0})} (Ok tt) (cond b (Ok tt) (Err header_too_long))
        → length h ≤ header_limit
    go true f e = leb-true (length h) header_limit f
    go false f e = absurd (let z : ◌≡◌ {A = ℕ} 0 1 = cc in omega arith)
