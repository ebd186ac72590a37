-- What the tests of the limits let through, and what they refuse. Assumes nothing.
use Rattle.std.proofs.Common.{◌≡◌, ℕ, ◌^◌, ◌<◌, ◌≤◌, Bool, true, false, cond, leb, Ok, Err, refl, arith}
use Rattle.std.proofs.lemmas.Bool.{and_parts, leb-true, ltb-true}
use Rattle.refusals.specs.Answers.{Told, Answer}
use Rattle.method.specs.Limits.{header_limit, message_limit, tag_fits, nonce_fits}
use Rattle.method.specs.Sheets.{within, limits_answer}

-- an accepted answer has passed its test
pub passed : {A : Type 0} (b : Bool) (x : Answer A) (e : Told) (a : A) → cond b x (Err e) ≡ Ok a → (b ≡ true) × (x ≡ Ok a)
passed true x e a h = (refl, h)
passed false x e a h = let z : ◌≡◌ {A = ℕ} 0 1 = cc in let y : ⊥ = omega arith in absurd y

pub record Kept (N h c t : ℕ) : Type 0 where
  pub least : 12 ≤ t
  pub most : t ≤ 16
  pub nonce : N < 2 ^ 63
  pub header : h ≤ header_limit
  pub message : c ≤ message_limit

pub limits_kept : {A : Type 0} (N h c t : ℕ) (x : Answer A) (a : A) → within N h c t x ≡ Ok a → Kept N h c t × (x ≡ Ok a)
limits_kept N h c t x a e =
    let tags = passed (tag_fits t) _ _ a e in
    let sizes = and_parts (leb 12 t) (leb t 16) tags.0 in
    let nonces = passed (nonce_fits N) _ _ a tags.1 in
    let headers = passed (leb h header_limit) _ _ a nonces.1 in
    let messages = passed (leb c message_limit) _ _ a headers.1 in (
      record {
        least = leb-true 12 t sizes.0;
        most = leb-true t 16 sizes.1;
        nonce = ltb-true N (2 ^ 63) nonces.0;
        header = leb-true h header_limit headers.0;
        message = leb-true c message_limit messages.0;
      },
      messages.1,
    )

abbrev kept : Answer (Unit {0})
kept = Ok tt

-- a limit that is not kept is told, whatever the tests lead to
pub limits_passed : {A : Type 0} (N h c t : ℕ) (x : Answer A) (e : Told) → limits_answer N h c t ≡ Err e → within N h c t x ≡ Err e
limits_passed N h c t x e = go (tag_fits t) (nonce_fits N) (leb h header_limit) (leb c message_limit) _ _ _ _
  where
    go : (p q r s : Bool) → (u v w y : Told) →
        cond p (cond q (cond r (cond s kept (Err u)) (Err v)) (Err w)) (Err y) ≡ Err e →
        cond p (cond q (cond r (cond s x (Err u)) (Err v)) (Err w)) (Err y) ≡ Err e
    go true true true true u v w y h = let z : ◌≡◌ {A = ℕ} 0 1 = cc in let no : ⊥ = omega arith in absurd no
    go true true true false u v w y h = cc
    go true true false s u v w y h = cc
    go true false r s u v w y h = cc
    go false q r s u v w y h = cc
