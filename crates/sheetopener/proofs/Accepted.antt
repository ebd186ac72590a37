-- What an accepted check says of a sheet: it is within the limits, and its tag is the published one; and that a message has one
-- ciphertext under a nonce. Assumes nothing.
use Rattle.std.proofs.Common.{◌≡◌, ℕ, ◌^◌, ◌<◌, ◌≤◌, Bool, true, false, cond, List, length, Some, None, Ok, sym, refl, ap, ◌∙◌, arith}
use Rattle.std.proofs.lemmas.Slice.Eq.{bytes_eq-Decides}
use Rattle.std.specs.Str.{bytes_eq}
use Rattle.blocks.specs.Blocks.{AllBytes}
use Rattle.checks.specs.Checks.{not_rejected, check_answer}
use Rattle.keystream.specs.Counters.{ciphered}
use Rattle.method.proofs.Closed.{crypt_is}
use Rattle.method.proofs.Kept.{Kept, limits_kept}
use Rattle.method.proofs.Undone.{ciphered-twice}
use Rattle.method.specs.Limits.{message_limit}
use Rattle.method.specs.Published.{crypt, tag, decryption}
use Rattle.sheetlines.specs.Laws.{Within}

-- the published decryption rejects where the tags differ
not_refused : (b : Bool) (m : List ℕ) → not_rejected (cond b (Some m) None) ≡ Ok tt → b ≡ true
not_refused true m h = refl
not_refused false m h = let z : ◌≡◌ {A = ℕ} 0 1 = cc in let y : ⊥ = omega arith in absurd y

-- what check's tests let through
pub record Accepted (E : ℕ → ℕ) (N : ℕ) (h c t : List ℕ) : Type 0 where
  pub kept : Kept N (length h) (length c) (length t)
  pub genuine : tag E (length t) N h c ≡ t

pub accepted : (E : ℕ → ℕ) (N : ℕ) (h c t : List ℕ) → check_answer E N h c t ≡ Ok tt → Accepted E N h c t
accepted E N h c t a =
    let k = limits_kept N (length h) (length c) (length t) (not_rejected (decryption E N h c t)) tt a in
    let same = not_refused (bytes_eq (tag E (length t) N h c) t) (crypt E N c) k.1 in
    record { kept = k.0; genuine = (bytes_eq-Decides (tag E (length t) N h c) t).0 same }

-- so its lines can be read back
pub within : (E : ℕ → ℕ) (N : ℕ) (h c t : List ℕ) → Accepted E N h c t → AllBytes h → AllBytes c → AllBytes t → Within N h c t
within E N h c t a bh bc bt = record {
  nonce = a.kept.nonce;
  header = a.kept.header;
  message = a.kept.message;
  least = a.kept.least;
  most = a.kept.most;
  header_bytes = bh;
  cipher_bytes = bc;
  tag_bytes = bt;
}

-- a nonce and a message have one ciphertext: ciphering undoes itself
pub one-cipher : (E : ℕ → ℕ) (N : ℕ) (c c' : List ℕ) → N < 2 ^ 63 → length c ≤ message_limit → length c' ≤ message_limit
    → crypt E N c ≡ crypt E N c' → c ≡ c'
one-cipher E N c c' n u u' e =
    let same : ciphered E N 0 c ≡ ciphered E N 0 c' = sym (crypt_is E N c n (omega arith)) ∙ e ∙ crypt_is E N c' n (omega arith) in
    sym (ciphered-twice E N c) ∙ ap (ciphered E N 0) same ∙ ciphered-twice E N c'
