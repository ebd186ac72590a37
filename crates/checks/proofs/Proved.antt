-- The laws of check and read: what is accepted, and that reads give the published plaintext. Assumes nothing.
use Rattle.std.proofs.Common.{◌≡◌, ℕ, ◌+◌, ◌^◌, ◌<◌, ◌≤◌, Bool, true, false, cond, List, length, take, drop, Some, None, Ok, sym, refl, ap, ◌∙◌, arith}
use Rattle.std.proofs.lemmas.Bool.{le-leb}
use Rattle.std.specs.Str.{bytes_eq}
use Rattle.keystream.specs.Counters.{ciphered}
use Rattle.method.proofs.Closed.{crypt_is}
use Rattle.method.proofs.Undone.{ciphered-twice, length-crypt, length-tag, method_laws}
use Rattle.method.specs.Limits.{header_limit, message_limit}
use Rattle.method.specs.Published.{crypt, tag, decryption}
use Rattle.checks.proofs.Checks.{within}
use Rattle.checks.specs.Checks.{not_rejected, check_answer, read_out}
use Rattle.checks.specs.Laws.{CheckLaws}

-- within the ciphertext a read gives its part of the whole, deciphered
read_is : (E : ℕ → ℕ) (N o : ℕ) (c out : List ℕ) → o + length out ≤ length c
    → read_out E N c o out ≡ take (length out) (drop o (ciphered E N 0 c))
read_is E N o c out h = rw (le-leb (o + length out) (length c) h) refl

decrypted : (b : Bool) (x m : List ℕ) → cond b (Some x) None ≡ Some m → x ≡ m
decrypted true x m e = cc
decrypted false x m e = let z : ◌≡◌ {A = ℕ} 0 1 = cc in let y : ⊥ = omega arith in absurd y

reads_is : (E : ℕ → ℕ) (N o : ℕ) (h c t m out : List ℕ) → N < 2 ^ 63 → length c ≤ message_limit
    → decryption E N h c t ≡ Some m → o + length out ≤ length c → read_out E N c o out ≡ take (length out) (drop o m)
reads_is E N o h c t m out n k e u =
    read_is E N o c out u
    ∙ ap (λ x. take (length out) (drop o x))
    (sym (crypt_is E N c n (omega arith)) ∙ decrypted (bytes_eq (tag E (length t) N h c) t) (crypt E N c) m e)

sealed_is : (E : ℕ → ℕ) (t N : ℕ) (h m : List ℕ) → 12 ≤ t → t ≤ 16 → N < 2 ^ 63 → length h ≤ header_limit → length m ≤ message_limit
    → check_answer E N h (crypt E N m) (tag E t N h (crypt E N m)) ≡ Ok tt
sealed_is E t N h m a b n u v =
    let c = crypt E N m in
    let long = length-tag E t N h c b in
    within E N h c (tag E t N h c) (omega (arith, long)) (omega (arith, long)) n u (omega (arith, length-crypt E N m n (omega arith)))
    ∙ ap not_rejected (method_laws.undone E t N h m b n (omega arith))

message_is : (E : ℕ → ℕ) (N o : ℕ) (m out : List ℕ) → N < 2 ^ 63 → length m ≤ message_limit → o + length out ≤ length m
    → read_out E N (crypt E N m) o out ≡ take (length out) (drop o m)
message_is E N o m out n k u =
    let small : length m < 2 ^ 64 = omega arith in
    read_is E N o (crypt E N m) out (omega (arith, length-crypt E N m n small))
    ∙ ap (λ x. take (length out) (drop o x)) (ap (ciphered E N 0) (crypt_is E N m n small) ∙ ciphered-twice E N m)

pub check_laws : CheckLaws
check_laws = record { reads = reads_is; sealed = sealed_is; message = message_is }
