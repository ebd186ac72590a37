-- What ties check and read to the published method. Assumes nothing.
use Rattle.std.specs.Prelude.{◌≡◌, ℕ, ◌+◌, ◌^◌, ◌<◌, ◌≤◌, List, length, take, drop, Some, Ok}
use Rattle.method.specs.Limits.{header_limit, message_limit}
use Rattle.method.specs.Published.{crypt, tag, decryption}
use Rattle.checks.specs.Checks.{check_answer, read_out}

-- for every function E from blocks to blocks
pub record CheckLaws : Type 0 where
  -- of a sheet that the published decryption accepts, an accepted read gives the bytes that the published plaintext has there
  pub reads : (E : ℕ → ℕ) (N o : ℕ) (h c t m out : List ℕ) → N < 2 ^ 63 → length c ≤ message_limit
      → decryption E N h c t ≡ Some m → o + length out ≤ length c → read_out E N c o out ≡ take (length out) (drop o m)
  -- what is sealed within the limits, check accepts
  pub sealed : (E : ℕ → ℕ) (t N : ℕ) (h m : List ℕ) → 12 ≤ t → t ≤ 16 → N < 2 ^ 63 → length h ≤ header_limit → length m ≤ message_limit
      → check_answer E N h (crypt E N m) (tag E t N h (crypt E N m)) ≡ Ok tt
  -- and reads of it give the message's bytes
  pub message : (E : ℕ → ℕ) (N o : ℕ) (m out : List ℕ) → N < 2 ^ 63 → length m ≤ message_limit → o + length out ≤ length m
      → read_out E N (crypt E N m) o out ≡ take (length out) (drop o m)
