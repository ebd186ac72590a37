-- What check answers within the limits. Assumes nothing.
use Rattle.std.proofs.Common.{◌≡◌, ℕ, ◌^◌, ◌<◌, ◌≤◌, List, length, refl}
use Rattle.std.proofs.lemmas.Bool.{lt-ltb, le-leb}
use Rattle.method.specs.Limits.{header_limit, message_limit}
use Rattle.method.specs.Published.{decryption}
use Rattle.checks.specs.Checks.{not_rejected, check_answer}

module _ (E : ℕ → ℕ) (N : ℕ) (h c t : List ℕ) where
  -- within the limits only the published decryption is left to ask
  pub within : 12 ≤ length t → length t ≤ 16 → N < 2 ^ 63 → length h ≤ header_limit → length c ≤ message_limit
      → check_answer E N h c t ≡ not_rejected (decryption E N h c t)
  within a b n u v =
      rw (le-leb 12 (length t) a, le-leb (length t) 16 b, lt-ltb N (2 ^ 63) n, le-leb (length h) header_limit u, le-leb (length c) message_limit v)
      refl
