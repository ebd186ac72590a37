-- What ties drafts to the published method. Assumes nothing.
use Rattle.std.specs.Prelude.{◌≡◌, ℕ, ◌+◌, ◌-◌, ◌^◌, ◌<◌, ◌≤◌, List, ◌++◌, length, replicate}
use Rattle.blocks.specs.Blocks.{AllBytes}
use Rattle.method.specs.Limits.{header_limit, message_limit}
use Rattle.method.specs.Published.{crypt, tag}
use Rattle.chm.specs.Drafts.{words_of, headed, bodied, sealed}
use Rattle.chm.specs.Words.{sent, held}

-- for every function E from blocks to blocks
pub record DraftLaws : Type 0 where
  -- an accepted piece of header joins the header
  pub heads : (E : ℕ → ℕ) (N t : ℕ) (h m p : List ℕ) → length h + length p ≤ header_limit
      → headed (words_of E N t h m) p ≡ words_of E N t (h ++ p) m
  -- an accepted piece of message joins the message
  pub bodies : (E : ℕ → ℕ) (N t : ℕ) (h m p : List ℕ) → length m + length p ≤ message_limit
      → bodied E (words_of E N t h m) p (length p) ≡ words_of E N t h (m ++ p)
  -- and what it writes joins the ciphertext
  pub writes : (E : ℕ → ℕ) (N : ℕ) (m p : List ℕ) → N < 2 ^ 63 → length m + length p ≤ message_limit
      → crypt E N (m ++ p) ≡ crypt E N m ++ sent E N (held E N (length m)) p
  -- finish gives the published tag, then zeros
  pub tags : (E : ℕ → ℕ) (N t : ℕ) (h m : List ℕ) → N < 2 ^ 63 → length m ≤ message_limit → AllBytes h → AllBytes m
      → (sealed (words_of E N t h m)).tag ≡ tag E t N h (crypt E N m) ++ replicate (16 - t) 0
