-- The end of the nonces. Assumes nothing.
-- begins s t n: the sealer that stands as s, after n begins with tags of t bytes.
-- Ends E s: of a sealer set up over the store s, under a cipher that means E, where s has one raise left below 2^53 and power for it:
-- of the begins with tags of t bytes number 1,024 issues nonce 2^63 - 1, the last there is, and the next is refused 22.
use Rattle.std.specs.Prelude.{◌≡◌, ℕ, zero, suc, ◌+◌, ◌-◌, ◌^◌, true, [], None, Ok, Err}
use Rattle.chm.specs.Drafts.{words_of}
use Rattle.chm.specs.Sealers.{Standing, standing, begin_answer, begun}
use Rattle.stores.specs.Store.{Store, store, full}
use Rattle.history.specs.Runs.{Tag}

unfoldable pub begins : Standing → ℕ → ℕ → Standing
begins s t zero = s
begins s t (suc n) = begun (begins s t n) t

-- one short of the end, on, and with power for p raises after this one
abbrev pub nearly_full : ℕ → ℕ → Store
nearly_full p v = store (2 ^ 53 - 1) (2 ^ 53) (p + 1) v true

pub record Ends (E : ℕ → ℕ) (s : Store) : Type 0 where
  pub last : (t p v : ℕ) → Tag t → s ≡ nearly_full p v → begin_answer E (begins (standing s true None) t 1023) t ≡ Ok (words_of E (2 ^ 63 - 1) t [] [])
  pub over : (t p v : ℕ) → Tag t → s ≡ nearly_full p v → begin_answer E (begins (standing s true None) t 1024) t ≡ Err full
