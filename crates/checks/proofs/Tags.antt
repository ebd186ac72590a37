-- What a tag is answered whose sheet's hashes are at hand, and that within the limits it is what check answers. Assumes nothing.
use Rattle.std.proofs.Common.{◌≡◌, ℕ, ◌^◌, ◌<◌, ◌≤◌, Bool, true, false, cond, List, length, take, Some, None, Ok, Err, sym, refl, ap, ◌∙◌, arith}
use Rattle.std.specs.Str.{bytes_eq}
use Rattle.blocks.specs.Blocks.{bytes_of}
use Rattle.keystream.specs.Counters.{block_at, const0, const1}
use Rattle.method.proofs.Closed.{tag_is}
use Rattle.method.proofs.Kept.{limits_kept}
use Rattle.method.specs.Sheets.{limits_answer}
use Rattle.method.specs.Limits.{header_limit, message_limit, tag_differs}
use Rattle.method.specs.Published.{crypt, tag_block}
use Rattle.polyhash.specs.Hash.{hash}
use Rattle.refusals.specs.Answers.{Answer}
use Rattle.checks.specs.Checks.{not_rejected, check_answer}
use Rattle.checks.specs.Tags.{tag_answer}
use Rattle.checks.proofs.Checks.{within}

outcome : (b : Bool) (m : List ℕ) → not_rejected (cond b (Some m) None) ≡ cond b (Ok tt) (Err tag_differs)
outcome true m = refl
outcome false m = refl

module _ (E : ℕ → ℕ) (N : ℕ) (h c t : List ℕ) where
  -- the block of which the tag is the first bytes
  abbrev whole : ℕ
  whole = tag_block (hash (E const0) c) (hash (E const1) h) (block_at E N 0)

  -- and that is whether the tag is the block's front
  check_is : 12 ≤ length t → length t ≤ 16 → N < 2 ^ 63 → length h ≤ header_limit → length c ≤ message_limit
      → check_answer E N h c t ≡ tag_answer whole t
  check_is a b n u v =
      within E N h c t a b n u v
      ∙ ap (λ x. not_rejected (cond (bytes_eq x t) (Some (crypt E N c)) None)) (tag_is E (length t) N h c n (omega arith))
      ∙ outcome (bytes_eq (take (length t) (bytes_of 16 whole)) t) (crypt E N c)

-- what is answered to a tag with the hashes x and y at hand is check's answer
pub answer_is : (E : ℕ → ℕ) (N x y : ℕ) (h c t : List ℕ) (r : Answer (Unit {0})) → x ≡ hash (E const0) c → y ≡ hash (E const1) h
    → r ≡ tag_answer (tag_block x y (block_at E N 0)) t → 12 ≤ length t → length t ≤ 16 → N < 2 ^ 63 → length h ≤ header_limit → length c ≤ message_limit
    → r ≡ check_answer E N h c t
answer_is E N x y h c t r ex ey er a b n u v =
    er ∙ ap (λ z. tag_answer (tag_block z y (block_at E N 0)) t) ex ∙ ap (λ z. tag_answer (tag_block (hash (E const0) c) z (block_at E N 0)) t) ey
    ∙ sym (check_is E N h c t a b n u v)

-- the same where the tests of the limits let the sheet through
pub checked_by : (E : ℕ → ℕ) (N x y : ℕ) (h c t : List ℕ) (r : Answer (Unit {0})) → Ok tt ≡ limits_answer N (length h) (length c) (length t)
    → x ≡ hash (E const0) c → y ≡ hash (E const1) h → r ≡ tag_answer (tag_block x y (block_at E N 0)) t → r ≡ check_answer E N h c t
checked_by E N x y h c t r l ex ey er =
    let k = (limits_kept N (length h) (length c) (length t) (Ok tt) tt (sym l)).0 in
    answer_is E N x y h c t r ex ey er k.least k.most k.nonce k.header k.message
