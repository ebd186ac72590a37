-- A key expansion that has come to a round key, and one turn more of it. Assumes nothing.
use Rattle.std.proofs.Common.{◌≡◌, ℕ, ◌+◌, ◌<◌, ◌≢◌, List, length, get_or, set, sym, ap, ◌∙◌, add-one, arith, get_or-set_other, get_or-set_same, below_more}
use Rattle.aes.specs.declared.RoundKey.{RoundKey}
use Rattle.aes.specs.Cipher.{round_constants, next_round_key, round_key}
use Rattle.aes.specs.Keyed.{blank, held}
use Rattle.aes.specs.State.{input}

-- k is the round key i, and the round keys 0 to i stand in ks
pub record Begun (key : List ℕ) (i : ℕ) (k : RoundKey) (ks : List RoundKey) : Type 0 where
  pub last : k.columns ≡ round_key key i
  pub so_far : (j : ℕ) → j < i + 1 → held ks j ≡ round_key key j

pub begun_none : (key : List ℕ) (k : RoundKey) (ks : List RoundKey) → held ks 0 ≡ k.columns → k.columns ≡ input key → Begun key 0 k ks
unfolding round_key
begun_none key k ks h e = record {
  last = e;
  so_far = λ j l. let z : j ≡ 0 = omega arith in ap (held ks) z ∙ h ∙ e ∙ ap (round_key key) (sym z);
}

pub begun_more : (key : List ℕ) (i : ℕ) (k n : RoundKey) (ks : List RoundKey) → i + 1 < length ks → Begun key i k ks →
    n.columns ≡ next_round_key (get_or round_constants i 0) k.columns → Begun key (i + 1) n (set ks (i + 1) n)
unfolding round_key
begun_more key i k n ks h b e =
    let next : n.columns ≡ round_key key (i + 1) =
    e ∙ ap (next_round_key (get_or round_constants i 0)) b.last ∙ ap (round_key key) (sym (add-one i)) in
    record {
      last = next;
      so_far =
          below_more _ _
          (λ j l.
          let other : j ≢ i + 1 = omega arith in
          ap (λ (x : RoundKey). x.columns) (get_or-set_other ks (i + 1) j n blank other) ∙ b.so_far j l)
          (ap (λ (x : RoundKey). x.columns) (get_or-set_same ks (i + 1) n blank h) ∙ next);
    }
