-- The running hash is the hash: by induction over the bytes, its state stands for the string so far. Assumes nothing.
use Rattle.std.proofs.Common.{◌≡◌, ℕ, ◌+◌, ◌-◌, ◌*◌, ◌/◌, ◌%◌, ◌<◌, ◌≤◌, List, [], ◌∷◌, ◌++◌, length, get_or, take, drop, replicate, sym, refl, ap, ◌∙◌, subst, ap₂, inl, inr, append_assoc, append-nil, arith, le-ltb, lt-ltb}
use lib.Bits.{bit_xor}
use Rattle.std.proofs.iter.runs.Lists.{fold-append}
use Rattle.std.proofs.lemmas.List.{take_all, take_more, drop_all, drop-append-le, length-drop, length_push, replicate_more}
use Rattle.std.proofs.lemmas.List.Sums.{fold_push}
use Rattle.std.proofs.lemmas.Bool.{cases_lt}
use Rattle.blocks.specs.Blocks.{number, number_from, AllBytes}
use Rattle.blocks.proofs.Bytes.{bytes_append, bytes_drop}
use Rattle.polynomials.specs.Polynomials.{product}
use Rattle.polyhash.specs.declared.running.Running.{Running}
use Rattle.polyhash.specs.Hash.{blocks_of, chained, hash}
use Rattle.polyhash.specs.Running.{started, longer, stepped, absorbed, finished, Laws}
use Rattle.polyhash.proofs.Chains.{shifted_in, bytes_zeros, number_push, blocks_append, blocks_push, chained_push}

pub stepped_low : (s : Running) (b : ℕ) → s.fill < 15 →
    stepped s b ≡ record { key = s.key; sum = s.sum; part = longer s.part b; fill = s.fill + 1 }
unfolding stepped
stepped_low s b h = rw (lt-ltb s.fill 15 h)

pub stepped_high : (s : Running) (b : ℕ) → 15 ≤ s.fill →
    stepped s b ≡ record { key = s.key; sum = product (bit_xor s.sum (longer s.part b)) s.key; part = 0; fill = 0 }
unfolding stepped
stepped_high s b h = rw (le-ltb s.fill 15 h)

pub absorbed_none : (s : Running) → s ≡ absorbed s []
unfolding absorbed
absorbed_none s = refl

pub absorbed_push : (s : Running) (bs : List ℕ) (b : ℕ) → absorbed s (bs ++ (b ∷ [])) ≡ stepped (absorbed s bs) b
unfolding absorbed
absorbed_push s bs b = fold_push stepped s bs b

-- one byte more of a list, and one zero more
pub absorbed_more : (s : Running) (bs : List ℕ) (i : ℕ) → i < length bs → absorbed s (take (i + 1) bs) ≡ stepped (absorbed s (take i bs)) (get_or bs i 0)
absorbed_more s bs i h = ap (absorbed s) (take_more bs i 0 h) ∙ absorbed_push s (take i bs) (get_or bs i 0)

absorbed_again : (s : Running) (n : ℕ) → absorbed s (replicate (n + 1) 0) ≡ stepped (absorbed s (replicate n 0)) 0
absorbed_again s n = ap (absorbed s) (sym (replicate_more n 0)) ∙ absorbed_push s (replicate n 0) 0

pub absorbed_zero : (s : Running) (i n : ℕ) → n ≤ i → absorbed s (replicate (i + 1 - n) 0) ≡ stepped (absorbed s (replicate (i - n) 0)) 0
absorbed_zero s i n h = let more : i + 1 - n ≡ i - n + 1 = omega arith in rw more (absorbed_again s (i - n))

pub absorbed_cons : (s : Running) (b : ℕ) (bs : List ℕ) → absorbed (stepped s b) bs ≡ absorbed s (b ∷ bs)
unfolding absorbed
absorbed_cons s b bs = refl

pub absorbed_append : (s : Running) (p q : List ℕ) → absorbed (absorbed s p) q ≡ absorbed s (p ++ q)
unfolding absorbed
absorbed_append s p q = sym (fold-append stepped s p q)

stepped_key : (s : Running) (b : ℕ) → (stepped s b).key ≡ s.key
stepped_key s b =
    elim (cases_lt s.fill 15) [
      | inl lo ↦ ap (λ (t : Running). t.key) (stepped_low s b lo)
      | inr hi ↦ ap (λ (t : Running). t.key) (stepped_high s b hi)
    ]

pub absorbed_key : (s : Running) (bs : List ℕ) → (absorbed s bs).key ≡ s.key
unfolding absorbed
absorbed_key s [] = refl
absorbed_key s (b ∷ bs) = absorbed_key (stepped s b) bs ∙ stepped_key s b

-- what the state s says of the string m so far
record Stands (k : ℕ) (s : Running) (m : List ℕ) : Type 0 where
  under : s.key ≡ k
  summed : s.sum ≡ chained k (blocks_of (length m / 16) m)
  held : s.part ≡ number (drop (length m / 16 * 16) m)
  filled : s.fill ≡ length m % 16

-- the bytes after the whole blocks, and their number, with a byte more
rest_push : (m : List ℕ) (b : ℕ) → drop (length m / 16 * 16) (m ++ (b ∷ [])) ≡ drop (length m / 16 * 16) m ++ (b ∷ [])
rest_push m b = drop-append-le (length m / 16 * 16) m (b ∷ []) (omega arith)

part_push : (m : List ℕ) (b part : ℕ) → AllBytes m → b < 256 → part ≡ number (drop (length m / 16 * 16) m) →
    longer part b ≡ number (drop (length m / 16 * 16) (m ++ (b ∷ [])))
part_push m b part bm hb e =
    let rest = drop (length m / 16 * 16) m in
    ap (λ n. longer n b) e
    ∙ number_push rest b (bytes_drop (length m / 16 * 16) m bm) hb (simp length-drop (omega arith))
    ∙ ap number (sym (rest_push m b))

module _ (k : ℕ) (s : Running) (m : List ℕ) (b : ℕ) (bm : AllBytes m) (hb : b < 256) (r : Stands k s m) where
  low : length m % 16 < 15 → Stands k (record { key = s.key; sum = s.sum; part = longer s.part b; fill = s.fill + 1 }) (m ++ (b ∷ []))
  low h =
      let n : length (m ++ (b ∷ [])) ≡ length m + 1 = length_push m b in
      let q : length (m ++ (b ∷ [])) / 16 ≡ length m / 16 = omega arith in
      let same = blocks_append (length m / 16) m (b ∷ []) (omega arith) in
      record {
        under = r.under;
        summed = r.summed ∙ ap (chained k) (sym (ap (λ j. blocks_of j (m ++ (b ∷ []))) q ∙ same));
        held = part_push m b s.part bm hb r.held ∙ ap (λ j. number (drop (j * 16) (m ++ (b ∷ [])))) (sym q);
        filled = omega (arith, r.filled);
      }

  high : 15 ≤ length m % 16 →
      Stands k (record { key = s.key; sum = product (bit_xor s.sum (longer s.part b)) s.key; part = 0; fill = 0 }) (m ++ (b ∷ []))
  unfolding number_from
  high h =
      let all = m ++ (b ∷ []) in
      let j = length m / 16 in
      let last = number (take 16 (drop (j * 16) all)) in
      let n : length (m ++ (b ∷ [])) ≡ length m + 1 = length_push m b in
      let q : length (m ++ (b ∷ [])) / 16 ≡ length m / 16 + 1 = omega arith in
      let one : take 16 (drop (j * 16) all) ≡ drop (j * 16) all = take_all 16 (drop (j * 16) all) (simp length-drop (omega arith)) in
      let full : length all ≤ length all / 16 * 16 = omega arith in
      record {
        under = r.under;
        summed =
            ap (product (bit_xor s.sum (longer s.part b))) r.under
            ∙ ap₂ (λ (x y : ℕ). product (bit_xor x y) k) r.summed (part_push m b s.part bm hb r.held ∙ ap number (sym one))
            ∙ sym (ap (λ i. chained k (blocks_of i all)) q
            ∙ ap (chained k) (blocks_push j all)
            ∙ chained_push k (blocks_of j all) last
            ∙ ap (λ bs. product (bit_xor (chained k bs) last) k) (blocks_append j m (b ∷ []) (omega arith)));
        held = sym (ap number (drop_all (length all / 16 * 16) all full));
        filled = omega arith;
      }

stands_push : (k : ℕ) (s : Running) (m : List ℕ) (b : ℕ) → AllBytes m → b < 256 → Stands k s m → Stands k (stepped s b) (m ++ (b ∷ []))
stands_push k s m b bm hb r =
    elim (cases_lt (length m % 16) 15) [
      | inl lo ↦
          subst (λ (t : Running). Stands k t (m ++ (b ∷ []))) (sym (stepped_low s b (omega (arith, r.filled)))) (low k s m b bm hb r lo)
      | inr hi ↦
          subst (λ (t : Running). Stands k t (m ++ (b ∷ []))) (sym (stepped_high s b (omega (arith, r.filled)))) (high k s m b bm hb r hi)
    ]

stands_append : (k : ℕ) (bs : List ℕ) (s : Running) (m : List ℕ) → AllBytes m → AllBytes bs → Stands k s m → Stands k (absorbed s bs) (m ++ bs)
unfolding absorbed
stands_append k [] s m bm bb r = rw (append-nil m) r
stands_append k (b ∷ bs) s m bm bb r =
    subst (λ (all : List ℕ). Stands k (absorbed (stepped s b) bs) all) (append_assoc m (b ∷ []) bs)
    (stands_append k bs (stepped s b) (m ++ (b ∷ [])) (bytes_append m (b ∷ []) bm (bb.0, tt)) bb.1 (stands_push k s m b bm bb.0 r))

stands_none : (k : ℕ) → Stands k (started k) []
unfolding number_from blocks_of chained
stands_none k = record { under = refl; summed = refl; held = refl; filled = refl }

-- the padding's bytes make the last block
stands-finished : (k : ℕ) (s : Running) (m : List ℕ) → AllBytes m → Stands k s m → finished s ≡ hash k m
unfolding hash
stands-finished k s m bm r =
    let zeros = 15 - length m % 16 in
    ap (λ (f : ℕ). (absorbed s (128 ∷ replicate (15 - f) 0)).sum) r.filled
    ∙ (stands_append k (128 ∷ replicate zeros 0) s m bm (omega arith, bytes_zeros zeros) r).summed

pub absorbed-finished : (k : ℕ) (m : List ℕ) → AllBytes m → finished (absorbed (started k) m) ≡ hash k m
absorbed-finished k m bm = stands-finished k (absorbed (started k) m) m bm (stands_append k m (started k) [] tt bm (stands_none k))

pub finished_whole : (s : Running) (m : List ℕ) → AllBytes m → s ≡ absorbed (started s.key) m → finished s ≡ hash s.key m
finished_whole s m bm e = ap finished e ∙ absorbed-finished s.key m bm

pub laws : Laws
laws = record { pieces = absorbed_append; keyed = absorbed_key; whole = absorbed-finished }

-- what the proofs of `step`, `absorb` and `finish` take
pub ruleset stepping = (shifted_in, stepped_low, stepped_high)

pub ruleset absorbing = (absorbed_none, absorbed_more, laws)

pub ruleset finishing = (absorbed_none, absorbed_zero, absorbed_cons, finished_whole)
