-- A draft that takes a piece, and one that is finished, in terms of the published method. Assumes nothing.
use Rattle.std.proofs.Common.{◌≡◌, ℕ, zero, suc, ◌+◌, ◌-◌, ◌%◌, ◌^◌, ◌<◌, ◌≤◌, cond, leb, List, [], ◌∷◌, ◌++◌, map, length, get_or, replicate, Ok, Err, sym, refl, ap, ◌∙◌, ap₂, arith}
use lib.Bits.{bit_xor, xor_lt}
use Rattle.std.proofs.lemmas.List.FromFn.{get_or-map-range_with_len}
use Rattle.std.proofs.lemmas.List.{length-append, get_or_append_left, get_or-append-add}
use Rattle.std.proofs.lemmas.Bool.{le-leb, eq-eqb}
use Rattle.std.specs.List.{range_with_len}
use Rattle.blocks.proofs.Numbers.{bytes_of_bytes, all_bytes}
use Rattle.blocks.specs.Blocks.{AllBytes}
use Rattle.keystream.proofs.Counts.{map_counting_same, map_counting_append}
use Rattle.keystream.specs.Counters.{block_at, stream_byte, ciphered, const0, const1}
use Rattle.method.proofs.Closed.{crypt_is, tag_is}
use Rattle.method.proofs.Undone.{length-ciphered, length-crypt}
use Rattle.method.specs.Limits.{header_limit, message_limit, header_too_long, message_too_long, lengths_differ}
use Rattle.method.specs.Published.{crypt, tag, tag_block}
use Rattle.polyhash.proofs.Runs.{absorbed_append, absorbed-finished}
use Rattle.polyhash.specs.Hash.{hash}
use Rattle.polyhash.specs.Running.{started, absorbed}
use Rattle.polyhash.specs.declared.running.Running.{Running}
use Rattle.refusals.specs.Answers.{Answer}
use Rattle.chm.proofs.Helds.{steps-held, sent-held, held_len}
use Rattle.chm.specs.Drafts.{draft, words_of, if_accepted, head_answer, headed, body_answer, bodied, tag_then_zeros, sealed}
use Rattle.chm.specs.Laws.{DraftLaws}
use Rattle.chm.specs.Words.{held, sent}
use Rattle.chm.specs.declared.words.KeyWords.{KeyWords}

ciphered_append : (E : ℕ → ℕ) (N o : ℕ) (m p : List ℕ) → ciphered E N o (m ++ p) ≡ ciphered E N o m ++ ciphered E N (o + length m) p
ciphered_append E N o m p =
    ap (λ l. map f (range_with_len 0 l)) (length-append m p)
    ∙ map_counting_append f 0 (length m) (length p)
    ∙ ap (λ xs. xs ++ map f (range_with_len (0 + length m) (length p)))
    (map_counting_same f _ 0 0 (length m) (λ i h.
    ap (λ x. bit_xor x (stream_byte E N (o + (0 + i)))) (get_or_append_left m p 0 (0 + i) (omega arith))))
    ∙ ap (λ xs. ciphered E N o m ++ xs)
    (map_counting_same f _ (0 + length m) 0 (length p) (λ i h.
    let e : 0 + length m + i ≡ length m + (0 + i) = omega arith in
    let d : o + (length m + (0 + i)) ≡ o + length m + (0 + i) = omega arith in
    ap f e
    ∙ ap (λ x. bit_xor x (stream_byte E N (o + (length m + (0 + i))))) (get_or-append-add m p (0 + i) 0)
    ∙ ap (λ z. bit_xor (get_or p (0 + i) 0) (stream_byte E N z)) d))
  where
    f : ℕ → ℕ
    f k = bit_xor (get_or (m ++ p) k 0) (stream_byte E N (o + k))

-- bytes stay bytes
byte_at : (xs : List ℕ) (i : ℕ) → AllBytes xs → get_or xs i 0 < 256
byte_at [] i b = omega arith
byte_at (x ∷ xs) zero b = b.0
byte_at (x ∷ xs) (suc i) b = byte_at xs i b.1

stream_byte_lt : (E : ℕ → ℕ) (N o : ℕ) → stream_byte E N o < 256
unfolding stream_byte
stream_byte_lt E N o = byte_at _ (o % 16) (bytes_of_bytes 16 _)

ciphered_bytes : (E : ℕ → ℕ) (N o : ℕ) (m : List ℕ) → AllBytes m → AllBytes (ciphered E N o m)
ciphered_bytes E N o m b = all_bytes (ciphered E N o m) (λ i h.
    rw (get_or-map-range_with_len (λ k. bit_xor (get_or m k 0) (stream_byte E N (o + k))) 0 (length m) i i 0 (omega (arith, length-ciphered E N o m)) (omega arith))
    (xor_lt 8 (get_or m i 0) (stream_byte E N (o + i)) (byte_at m i b) (stream_byte_lt E N (o + i))))

accepted : {X : Type 0} (r : Answer (Unit {0})) (x y : X) → r ≡ Ok tt → if_accepted r x y ≡ x
accepted r x y e = ap (λ s. if_accepted s x y) e

same_draft : (n t b : ℕ) (w v : KeyWords) (c d : Running) (l m : ℕ) (h i : Running) → w ≡ v → c ≡ d → l ≡ m → h ≡ i
    → draft n t b w c l h ≡ draft n t b v d m i
same_draft n t b w v c d l m h i p q r s = rw (p, q, r, s) refl

module _ (E : ℕ → ℕ) (N t : ℕ) (h m p : List ℕ) where
  joined : ciphered E N 0 (m ++ p) ≡ ciphered E N 0 m ++ sent E N (held E N (length m)) p
  joined =
      let z : 0 + length m ≡ length m = omega arith in
      ciphered_append E N 0 m p
      ∙ ap (λ xs. ciphered E N 0 m ++ xs) (ap (λ o. ciphered E N o p) z ∙ sym (sent-held E N (length m) p))

  head_joins : length h + length p ≤ header_limit → headed (words_of E N t h m) p ≡ words_of E N t (h ++ p) m
  head_joins fits =
      accepted (head_answer (words_of E N t h m) p) _ (words_of E N t h m)
      (ap (λ b. cond b (Ok tt) (Err header_too_long)) (le-leb (length h + length p) header_limit fits))
      ∙ same_draft N t _ _ _ _ _ _ _ _ _ refl refl (sym (length-append h p)) (absorbed_append (started (E const1)) h p)

  body-taken : length m + length p ≤ message_limit → body_answer (words_of E N t h m) p (length p) ≡ Ok tt
  body-taken fits =
      ap (λ b. cond b (cond (leb ((held E N (length m)).len + length p) message_limit) (Ok tt) (Err message_too_long)) (Err lengths_differ)) (eq-eqb (length p) (length p) refl)
      ∙ ap (λ b. cond b (Ok tt) (Err message_too_long))
      (le-leb ((held E N (length m)).len + length p) message_limit (omega (arith, held_len E N (length m))))

  body_joins : length m + length p ≤ message_limit → bodied E (words_of E N t h m) p (length p) ≡ words_of E N t h (m ++ p)
  body_joins fits =
      accepted (body_answer (words_of E N t h m) p (length p)) _ (words_of E N t h m) (body-taken fits)
      ∙ same_draft N t _ _ _ _ _ _ _ _ _ (steps-held E N (length m) (length p) ∙ ap (held E N) (sym (length-append m p)))
      (absorbed_append (started (E const0)) (ciphered E N 0 m) _ ∙ ap (absorbed (started (E const0))) (sym joined)) refl refl

  writes_join : N < 2 ^ 63 → length m + length p ≤ message_limit → crypt E N (m ++ p) ≡ crypt E N m ++ sent E N (held E N (length m)) p
  writes_join n fits =
      crypt_is E N (m ++ p) n (omega (arith, length-append m p))
      ∙ joined
      ∙ ap (λ xs. xs ++ sent E N (held E N (length m)) p) (sym (crypt_is E N m n (omega arith)))

  tag_joins : N < 2 ^ 63 → length m ≤ message_limit → AllBytes h → AllBytes m
      → (sealed (words_of E N t h m)).tag ≡ tag E t N h (crypt E N m) ++ replicate (16 - t) 0
  tag_joins n fits bh bm =
      let c = crypt_is E N m n (omega arith) in
      ap₂ (λ (x y : ℕ). tag_then_zeros (tag_block x y (block_at E N 0)) t)
      (absorbed-finished (E const0) (ciphered E N 0 m) (ciphered_bytes E N 0 m bm) ∙ ap (hash (E const0)) (sym c))
      (absorbed-finished (E const1) h bh)
      ∙ ap (λ xs. xs ++ replicate (16 - t) 0) (sym (tag_is E t N h (crypt E N m) n (omega (arith, length-crypt E N m n (omega arith)))))

pub draft_laws : DraftLaws
draft_laws =
    record {
      heads = head_joins;
      bodies = body_joins;
      writes = λ E N m p. writes_join E N 0 [] m p;
      tags = λ E N t h m. tag_joins E N t h m [];
    }
