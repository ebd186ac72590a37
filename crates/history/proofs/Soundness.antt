-- Every history from set-up on is sound: its seals are within the limits and have the published ciphertext, and their nonces rise below a
-- front that the batch and the mark give. Assumes nothing.
use Rattle.std.proofs.Common.{◌≡◌, ℕ, zero, suc, ◌+◌, ◌*◌, ◌^◌, ◌<◌, ◌≤◌, Bool, true, false, ◌⊎◌, List, [], ◌∷◌, ◌++◌, map, length, get_or, set, Some, None, Ok, Option, sym, refl, ap, ◌∙◌, subst, inl, inr, ⊎_elim, arith}
use Rattle.std.proofs.lemmas.List.{map_push, map-set, set-get_or, length_push, length-map, get_or_push, get_or_append_left, get_or-map, length-append}
use Rattle.std.proofs.lemmas.Bool.{cases_lt, cases_order}
use Rattle.chm.specs.Sealers.{Standing, standing, batch}
use Rattle.chm.specs.declared.batch.Batch.{Batch}
use Rattle.method.specs.Published.{crypt}
use Rattle.blocks.proofs.Bytes.{bytes_append}
use Rattle.stores.proofs.Raises.{raised-lawful, restarted-lawful, raised_grows, raised-taken}
use Rattle.stores.specs.Store.{Store, raise_answer, raised, Lawful}
use Rattle.history.specs.Held.{Fine, AllFine, front, Backed, Rising, Sound}
use Rattle.history.specs.Laws.{nonce_of}
use Rattle.history.specs.Runs.{Asked, Said, Seal, seal, History, history, set_up, Tag, Is, Answers, tag_refused, down_refused, next_of_batch, first_of_batch, full_refused, power_refused, head_taken, head_refused, head_none, body_wrote, body_unlike, body_long, body_none, sealed_up, finish_none, restarts, Run, no_call, one_more}

front_le : (o : Option Batch) (m : ℕ) → Backed o m → front o m ≤ 1024 * m
front_le None m w = omega arith
front_le (Some b) m w = omega (arith, w.0, w.1)

front_mono : (o : Option Batch) (m m' : ℕ) → m ≤ m' → front o m ≤ front o m'
front_mono None m m' l = omega arith
front_mono (Some b) m m' l = omega arith

backed_mono : (o : Option Batch) (m m' : ℕ) → m ≤ m' → Backed o m → Backed o m'
backed_mono None m m' l w = tt
backed_mono (Some b) m m' l w = (omega (arith, w.0), w.1)

rising_weaker : (ns : List ℕ) (n m : ℕ) → n ≤ m → Rising ns n → Rising ns m
rising_weaker ns n m l r = record { below = λ i k. omega (arith, r.below i k); rises = r.rises }

-- a place of a list with one more at its end
push_at : {A : Type 0} (l : List A) (x d : A) (i : ℕ) → i < length (l ++ x ∷ [])
    → ((i < length l) × (get_or (l ++ x ∷ []) i d ≡ get_or l i d)) ⊎ ((i ≡ length l) × (get_or (l ++ x ∷ []) i d ≡ x))
push_at l x d i k =
    ⊎_elim
    (λ h. inl (h, get_or_append_left l (x ∷ []) d i h))
    (λ h. let e : i ≡ length l = omega (arith, length_push l x) in inr (e, get_or_push l x d i (sym e)))
    (cases_lt i (length l))

rising_push : (ns : List ℕ) (n x : ℕ) → n ≤ x → Rising ns n → Rising (ns ++ x ∷ []) (x + 1)
rising_push ns n x l r = record { below = below; rises = rises }
  where
    below : (i : ℕ) → i < length (ns ++ x ∷ []) → get_or (ns ++ x ∷ []) i 0 < x + 1
    below i k = ⊎_elim (λ h. omega (arith, h.1, r.below i h.0)) (λ h. omega (arith, h.1)) (push_at ns x 0 i k)

    rises : (i j : ℕ) → i < j → j < length (ns ++ x ∷ []) → get_or (ns ++ x ∷ []) i 0 < get_or (ns ++ x ∷ []) j 0
    rises i j u k =
        ⊎_elim
        (λ h. omega (arith, h.1, get_or_append_left ns (x ∷ []) 0 i (omega (arith, h.0)), r.rises i j u h.0))
        (λ h. let low : i < length ns = omega (arith, h.0) in omega (arith, h.1, get_or_append_left ns (x ∷ []) 0 i low, r.below i low))
        (push_at ns x 0 j k)

abbrev nonces : List Seal → List ℕ
nonces l = map (λ s. s.nonce) l

fine_push : (E : ℕ → ℕ) (l : List Seal) (s : Seal) → Fine E s → AllFine E l → AllFine E (l ++ s ∷ [])
fine_push E l s f a n d k =
    ⊎_elim (λ h. subst (Fine E) (sym h.1) (a n d h.0)) (λ h. subst (Fine E) (sym h.1) f) (push_at l s d n k)

fine-set : (E : ℕ → ℕ) (l : List Seal) (n : ℕ) (s : Seal) → Fine E s → AllFine E l → AllFine E (set l n s)
fine-set E [] n s f a i d k = a i d k
fine-set E (x ∷ l) zero s f a zero d k = f
fine-set E (x ∷ l) zero s f a (suc i) d k = a (suc i) d k
fine-set E (x ∷ l) (suc n) s f a zero d k = a zero d (omega arith)
fine-set E (x ∷ l) (suc n) s f a (suc i) d k = fine-set E l n s f (λ j d h. a (suc j) d (omega arith)) i d (omega arith)

pub fine-at : (E : ℕ → ℕ) (l : List Seal) (n : ℕ) (s : Seal) → Is l n s → AllFine E l → Fine E s
fine-at E l n s p a = subst (Fine E) p.1 (a n s p.0)

-- nothing yet of header and message
crypt_none : (E : ℕ → ℕ) (N : ℕ) → [] ≡ crypt E N []
unfolding crypt
crypt_none E N = refl

fine_new : (E : ℕ → ℕ) (N t : ℕ) → Tag t → Fine E (seal N t [] [] [] false)
fine_new E N t w = record {
  tagged = w;
  header_bytes = tt;
  message_bytes = tt;
  header_short = omega arith;
  message_short = omega arith;
  published = crypt_none E N;
}

-- a call on a draft keeps the nonces
kept : (l : List Seal) (n N t : ℕ) (H H' M M' C C' : List ℕ) (o o' : Bool) → Is l n (seal N t H M C o) → nonces (set l n (seal N t H' M' C' o')) ≡ nonces l
kept l n N t H H' M M' C C' o o' p =
    let e : get_or (nonces l) n 0 ≡ N = get_or-map (λ s. s.nonce) l n (seal N t H M C o) 0 p.0 ∙ ap (λ s. s.nonce) p.1 in
    map-set (λ s. s.nonce) l n (seal N t H' M' C' o') ∙ subst (λ x. set (nonces l) n x ≡ nonces l) e (set-get_or (nonces l) n 0)

-- one seal more, under the nonce x
joined : (l : List Seal) (n x t : ℕ) → n ≤ x → Rising (nonces l) n → Rising (nonces (l ++ seal x t [] [] [] false ∷ [])) (x + 1)
joined l n x t u r = rw (map_push (λ s. s.nonce) l (seal x t [] [] [] false)) (rising_push (nonces l) n x u r)

-- a raise that brings no batch
no_batch : (E : ℕ → ℕ) (s : Store) (o : Option Batch) (l : List Seal) (live live' : Bool) → Sound E (history (standing s live o) l)
    → Sound E (history (standing (raised s) live' o) l)
no_batch E s o l live live' g =
    let w = raised_grows s in
    record {
      fine = g.fine;
      lawful = raised-lawful s g.lawful;
      backed = backed_mono o s.mark (raised s).mark w g.backed;
      rising = rising_weaker (nonces l) (front o s.mark) (front o (raised s).mark) (front_mono o s.mark (raised s).mark w) g.rising;
    }

in_batch : (E : ℕ → ℕ) (s : Store) (o : Option Batch) (b : Batch) (l : List Seal) (t : ℕ) (live : Bool) → Tag t → o ≡ Some b → b.given < 1024
    → Sound E (history (standing s live o) l)
    → Sound E (history (standing s true (Some (batch b.number (b.given + 1)))) (l ++ seal (1024 * b.number + b.given) t [] [] [] false ∷ []))
in_batch E s o b l t live v e u g =
    let w : Backed (Some b) s.mark = subst (λ x. Backed x s.mark) e g.backed in
    let r : Rising (nonces l) (1024 * b.number + b.given) = subst (λ x. Rising (nonces l) (front x s.mark)) e g.rising in
    let N = 1024 * b.number + b.given in
    record {
      fine = fine_push E l (seal N t [] [] [] false) (fine_new E N t v) g.fine;
      lawful = g.lawful;
      backed = (w.0, omega arith);
      rising = rising_weaker (nonces (l ++ seal N t [] [] [] false ∷ [])) (N + 1) (1024 * b.number + (b.given + 1)) (omega arith) (joined l N N t (omega arith) r);
    }

new_batch : (E : ℕ → ℕ) (s : Store) (o : Option Batch) (m : ℕ) (l : List Seal) (t : ℕ) (live : Bool) → Tag t → raise_answer s ≡ Ok m
    → Sound E (history (standing s live o) l)
    → Sound E (history (standing (raised s) true (Some (batch m 1))) (l ++ seal (1024 * m) t [] [] [] false ∷ []))
new_batch E s o m l t live v e g =
    let k = raised-taken s m e in
    record {
      fine = fine_push E l (seal (1024 * m) t [] [] [] false) (fine_new E (1024 * m) t v) g.fine;
      lawful = raised-lawful s g.lawful;
      backed = (omega (arith, k.is_mark, k.next), omega arith);
      rising = joined l (front o s.mark) (1024 * m) t (omega (arith, k.is_mark, front_le o s.mark g.backed)) g.rising;
    }

-- a call on a draft changes one seal, and leaves it fine
one-seal : (E : ℕ → ℕ) (s : Standing) (l : List Seal) (n N t : ℕ) (H H' M M' C C' : List ℕ) (o o' : Bool) → Is l n (seal N t H M C o)
    → Fine E (seal N t H' M' C' o') → Sound E (history s l) → Sound E (history s (set l n (seal N t H' M' C' o')))
one-seal E s l n N t H H' M M' C C' o o' p f g = record {
  fine = fine-set E l n (seal N t H' M' C' o') f g.fine;
  lawful = g.lawful;
  backed = g.backed;
  rising = rw (kept l n N t H H' M M' C C' o o' p) g.rising;
}

pub answers_sound : (E : ℕ → ℕ) (h k : History) (c : Asked) (r : Said) → Answers E h c r k → Sound E h → Sound E k
answers_sound E h k c r (tag_refused w) g = g
answers_sound E h k c r (down_refused w e) g = g
answers_sound E h k c r (next_of_batch {t} {b} w on e l) g = in_batch E h.now.store h.now.batch b h.seals t h.now.live w e l g
answers_sound E h k c r (first_of_batch {t} {m} w on p e) g = new_batch E h.now.store h.now.batch m h.seals t h.now.live w e g
answers_sound E h k c r (full_refused w on p e) g = no_batch E h.now.store h.now.batch h.seals h.now.live true g
answers_sound E h k c r (power_refused w on p e) g = no_batch E h.now.store h.now.batch h.seals h.now.live false g
answers_sound E h k c r (head_taken {n} {N} {t} {H} {M} {C} {P} p b l) g =
    let f = fine-at E h.seals n (seal N t H M C false) p g.fine in
    one-seal E h.now h.seals n N t H (H ++ P) M M C C false false p
    record {
      tagged = f.tagged;
      header_bytes = bytes_append H P f.header_bytes b;
      message_bytes = f.message_bytes;
      header_short = omega (arith, l, length-append H P);
      message_short = f.message_short;
      published = f.published;
    }
    g
answers_sound E h k c r (head_refused p l) g = g
answers_sound E h k c r (head_none p) g = g
answers_sound E h k c r (body_wrote {n} {N} {t} {room} {H} {M} {C} {P} {W} p b e l q) g =
    let f = fine-at E h.seals n (seal N t H M C false) p g.fine in
    one-seal E h.now h.seals n N t H H M (M ++ P) C (C ++ W) false false p
    record {
      tagged = f.tagged;
      header_bytes = f.header_bytes;
      message_bytes = bytes_append M P f.message_bytes b;
      header_short = f.header_short;
      message_short = omega (arith, l, length-append M P);
      published = sym q;
    }
    g
answers_sound E h k c r (body_unlike p e) g = g
answers_sound E h k c r (body_long p e l) g = g
answers_sound E h k c r (body_none p) g = g
answers_sound E h k c r (sealed_up {n} {N} {t} {H} {M} {C} p) g =
    let f = fine-at E h.seals n (seal N t H M C false) p g.fine in
    one-seal E h.now h.seals n N t H H M M C C false true p
    record {
      tagged = f.tagged;
      header_bytes = f.header_bytes;
      message_bytes = f.message_bytes;
      header_short = f.header_short;
      message_short = f.message_short;
      published = f.published;
    }
    g
answers_sound E h k c r (finish_none p) g = g
answers_sound E h k c r (restarts {p} {v}) g = record {
  fine = g.fine;
  lawful = restarted-lawful h.now.store p v g.lawful;
  backed = tt;
  rising = rising_weaker (nonces h.seals) (front h.now.batch h.now.store.mark) (1024 * h.now.store.mark)
      (front_le h.now.batch h.now.store.mark g.backed) g.rising;
}

steps_sound : (E : ℕ → ℕ) (h k : History) (cs : List Asked) (rs : List Said) → Run E h cs rs k → Sound E h → Sound E k
steps_sound E h k cs rs no_call g = g
steps_sound E h k cs rs (one_more {cs = cs'} {rs = rs'} {c} {r} {k = m} q a) g = answers_sound E m _ c r a (steps_sound E h m cs' rs' q g)

pub run_sound : (E : ℕ → ℕ) (s : Store) → Lawful s → (cs : List Asked) (rs : List Said) (k : History) → Run E (set_up s) cs rs k → Sound E k
run_sound E s w cs rs k q =
    steps_sound E (set_up s) k cs rs q
    record {
      fine = λ n d l. absurd (omega arith);
      lawful = w;
      backed = tt;
      rising = record { below = λ i l. absurd (omega arith); rises = λ i j l m. absurd (omega arith) };
    }

-- nonces are below 2^63, and two seals of one nonce are one
pub record Apart (l : List Seal) : Type 0 where
  pub low : (i : ℕ) → i < length l → nonce_of l i < 2 ^ 63
  pub same : (i j : ℕ) → i < length l → j < length l → nonce_of l i ≡ nonce_of l j → i ≡ j

pub sound_apart : (E : ℕ → ℕ) (h : History) → Sound E h → Apart h.seals
sound_apart E h g = record {
  low = λ i k. omega (arith, long, g.rising.below i (omega (arith, long)), front_le h.now.batch h.now.store.mark g.backed, g.lawful.within, g.lawful.small);
  same = λ i j ki kj e. ⊎_elim (λ p. p)
      (λ q. absurd (⊎_elim (λ p. omega (arith, g.rising.rises i j p (omega (arith, long)))) (λ p. omega (arith, g.rising.rises j i p (omega (arith, long)))) q))
      (cases_order i j);
}
  where
    long : length (nonces h.seals) ≡ length h.seals
    long = length-map h.seals (λ s. s.nonce)

-- the nonce of a seal that is there
pub nonce_low : (E : ℕ → ℕ) (h : History) (n : ℕ) (s : Seal) → Is h.seals n s → Sound E h → s.nonce < 2 ^ 63
nonce_low E h n s p g =
    let e : nonce_of h.seals n ≡ s.nonce = get_or-map (λ x. x.nonce) h.seals n s 0 p.0 ∙ ap (λ x. x.nonce) p.1 in
    omega (arith, e, (sound_apart E h g).low n p.0)
