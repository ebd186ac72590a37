-- What the calls compute is what the rules of a run say, in every sound history that the code holds. Assumes nothing.
use Rattle.std.proofs.Common.{◌≡◌, ℕ, zero, suc, ◌+◌, ◌-◌, ◌*◌, ◌^◌, ◌<◌, ◌≤◌, Bool, true, false, cond, ◌&&◌, eqb, ltb, leb, List, [], ◌∷◌, ◌++◌, map, length, get_or, set, replicate, Some, None, Ok, Err, Option, sym, refl, ap, ◌∙◌, subst, arith, le-leb, leb-false, leb-true}
use Rattle.std.proofs.lemmas.List.{append-nil, map_push, map-set, set-get_or, length-map}
use Rattle.std.proofs.lemmas.Bool.{eqb-true, eqb-false, ltb-true, ltb-false, and_parts, and_from, both_ways}
use Rattle.blocks.specs.Blocks.{AllBytes}
use Rattle.chm.proofs.Helds.{held_len}
use Rattle.chm.proofs.Pieces.{draft_laws}
use Rattle.chm.specs.Drafts.{words_of, headed, bodied}
use Rattle.chm.specs.Sealers.{Standing, standing, batch, sealer_down, begin_answer, begun, issue_answer, issued, drafted, raise_nonce, restarted_sealer}
use Rattle.chm.specs.Words.{sent, held}
use Rattle.chm.specs.declared.batch.Batch.{Batch}
use Rattle.chm.specs.declared.draft.Draft.{Draft}
use Rattle.method.specs.Limits.{header_limit, message_limit, tag_fits, header_too_long, message_too_long, lengths_differ, bad_tag_length}
use Rattle.method.specs.Published.{tag}
use Rattle.refusals.specs.Answers.{Answer}
use Rattle.stores.specs.Store.{Store, full, power_failed, raise_answer, raised}
use Rattle.history.proofs.Soundness.{fine-at, nonce_low}
use Rattle.history.specs.Held.{slot, Fine, Sound, Next, Answered}
use Rattle.history.specs.Runs.{Asked, begin, head, body, finish, restart, Said, taken, wrote, finished, restarted_so, Seal, seal, History, history, Spent, Is, Closed, Tag, Answers, tag_refused, down_refused, next_of_batch, first_of_batch, full_refused, power_refused, head_taken, head_refused, head_none, body_wrote, body_unlike, body_long, body_none, sealed_up, finish_none, restarts}
use Rattle.history.specs.Slots.{begin_said, new_slot, done_said, head_said, head_slot, body_said, body_slot, finish_said}

-- begin: the answer b, and what is then the case, s
abbrev Begins : (ℕ → ℕ) → History → ℕ → Answer Draft → Standing → Type 0
Begins E h t b s = Next E h (begin t) (begin_said (length h.seals) b) s (map (slot E) h.seals ++ new_slot b)

-- the four cases of a raise, over its three tests: on, the mark at the capacity, power left
raising : (E : ℕ → ℕ) (s : Store) (o : Option Batch) (l : List Seal) (t : ℕ) → Tag t → Spent o → (on at_end more : Bool)
    → raise_answer s ≡ cond on (cond at_end (Err full) (cond more (Ok s.mark) (Err power_failed))) (Err power_failed)
    → Begins E (history (standing s true o) l) t
    (drafted E t (raise_nonce (cond on (cond at_end (Err full) (cond more (Ok s.mark) (Err power_failed))) (Err power_failed))))
    (standing (raised s) (cond on (cond at_end true (cond more true false)) false) (cond on (cond at_end o (cond more (Some (batch s.mark 1)) o)) o))
raising E s o l t w p false at_end more e = record {
  after = history (standing (raised s) false o) l;
  answers = power_refused w refl p e;
  held = record { stands = refl; drafts = append-nil (map (slot E) l) };
}
raising E s o l t w p true true more e = record {
  after = history (standing (raised s) true o) l;
  answers = full_refused w refl p e;
  held = record { stands = refl; drafts = append-nil (map (slot E) l) };
}
raising E s o l t w p true false true e = record {
  after = history (standing (raised s) true (Some (batch s.mark 1))) (l ++ seal (1024 * s.mark) t [] [] [] false ∷ []);
  answers = first_of_batch w refl p e;
  held = record { stands = refl; drafts = sym (map_push (slot E) l (seal (1024 * s.mark) t [] [] [] false)) };
}
raising E s o l t w p true false false e = record {
  after = history (standing (raised s) false o) l;
  answers = power_refused w refl p e;
  held = record { stands = refl; drafts = append-nil (map (slot E) l) };
}

-- a live sealer
live : (E : ℕ → ℕ) (s : Store) (o : Option Batch) (l : List Seal) (t : ℕ) → Tag t
    → Begins E (history (standing s true o) l) t (drafted E t (issue_answer (standing s true o))) (issued (standing s true o))
live E s None l t w = raising E s None l t w tt s.on (eqb s.mark s.capacity) (ltb 0 s.power) refl
live E s (Some b) l t w = go (ltb b.given 1024) refl
  where
    go : (left : Bool) → ltb b.given 1024 ≡ left
        → Begins E (history (standing s true (Some b)) l) t
        (drafted E t (cond left (Ok (1024 * b.number + b.given)) (raise_nonce (raise_answer s))))
        (cond left (standing s true (Some (batch b.number (b.given + 1))))
        (standing (raised s)
        (cond s.on (cond (eqb s.mark s.capacity) true (cond (ltb 0 s.power) true false)) false)
        (cond s.on (cond (eqb s.mark s.capacity) (Some b) (cond (ltb 0 s.power) (Some (batch s.mark 1)) (Some b))) (Some b))))
    go true e = record {
      after = history (standing s true (Some (batch b.number (b.given + 1)))) (l ++ seal (1024 * b.number + b.given) t [] [] [] false ∷ []);
      answers = next_of_batch w refl refl (ltb-true b.given 1024 e);
      held = record { stands = refl; drafts = sym (map_push (slot E) l (seal (1024 * b.number + b.given) t [] [] [] false)) };
    }
    go false e = raising E s (Some b) l t w (ltb-false b.given 1024 e) s.on (eqb s.mark s.capacity) (ltb 0 s.power) refl

live_or_down : (E : ℕ → ℕ) (s : Store) (on : Bool) (o : Option Batch) (l : List Seal) (t : ℕ) → Tag t
    → Begins E (history (standing s on o) l) t (cond on (drafted E t (issue_answer (standing s on o))) (Err sealer_down))
    (cond on (issued (standing s on o)) (standing s on o))
live_or_down E s false o l t w = record {
  after = history (standing s false o) l;
  answers = down_refused w refl;
  held = record { stands = refl; drafts = append-nil (map (slot E) l) };
}
live_or_down E s true o l t w = live E s o l t w

tag_from : (t : ℕ) → tag_fits t ≡ true → Tag t
tag_from t e = let p = and_parts (leb 12 t) (leb t 16) e in (leb-true 12 t p.0, leb-true t 16 p.1)

no_tag : (t : ℕ) → tag_fits t ≡ false → Tag t → ⊥
no_tag t e w = both_ways (tag_fits t) e (and_from (leb 12 t) (leb t 16) (le-leb 12 t w.0) (le-leb t 16 w.1))

begins : (E : ℕ → ℕ) (h : History) (t : ℕ) → Begins E h t (begin_answer E h.now t) (begun h.now t)
begins E h t = go (tag_fits t) refl
  where
    go : (b : Bool) → tag_fits t ≡ b
        → Begins E h t (cond b (cond h.now.live (drafted E t (issue_answer h.now)) (Err sealer_down)) (Err bad_tag_length))
        (cond (b && h.now.live) (issued h.now) h.now)
    go true e = live_or_down E h.now.store h.now.live h.now.batch h.seals t (tag_from t e)
    go false e = record {
      after = h;
      answers = tag_refused (no_tag t e);
      held = record { stands = refl; drafts = append-nil (map (slot E) h.seals) };
    }

-- what stands at the place of number n
data At (E : ℕ → ℕ) (l : List Seal) (n : ℕ) : Option Draft → Type 0 where
  open_at : {N t : ℕ} {H M C : List ℕ} → Is l n (seal N t H M C false) → At E l n (Some (words_of E N t H M))
  none_at : Closed l n → At E l n None

look : (E : ℕ → ℕ) (l : List Seal) (n : ℕ) → At E l n (get_or (map (slot E) l) n None)
look E [] n = none_at (λ s k. absurd (omega arith))
look E (s ∷ l) zero = first s.nonce s.tag_length s.header s.message s.ciphertext s.over
  where
    first : (N t : ℕ) (H M C : List ℕ) (o : Bool) → At E (seal N t H M C o ∷ l) zero (slot E (seal N t H M C o))
    first N t H M C true = none_at (λ s k. refl)
    first N t H M C false = open_at (omega arith, refl)
look E (s ∷ l) (suc n) = later (get_or (map (slot E) l) n None) (look E l n)
  where
    later : (x : Option Draft) → At E l n x → At E (s ∷ l) (suc n) x
    later x (open_at p) = open_at (omega (arith, p.0), p.1)
    later x (none_at p) = none_at (λ d k. p d (omega arith))

heads : (E : ℕ → ℕ) (h : History) (n : ℕ) (P : List ℕ) → AllBytes P
    → Next E h (head n P) (head_said (get_or (map (slot E) h.seals) n None) P) h.now
    (set (map (slot E) h.seals) n (head_slot (get_or (map (slot E) h.seals) n None) P))
heads E h n P bytes = go (get_or (map (slot E) h.seals) n None) refl (look E h.seals n)
  where
    ds : List (Option Draft)
    ds = map (slot E) h.seals

    go : (x : Option Draft) → get_or (map (slot E) h.seals) n None ≡ x → At E h.seals n x
        → Next E h (head n P) (head_said x P) h.now (set (map (slot E) h.seals) n (head_slot x P))
    go x e (none_at p) = record {
      after = h;
      answers = head_none p;
      held = record { stands = refl; drafts = rw (← e) (set-get_or (map (slot E) h.seals) n None) };
    }
    go x e (open_at {N} {t} {H} {M} {C} p) = fit (leb (length H + length P) header_limit) refl
      where
        fit : (b : Bool) → leb (length H + length P) header_limit ≡ b
            → Next E h (head n P) (done_said taken (cond b (Ok tt) (Err header_too_long))) h.now
            (set (map (slot E) h.seals) n (Some (headed (words_of E N t H M) P)))
        fit true f = record {
          after = history h.now (set h.seals n (seal N t (H ++ P) M C false));
          answers = head_taken p bytes (leb-true (length H + length P) header_limit f);
          held = record {
            stands = refl;
            drafts =
                ap (λ d. set (map (slot E) h.seals) n (Some d)) (draft_laws.heads E N t H M P (leb-true (length H + length P) header_limit f))
                ∙ sym (map-set (slot E) h.seals n (seal N t (H ++ P) M C false));
          };
        }
        fit false f = record {
          after = h;
          answers = head_refused p (leb-false (length H + length P) header_limit f);
          held = record {
            stands = refl;
            drafts = rw f (rw (← e) (set-get_or (map (slot E) h.seals) n None));
          };
        }

bodies : (E : ℕ → ℕ) (h : History) → Sound E h → (n : ℕ) (P : List ℕ) (room : ℕ) → AllBytes P
    → Next E h (body n P room) (body_said E (get_or (map (slot E) h.seals) n None) P room) h.now
    (set (map (slot E) h.seals) n (body_slot E (get_or (map (slot E) h.seals) n None) P room))
bodies E h g n P room bytes = go (get_or (map (slot E) h.seals) n None) refl (look E h.seals n)
  where
    go : (x : Option Draft) → get_or (map (slot E) h.seals) n None ≡ x → At E h.seals n x
        → Next E h (body n P room) (body_said E x P room) h.now (set (map (slot E) h.seals) n (body_slot E x P room))
    go x e (none_at p) = record {
      after = h;
      answers = body_none p;
      held = record { stands = refl; drafts = rw (← e) (set-get_or (map (slot E) h.seals) n None) };
    }
    go x e (open_at {N} {t} {H} {M} {C} p) = fit (eqb room (length P)) refl (leb ((held E N (length M)).len + length P) message_limit) refl
      where
        len : (held E N (length M)).len ≡ length M
        len = held_len E N (length M)

        fine : Fine E (seal N t H M C false)
        fine = fine-at E h.seals n (seal N t H M C false) p g.fine

        low : N < 2 ^ 63
        low = nonce_low E h n (seal N t H M C false) p g

        W : List ℕ
        W = sent E N (held E N (length M)) P

        same : set (map (slot E) h.seals) n (Some (words_of E N t H M)) ≡ map (slot E) h.seals
        same = rw (← e) (set-get_or (map (slot E) h.seals) n None)

        fit : (a : Bool) → eqb room (length P) ≡ a → (b : Bool) → leb ((held E N (length M)).len + length P) message_limit ≡ b
            → Next E h (body n P room) (done_said (wrote W) (cond a (cond b (Ok tt) (Err message_too_long)) (Err lengths_differ))) h.now
            (set (map (slot E) h.seals) n (Some (bodied E (words_of E N t H M) P room)))
        fit true f true k =
            let is : room ≡ length P = eqb-true room (length P) f in
            let short : length M + length P ≤ message_limit = omega (arith, len, leb-true ((held E N (length M)).len + length P) message_limit k) in
            record {
              after = history h.now (set h.seals n (seal N t H (M ++ P) (C ++ W) false));
              answers = body_wrote p bytes is short (draft_laws.writes E N M P low short ∙ ap (λ c. c ++ W) (sym fine.published));
              held = record {
                stands = refl;
                drafts =
                    ap (λ r. set (map (slot E) h.seals) n (Some (bodied E (words_of E N t H M) P r))) is
                    ∙ ap (λ d. set (map (slot E) h.seals) n (Some d)) (draft_laws.bodies E N t H M P short)
                    ∙ sym (map-set (slot E) h.seals n (seal N t H (M ++ P) (C ++ W) false));
              };
            }
        fit true f false k = record {
          after = h;
          answers = body_long p (eqb-true room (length P) f) (omega (arith, len, leb-false ((held E N (length M)).len + length P) message_limit k));
          held = record { stands = refl; drafts = rw (f, k) same };
        }
        fit false f b k = record {
          after = h;
          answers = body_unlike p (eqb-false room (length P) f);
          held = record { stands = refl; drafts = rw f same };
        }

finishes : (E : ℕ → ℕ) (h : History) → Sound E h → (n : ℕ)
    → Next E h (finish n) (finish_said (get_or (map (slot E) h.seals) n None)) h.now (set (map (slot E) h.seals) n None)
finishes E h g n = go (get_or (map (slot E) h.seals) n None) refl (look E h.seals n)
  where
    go : (x : Option Draft) → get_or (map (slot E) h.seals) n None ≡ x → At E h.seals n x
        → Next E h (finish n) (finish_said x) h.now (set (map (slot E) h.seals) n None)
    go x e (none_at p) = record {
      after = h;
      answers = finish_none p;
      held = record {
        stands = refl;
        drafts = subst (λ y. set (map (slot E) h.seals) n y ≡ map (slot E) h.seals) e (set-get_or (map (slot E) h.seals) n None);
      };
    }
    go x e (open_at {N} {t} {H} {M} {C} p) =
        let f = fine-at E h.seals n (seal N t H M C false) p g.fine in
        let low = nonce_low E h n (seal N t H M C false) p g in
        let bytes = draft_laws.tags E N t H M low f.message_short f.header_bytes f.message_bytes in
        record {
          after = history h.now (set h.seals n (seal N t H M C true));
          answers =
              subst (λ b. Answers E h (finish n) (finished N t b) (history h.now (set h.seals n (seal N t H M C true))))
              (ap (λ c. tag E t N H c ++ replicate (16 - t) 0) f.published ∙ sym bytes) (sealed_up p);
          held = record { stands = refl; drafts = sym (map-set (slot E) h.seals n (seal N t H M C true)) };
        }

-- what is known of other names for the same
carried : (E : ℕ → ℕ) (h : History) (c c' : Asked) (r r' : Said) (s s' : Standing) (ds ds' : List (Option Draft)) → c' ≡ c → r' ≡ r → s' ≡ s → ds' ≡ ds
    → Next E h c r s ds → Next E h c' r' s' ds'
carried E h c c' r r' s s' ds ds' ec er es ed x = record {
  after = x.after;
  answers = rw (ec, er) x.answers;
  held = record { stands = es ∙ x.held.stands; drafts = ed ∙ x.held.drafts };
}

pub begin-answered : (E : ℕ → ℕ) (s s' : Standing) (ds ds' : List (Option Draft)) (n t : ℕ) (c : Asked) (r : Said) → c ≡ begin t → n ≡ length ds
    → r ≡ begin_said n (begin_answer E s t) → s' ≡ begun s t → ds' ≡ ds ++ new_slot (begin_answer E s t) → Answered E s ds c r s' ds'
begin-answered E s s' ds ds' n t c r ec en er es ed h g w =
    let len : n ≡ length h.seals = en ∙ ap length w.drafts ∙ length-map h.seals (slot E) in
    carried E h (begin t) c _ r _ s' _ ds' ec
    (er ∙ rw (len, w.stands) refl)
    (es ∙ ap (λ y. begun y t) w.stands)
    (ed ∙ rw (w.drafts, w.stands) refl)
    (begins E h t)

pub head-answered : (E : ℕ → ℕ) (s : Standing) (ds ds' : List (Option Draft)) (n : ℕ) (P : List ℕ) (c : Asked) (r : Said) → AllBytes P → c ≡ head n P
    → r ≡ head_said (get_or ds n None) P → ds' ≡ set ds n (head_slot (get_or ds n None) P) → Answered E s ds c r s ds'
head-answered E s ds ds' n P c r b ec er ed h g w =
    carried E h (head n P) c _ r _ s _ ds' ec (er ∙ rw w.drafts refl) w.stands (ed ∙ rw w.drafts refl) (heads E h n P b)

pub body-answered : (E : ℕ → ℕ) (s : Standing) (ds ds' : List (Option Draft)) (n : ℕ) (P : List ℕ) (room : ℕ) (c : Asked) (r : Said) → AllBytes P
    → c ≡ body n P room → r ≡ body_said E (get_or ds n None) P room → ds' ≡ set ds n (body_slot E (get_or ds n None) P room) → Answered E s ds c r s ds'
body-answered E s ds ds' n P room c r b ec er ed h g w =
    carried E h (body n P room) c _ r _ s _ ds' ec (er ∙ rw w.drafts refl) w.stands (ed ∙ rw w.drafts refl) (bodies E h g n P room b)

pub finish-answered : (E : ℕ → ℕ) (s : Standing) (ds ds' : List (Option Draft)) (n : ℕ) (c : Asked) (r : Said) → c ≡ finish n
    → r ≡ finish_said (get_or ds n None) → ds' ≡ set ds n None → Answered E s ds c r s ds'
finish-answered E s ds ds' n c r ec er ed h g w =
    carried E h (finish n) c _ r _ s _ ds' ec (er ∙ rw w.drafts refl) w.stands (ed ∙ rw w.drafts refl) (finishes E h g n)

pub restart-answered : (E : ℕ → ℕ) (s s' : Standing) (ds : List (Option Draft)) (p v : ℕ) (c : Asked) → c ≡ restart p v → s' ≡ restarted_sealer s p v
    → Answered E s ds c restarted_so s' ds
restart-answered E s s' ds p v c ec es h g w = record {
  after = history (restarted_sealer h.now p v) h.seals;
  answers = rw ec restarts;
  held = record { stands = es ∙ ap (λ y. restarted_sealer y p v) w.stands; drafts = w.drafts };
}

pub new_slot_le : (b : Answer Draft) → length (new_slot b) ≤ 1
new_slot_le (Ok d) = omega arith
new_slot_le (Err e) = omega arith
