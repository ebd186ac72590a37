-- Histories of a sealer: lists of calls from set-up on, each finding what the one before left, and how each is answered. Assumes
-- nothing.
-- Asked, Said: a call as it is asked, and an answer as it is told.
-- Seal: a begun seal, also one whose draft was left.
-- History: where a list of calls has come to.
-- Answers E h c r k: in h the call c is answered r and leads to k, under a cipher that means E.
-- Run E h cs rs k: the calls cs, answered rs, lead from h to k.
use Rattle.std.specs.Prelude.{◌≡◌, ℕ, ◌+◌, ◌-◌, ◌*◌, ◌<◌, ◌≤◌, Bool, true, false, List, [], ◌∷◌, ◌++◌, length, get_or, replicate, Some, None, Ok, Err, vec_items, Option, Result, Vec, ◌≢◌, slice_index_or, slice_set}
use Rattle.std.specs.declared.alloc.Global.{Global}
use Rattle.blocks.specs.Blocks.{AllBytes}
use Rattle.chm.specs.Drafts.{head_told, body_told}
use Rattle.chm.specs.Sealers.{Standing, standing, batch, batch_nonces, begin_told, sealer_down}
use Rattle.chm.specs.declared.batch.Batch.{Batch}
use Rattle.chm.specs.declared.fault.BeginFault.{BeginFault}
use Rattle.chm.specs.declared.fault.BodyFault.{BodyFault}
use Rattle.method.specs.Limits.{header_limit, message_limit, header_too_long, message_too_long, lengths_differ, bad_tag_length}
use Rattle.method.specs.Published.{crypt, tag}
use Rattle.refusals.specs.Answers.{Told}
use Rattle.stores.specs.Store.{Store, full, power_failed, raise_answer, raised, restarted}
use Rattle.history.specs.declared.Call.{Call}
use Rattle.history.specs.declared.Call.TheVariants as call
use Rattle.history.specs.declared.Reply.{Reply}
use Rattle.history.specs.declared.Reply.TheVariants as reply

-- begin with a tag length; a piece for the header or the message of draft n, the latter with the length of the buffer that was
-- handed in; finish draft n; restart with a power and a leftover byte. Draft n is that of the accepted begin number n.
pub data Asked : Type 0 where
  begin : ℕ → Asked
  head : ℕ → List ℕ → Asked
  body : ℕ → List ℕ → ℕ → Asked
  finish : ℕ → Asked
  restart : ℕ → ℕ → Asked

abbrev pub asked : Call → Asked
asked (call.Begin t) = begin t
asked (call.Head n p) = head n p.now
asked (call.Body n p room) = body n p.now room
asked (call.Finish n) = finish n
asked (call.Restart s) = restart s.power s.leftover

-- the number of the draft; a refusal; a piece of header taken; the bytes that a body wrote; a finished seal's nonce, tag length and
-- sixteen bytes; and for an entry that names no open draft, and so is no call, that there is none
pub data Said : Type 0 where
  begun : ℕ → Said
  refused : Told → Said
  taken : Said
  wrote : List ℕ → Said
  finished : ℕ → ℕ → List ℕ → Said
  restarted_so : Said
  no_draft : Said

-- what a result tells, where `ok` says what its value tells
abbrev pub told_as : {A E : Type 0} → (A → Said) → (E → Told) → Result A E → Said
told_as ok told (Ok a) = ok a
told_as ok told (Err e) = refused (told e)

abbrev pub begun_said : Result ℕ BeginFault → Said
begun_said r = told_as begun begin_told r

abbrev pub wrote_said : Result (Vec ℕ Global) BodyFault → Said
wrote_said r = told_as (λ v. wrote (vec_items v)) body_told r

abbrev pub said : Option Reply → Said
said None = no_draft
said (Some (reply.Begun r)) = begun_said r
said (Some (reply.Headed r)) = told_as (λ u. taken) head_told r
said (Some (reply.Wrote r)) = wrote_said r
said (Some (reply.Finished s)) = finished s.nonce s.tag_len s.tag
said (Some reply.Restarted) = restarted_so

-- the nonce that its begin issued and the tag's length, the header and the message that its accepted pieces joined, what its bodies
-- wrote, joined, and whether it is finished
pub record Seal : Type 0 where
  pub nonce : ℕ
  pub tag_length : ℕ
  pub header : List ℕ
  pub message : List ℕ
  pub ciphertext : List ℕ
  pub over : Bool

abbrev pub seal : ℕ → ℕ → List ℕ → List ℕ → List ℕ → Bool → Seal
seal n t h m c o = record { nonce = n; tag_length = t; header = h; message = m; ciphertext = c; over = o }

-- the sealer as it stands, and the begun seals in their order
pub record History : Type 0 where
  pub now : Standing
  pub seals : List Seal

abbrev pub history : Standing → List Seal → History
history s l = record { now = s; seals = l }

-- over a store in any state: live, without a batch, and no seal begun
abbrev pub set_up : Store → History
set_up s = history (standing s true None) []

-- no nonce is left of the batch
abbrev pub Spent : Option Batch → Type 0
Spent None = Unit {0}
Spent (Some b) = batch_nonces ≤ b.given

-- seal number n is s
abbrev pub Is : List Seal → ℕ → Seal → Type 0
Is l n s = (n < length l) × (slice_index_or l n s ≡ s)

-- no open draft has this number
abbrev pub Closed : List Seal → ℕ → Type 0
Closed l n = (s : Seal) → n < length l → (get_or l n s).over ≡ true

abbrev pub Tag : ℕ → Type 0
Tag t = (12 ≤ t) × (t ≤ 16)

pub data Answers (E : ℕ → ℕ) (h : History) : Asked → Said → History → Type 0 where
  -- begin: the tag's length is tested first, then whether the sealer is down
  tag_refused : {t : ℕ} → (Tag t → ⊥) → Answers E h (begin t) (refused bad_tag_length) h
  down_refused : {t : ℕ} → Tag t → h.now.live ≡ false → Answers E h (begin t) (refused sealer_down) h
  -- the next nonce of the batch, while it has one
  next_of_batch : {t : ℕ} {b : Batch} → Tag t → h.now.live ≡ true → h.now.batch ≡ Some b → b.given < batch_nonces
      → Answers E h (begin t) (begun (length h.seals))
      (history (standing h.now.store true (Some (batch b.number (b.given + 1))))
      (h.seals ++ seal (batch_nonces * b.number + b.given) t [] [] [] false ∷ []))
  -- otherwise the mark is raised, and gives the new batch
  first_of_batch : {t m : ℕ} → Tag t → h.now.live ≡ true → Spent h.now.batch → raise_answer h.now.store ≡ Ok m
      → Answers E h (begin t) (begun (length h.seals))
      (history (standing (raised h.now.store) true (Some (batch m 1))) (h.seals ++ seal (batch_nonces * m) t [] [] [] false ∷ []))
  full_refused : {t : ℕ} → Tag t → h.now.live ≡ true → Spent h.now.batch → raise_answer h.now.store ≡ Err full
      → Answers E h (begin t) (refused full) (history (standing (raised h.now.store) true h.now.batch) h.seals)
  -- a power failure takes the sealer down
  power_refused : {t : ℕ} → Tag t → h.now.live ≡ true → Spent h.now.batch → raise_answer h.now.store ≡ Err power_failed
      → Answers E h (begin t) (refused power_failed) (history (standing (raised h.now.store) false h.now.batch) h.seals)
  head_taken : {n N t : ℕ} {H M C P : List ℕ} → Is h.seals n (seal N t H M C false) → AllBytes P → length H + length P ≤ header_limit
      → Answers E h (head n P) taken (history h.now (slice_set h.seals n (seal N t (H ++ P) M C false)))
  head_refused : {n N t : ℕ} {H M C P : List ℕ} → Is h.seals n (seal N t H M C false) → header_limit < length H + length P
      → Answers E h (head n P) (refused header_too_long) h
  head_none : {n : ℕ} {P : List ℕ} → Closed h.seals n → Answers E h (head n P) no_draft h
  -- what a body writes is what the published ciphertext of the longer message has more
  body_wrote : {n N t room : ℕ} {H M C P W : List ℕ} → Is h.seals n (seal N t H M C false) → AllBytes P → room ≡ length P
      → length M + length P ≤ message_limit → crypt E N (M ++ P) ≡ C ++ W
      → Answers E h (body n P room) (wrote W) (history h.now (slice_set h.seals n (seal N t H (M ++ P) (C ++ W) false)))
  body_unlike : {n N t room : ℕ} {H M C P : List ℕ} → Is h.seals n (seal N t H M C false) → (room ≢ length P)
      → Answers E h (body n P room) (refused lengths_differ) h
  body_long : {n N t room : ℕ} {H M C P : List ℕ} → Is h.seals n (seal N t H M C false) → room ≡ length P
      → message_limit < length M + length P → Answers E h (body n P room) (refused message_too_long) h
  body_none : {n room : ℕ} {P : List ℕ} → Closed h.seals n → Answers E h (body n P room) no_draft h
  -- finish gives the published tag of header and ciphertext, then zeros
  sealed_up : {n N t : ℕ} {H M C : List ℕ} → Is h.seals n (seal N t H M C false)
      → Answers E h (finish n) (finished N t (tag E t N H C ++ replicate (16 - t) 0)) (history h.now (slice_set h.seals n (seal N t H M C true)))
  finish_none : {n : ℕ} → Closed h.seals n → Answers E h (finish n) no_draft h
  restarts : {p v : ℕ}
      → Answers E h (restart p v) restarted_so (history (standing (restarted h.now.store p v) true None) h.seals)

pub data Run (E : ℕ → ℕ) (h : History) : List Asked → List Said → History → Type 0 where
  no_call : Run E h [] [] h
  one_more : {cs : List Asked} {rs : List Said} {c : Asked} {r : Said} {k k' : History}
      → Run E h cs rs k → Answers E k c r k' → Run E h (cs ++ c ∷ []) (rs ++ r ∷ []) k'
