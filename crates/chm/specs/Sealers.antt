-- A sealer, and what begin and restart make of it. Assumes nothing.
-- Standing: what a sealer is at one moment: its store's meaning, live or down, and its batch or none.
-- issue_answer, issued: the next nonce, or what the raise reports; and the sealer after it.
-- tag_answer: what is said of a tag length.
-- begin_answer, begun: what begin answers for a tag length, and the sealer after it.
-- restarted_sealer: the sealer after a restart.
use Rattle.std.specs.Prelude.{ℕ, ◌+◌, ◌*◌, Bool, true, false, if◌then◌else◌, ◌&&◌, [], Some, None, Ok, Err, Option, nat_lt}
use Rattle.method.specs.Limits.{tag_fits, bad_tag_length}
use Rattle.refusals.specs.Answers.{Told, Answer}
use Rattle.stores.specs.Store.{Store, raise_told, raise_case, raise_answer, raised, restarted}
use Rattle.chm.specs.Drafts.{words_of}
use Rattle.chm.specs.declared.batch.Batch.{Batch}
use Rattle.chm.specs.declared.draft.Draft.{Draft}
use Rattle.chm.specs.declared.fault.BeginFault.{BeginFault}
use Rattle.chm.specs.declared.fault.BeginFault.TheVariants.{TagLength, Down, Raise}
use Rattle.chm.specs.declared.sealer.Sealer.{Sealer}

-- refusal 21: the sealer is down
abbrev pub sealer_down : Told
sealer_down = (21, [])

-- the store's own refusals are carried up whole
abbrev pub begin_told : BeginFault → Told
begin_told TagLength = bad_tag_length
begin_told Down = sealer_down
begin_told (Raise f) = raise_told f

pub record Standing : Type 0 where
  pub store : Store
  pub live : Bool
  pub batch : Option Batch

abbrev pub standing : Store → Bool → Option Batch → Standing
standing s l b = record { store = s; live = l; batch = b }

abbrev pub sealer_standing : {C S : Type 0} → (S → Store) → Sealer C S → Standing
sealer_standing meaning x = standing (meaning x.store) x.live x.batch

-- a batch has 1,024 nonces
abbrev pub batch_nonces : ℕ
batch_nonces = 1024

abbrev pub batch : ℕ → ℕ → Batch
batch n g = record { number = n; given = g }

abbrev pub some_left : Option Batch → Bool
some_left None = false
some_left (Some b) = nat_lt b.given batch_nonces

-- the nonces of batch b are 1,024 b to 1,024 b + 1,023, in rising order
abbrev pub next_nonce : Option Batch → ℕ
next_nonce None = 0
next_nonce (Some b) = batch_nonces * b.number + b.given

abbrev pub one_given : Option Batch → Option Batch
one_given None = None
one_given (Some b) = Some (batch b.number (b.given + 1))

-- the mark that a raise gives is the new batch, and its first nonce is given
abbrev pub raise_nonce : Answer ℕ → Answer ℕ
raise_nonce (Ok m) = Ok (batch_nonces * m)
raise_nonce (Err t) = Err t

abbrev pub raise_batch : Store → Option Batch → Option Batch
raise_batch s old = raise_case s old old (Some (batch s.mark 1)) old

-- a raise that meets a power failure takes the sealer down; one that finds the store full does not
abbrev pub raise_live : Store → Bool
raise_live s = raise_case s false true true false

abbrev pub issue_answer : Standing → Answer ℕ
issue_answer s = if some_left s.batch then Ok (next_nonce s.batch) else raise_nonce (raise_answer s.store)

abbrev pub issued : Standing → Standing
issued s =
    if some_left s.batch
    then standing s.store s.live (one_given s.batch)
    else (standing (raised s.store) (s.live && raise_live s.store) (raise_batch s.store s.batch))

-- the draft of the next nonce, with nothing of header and message yet
abbrev pub drafted : (ℕ → ℕ) → ℕ → Answer ℕ → Answer Draft
drafted E t (Ok n) = Ok (words_of E n t [] [])
drafted E t (Err e) = Err e

abbrev pub tag_answer : ℕ → Answer (Unit {0})
tag_answer t = if tag_fits t then Ok tt else Err bad_tag_length

-- the tag's length is tested first, then whether the sealer is down, and then what the raise reports
abbrev pub begin_answer : (ℕ → ℕ) → Standing → ℕ → Answer Draft
begin_answer E s t = if tag_fits t then (if s.live then drafted E t (issue_answer s) else Err sealer_down) else Err bad_tag_length

abbrev pub begun : Standing → ℕ → Standing
begun s t = if tag_fits t && s.live then issued s else s

-- live, and without a batch
abbrev pub restarted_sealer : Standing → ℕ → ℕ → Standing
restarted_sealer s p v = standing (restarted s.store p v) true None
