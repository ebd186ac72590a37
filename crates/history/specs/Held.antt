-- How the code holds a history: the sealer as it stands, and a place for each draft that was handed out. Assumes nothing.
-- slot E s: the place of a seal's draft: empty when it is finished.
-- Held E h s ds: a sealer that stands so, and these places, hold the history h.
-- Sound E h: what is true of every history from set-up on.
-- Answered: a call that finds a sealer and places leaves others, whatever sound history they hold.
use Rattle.std.specs.Prelude.{◌≡◌, ℕ, ◌+◌, ◌*◌, ◌<◌, ◌≤◌, if◌then◌else◌, List, map, length, Some, None, Option, slice_index, slice_index_or}
use Rattle.blocks.specs.Blocks.{AllBytes}
use Rattle.chm.specs.Drafts.{words_of}
use Rattle.chm.specs.Sealers.{Standing, batch_nonces}
use Rattle.chm.specs.declared.batch.Batch.{Batch}
use Rattle.chm.specs.declared.draft.Draft.{Draft}
use Rattle.method.specs.Limits.{header_limit, message_limit}
use Rattle.method.specs.Published.{crypt}
use Rattle.stores.specs.Store.{Store, Lawful}
use Rattle.history.specs.Runs.{Asked, Said, Seal, History, Tag, Answers, Run, set_up}

abbrev pub slot : (ℕ → ℕ) → Seal → Option Draft
slot E s = if s.over then None else Some (words_of E s.nonce s.tag_length s.header s.message)

pub record Held (E : ℕ → ℕ) (h : History) (s : Standing) (ds : List (Option Draft)) : Type 0 where
  pub stands : s ≡ h.now
  pub drafts : ds ≡ map (slot E) h.seals

-- a seal within the limits, with the published ciphertext
pub record Fine (E : ℕ → ℕ) (s : Seal) : Type 0 where
  pub tagged : Tag s.tag_length
  pub header_bytes : AllBytes s.header
  pub message_bytes : AllBytes s.message
  pub header_short : length s.header ≤ header_limit
  pub message_short : length s.message ≤ message_limit
  pub published : s.ciphertext ≡ crypt E s.nonce s.message

-- every nonce issued so far is below this
abbrev pub front : Option Batch → ℕ → ℕ
front None m = batch_nonces * m
front (Some b) m = batch_nonces * b.number + b.given

-- the batch's raise is done
abbrev pub Backed : Option Batch → ℕ → Type 0
Backed None m = Unit {0}
Backed (Some b) m = (b.number < m) × (b.given ≤ batch_nonces)

-- numbers that rise, all below n
pub record Rising (ns : List ℕ) (n : ℕ) : Type 0 where
  pub below : (i : ℕ) → i < length ns → slice_index ns i < n
  pub rises : (i j : ℕ) → i < j → j < length ns → slice_index ns i < slice_index ns j

abbrev pub AllFine : (ℕ → ℕ) → List Seal → Type 0
AllFine E l = (n : ℕ) (d : Seal) → n < length l → Fine E (slice_index_or l n d)

pub record Sound (E : ℕ → ℕ) (h : History) : Type 0 where
  pub fine : AllFine E h.seals
  pub lawful : Lawful h.now.store
  pub backed : Backed h.now.batch h.now.store.mark
  pub rising : Rising (map (λ s. s.nonce) h.seals) (front h.now.batch h.now.store.mark)

pub record Next (E : ℕ → ℕ) (h : History) (c : Asked) (r : Said) (s : Standing) (ds : List (Option Draft)) : Type 0 where
  pub after : History
  pub answers : Answers E h c r after
  pub held : Held E after s ds

abbrev pub Answered : (ℕ → ℕ) → Standing → List (Option Draft) → Asked → Said → Standing → List (Option Draft) → Type 0
Answered E s ds c r s' ds' = (h : History) → Sound E h → Held E h s ds → Next E h c r s' ds'

-- from set-up over the store s, the calls cs, answered rs, led to what the code holds
pub record Reached (E : ℕ → ℕ) (s : Store) (cs : List Asked) (rs : List Said) (st : Standing) (ds : List (Option Draft)) : Type 0 where
  pub at : History
  pub run : Run E (set_up s) cs rs at
  pub held : Held E at st ds
