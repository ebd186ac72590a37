-- Drafts, by the words that they hold. Every definition says for every draft, whatever its words, what a call makes of it.
-- Assumes nothing.
-- words_of E N t h m: the draft of nonce N and tag length t whose header so far is h and whose message so far is m.
-- header_answer, message_answer: what is said of the lengths of header or message, piece and output.
-- head_answer, headed: what a piece of header is answered, and the draft after it.
-- body_answer, bodied, body_out: likewise for a piece of message, with the buffer after it.
-- sealed: what finish gives.
use Rattle.std.specs.Prelude.{ℕ, ◌+◌, ◌-◌, if◌then◌else◌, List, ◌++◌, length, take, replicate, Ok, Err, ◌==◌, nat_le}
use Rattle.blocks.specs.Blocks.{bytes_of}
use Rattle.keystream.specs.Counters.{block_at, ciphered, const0, const1}
use Rattle.method.specs.Limits.{header_limit, message_limit, header_too_long, message_too_long, lengths_differ}
use Rattle.method.specs.Published.{tag_block}
use Rattle.polyhash.specs.Running.{started, absorbed, finished}
use Rattle.polyhash.specs.declared.running.Running.{Running}
use Rattle.refusals.specs.Answers.{Told, Answer}
use Rattle.chm.specs.Words.{steps, sent, held}
use Rattle.chm.specs.declared.draft.Draft.{Draft}
use Rattle.chm.specs.declared.draft.Sealed.{Sealed}
use Rattle.chm.specs.declared.fault.BodyFault.{BodyFault}
use Rattle.chm.specs.declared.fault.BodyFault.TheVariants.{LengthsDiffer, MessageTooLong}
use Rattle.chm.specs.declared.fault.HeadFault.{HeadFault}
use Rattle.chm.specs.declared.fault.HeadFault.TheVariants.{HeaderTooLong}
use Rattle.chm.specs.declared.words.KeyWords.{KeyWords}

abbrev pub head_told : HeadFault → Told
head_told HeaderTooLong = header_too_long

abbrev pub body_told : BodyFault → Told
body_told LengthsDiffer = lengths_differ
body_told MessageTooLong = message_too_long

-- the keystream's first block is kept for the tag
abbrev pub draft : ℕ → ℕ → ℕ → KeyWords → Running → ℕ → Running → Draft
draft n t b w c l h = record { nonce = n; tag_len = t; first = b; words = w; body_hash = c; head_len = l; head_hash = h }

abbrev pub words_of : (ℕ → ℕ) → ℕ → ℕ → List ℕ → List ℕ → Draft
words_of E N t h m =
    draft N t (block_at E N 0) (held E N (length m)) (absorbed (started (E const0)) (ciphered E N 0 m)) (length h)
    (absorbed (started (E const1)) h)

-- what is left where a call was accepted, and where it was refused
abbrev pub if_accepted : {X : Type 0} → Answer (Unit {0}) → X → X → X
if_accepted (Ok u) x y = x
if_accepted (Err e) x y = y

-- of a header of l bytes, and a piece of n
abbrev pub header_answer : ℕ → ℕ → Answer (Unit {0})
header_answer l n = if nat_le (l + n) header_limit then Ok tt else Err header_too_long

abbrev pub head_answer : Draft → List ℕ → Answer (Unit {0})
head_answer d p = header_answer d.head_len (length p)

abbrev pub headed : Draft → List ℕ → Draft
headed d p =
    if_accepted (head_answer d p)
    (draft d.nonce d.tag_len d.first d.words d.body_hash (d.head_len + length p) (absorbed d.head_hash p))
    d

-- of a message of l bytes, a piece of n, and an output of so many bytes as room says
abbrev pub message_answer : ℕ → ℕ → ℕ → Answer (Unit {0})
message_answer l n room = if room == n then (if nat_le (l + n) message_limit then Ok tt else Err message_too_long) else Err lengths_differ

abbrev pub body_answer : Draft → List ℕ → ℕ → Answer (Unit {0})
body_answer d p room = message_answer d.words.len (length p) room

abbrev pub bodied : (ℕ → ℕ) → Draft → List ℕ → ℕ → Draft
bodied E d p room =
    if_accepted (body_answer d p room)
    (draft d.nonce d.tag_len d.first (steps E d.nonce d.words (length p))
    (absorbed d.body_hash (sent E d.nonce d.words p)) d.head_len d.head_hash)
    d

abbrev pub body_out : (ℕ → ℕ) → Draft → List ℕ → List ℕ → List ℕ
body_out E d p out = if_accepted (body_answer d p (length out)) (sent E d.nonce d.words p) out

-- sixteen bytes: the first t of a block's, then zeros
abbrev pub tag_then_zeros : ℕ → ℕ → List ℕ
tag_then_zeros b t = take t (bytes_of 16 b) ++ replicate (16 - t) 0

abbrev pub sealed : Draft → Sealed
sealed d =
    record {
      nonce = d.nonce;
      tag_len = d.tag_len;
      tag =
          tag_then_zeros
          (tag_block (finished d.body_hash) (finished d.head_hash) d.first)
          d.tag_len;
    }
