-- A session that shows the workings of the method: a cipher under a key and a nonce for counters, masks and keystream blocks, and
-- a hash that is fed piece by piece. Assumes nothing.
-- State: what the session holds.
-- reply_to s line, next_state s line: what it answers to a line, and what it then holds. A bad or refused line changes nothing.
use Rattle.std.specs.Prelude.{ℕ, ◌^◌, if◌then◌else◌, List, length, Some, None, Ok, Err, codes, Option, ◌==◌, nat_lt}
use Rattle.std.specs.Option.{option_map}
use Rattle.std.specs.Str.{bytes_eq}
use Rattle.cipherlines.specs.Chosen.{name_of, key_bytes, standard_of, chosen_image}
use Rattle.cipherlines.specs.declared.chosen.Name.{Name}
use Rattle.ciphers.specs.declared.fault.KeyFault.TheVariants.{WrongLength}
use Rattle.digits.specs.Digits.{number_of, digits_bytes}
use Rattle.keystream.specs.Counters.{mask, block_at, const0, const1}
use Rattle.keystream.specs.Laws.{last_counter}
use Rattle.polyhash.specs.Running.{started, absorbed, finished}
use Rattle.polyhash.specs.declared.running.Running.{Running}
use Rattle.polynomials.specs.Polynomials.{product}
use Rattle.words.specs.Splits.{Parts, parted}
use Rattle.workinglines.specs.Topics.{topic_of}
use Rattle.workinglines.specs.declared.session.Reply.{Reply}
use Rattle.workinglines.specs.declared.session.Reply.TheVariants as reply
use Rattle.workinglines.specs.declared.session.Session.{Session}
use Rattle.workinglines.specs.declared.topic.Topic.{Topic}
use Rattle.workinglines.specs.declared.topic.Topic.TheVariants as topic

-- the function that the cipher means, if there is one; the nonce; the hash so far, with its key
pub record State : Type 0 where
  pub image : Option (ℕ → ℕ)
  pub nonce : ℕ
  pub running : Running

abbrev pub state : Option (ℕ → ℕ) → ℕ → Running → State
state e n r = record { image = e; nonce = n; running = r }

abbrev pub session_state : Session → State
session_state s = state (option_map chosen_image s.cipher) s.nonce s.running

-- an answer, none to a bad line, and the state after it
abbrev pub Step : Type 0
Step = Option Reply × State

abbrev pub bad : State → Step
bad s = (None, s)

-- `cipher`, a name, and a key in digits
abbrev pub cipher_step : State → Option Name → Option (List ℕ) → Step
cipher_step s None key = bad s
cipher_step s (Some n) None = bad s
cipher_step s (Some n) (Some key) =
    if length key == key_bytes n
    then (Some (reply.Keyed (Ok n)), state (Some (standard_of n key)) s.nonce s.running)
    else (Some (reply.Keyed (Err WrongLength)), s)

abbrev pub cipher_parts : State → Parts → Step
cipher_parts s None = bad s
cipher_parts s (Some p) = cipher_step s (name_of p.0) (digits_bytes p.1)

-- `nonce` and 16 digits, of 63 bits
abbrev pub nonce_step : State → Option ℕ → Step
nonce_step s None = bad s
nonce_step s (Some n) = if nat_lt n (2 ^ 63) then (Some (reply.Nonce n), state s.image n s.running) else bad s

-- `product` and two blocks of 32 digits
abbrev pub product_step : State → Option ℕ → Option ℕ → Step
product_step s None b = bad s
product_step s (Some a) None = bad s
product_step s (Some a) (Some b) = (Some (reply.Product (product a b)), s)

abbrev pub product_parts : State → Parts → Step
product_parts s None = bad s
product_parts s (Some p) = product_step s (number_of 32 p.0) (number_of 32 p.1)

-- `hash` and a key of 32 digits: a hash begins
abbrev pub hash_step : State → Option ℕ → Step
hash_step s None = bad s
hash_step s (Some k) = (Some reply.Begun, state s.image s.nonce (started k))

-- `piece` and bytes in digits
abbrev pub piece_step : State → Option (List ℕ) → Step
piece_step s None = bad s
piece_step s (Some bs) = (Some (reply.Absorbed (length bs)), state s.image s.nonce (absorbed s.running bs))

-- `mask` and the frame's number in 8 digits
abbrev pub mask_step : State → Option (ℕ → ℕ) → Option ℕ → Step
mask_step s None f = bad s
mask_step s (Some E) None = bad s
mask_step s (Some E) (Some f) = (Some (reply.Mask f (mask E s.nonce f)), s)

-- `block` and the keystream block's number in 8 digits
abbrev pub block_step : State → Option (ℕ → ℕ) → Option ℕ → Step
block_step s None i = bad s
block_step s (Some E) None = bad s
block_step s (Some E) (Some i) = (Some (reply.Block i (block_at E s.nonce i)), s)

-- `counters` and a number of message blocks in 8 digits
abbrev pub counters_step : State → Option ℕ → Step
counters_step s None = bad s
counters_step s (Some l) = (Some (reply.Last (last_counter l)), s)

abbrev pub topic_step : State → Option Topic → List ℕ → Step
topic_step s None rest = bad s
topic_step s (Some topic.Cipher) rest = cipher_parts s (parted rest)
topic_step s (Some topic.Nonce) rest = nonce_step s (number_of 16 rest)
topic_step s (Some topic.Product) rest = product_parts s (parted rest)
topic_step s (Some topic.Hash) rest = hash_step s (number_of 32 rest)
topic_step s (Some topic.Piece) rest = piece_step s (digits_bytes rest)
topic_step s (Some topic.Mask) rest = mask_step s s.image (number_of 8 rest)
topic_step s (Some topic.Block) rest = block_step s s.image (number_of 8 rest)
topic_step s (Some topic.Counters) rest = counters_step s (number_of 8 rest)

abbrev pub parts_step : State → Parts → Step
parts_step s None = bad s
parts_step s (Some p) = topic_step s (topic_of p.0) p.1

-- `hashkeys`
abbrev pub keys_step : State → Option (ℕ → ℕ) → Step
keys_step s None = bad s
keys_step s (Some E) = (Some (reply.HashKeys (E const0) (E const1)), s)

-- `end`: the hash of all pieces, and another begins under the same key
abbrev pub end_step : State → Step
end_step s = (Some (reply.Hashed (finished s.running)), state s.image s.nonce (started s.running.key))

abbrev pub step : State → List ℕ → Step
step s line =
    if bytes_eq line (codes "hashkeys") then keys_step s s.image
    else if bytes_eq line (codes "end") then end_step s
    else parts_step s (parted line)
