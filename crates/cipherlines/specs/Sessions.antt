-- A session with ciphers: a name, a key, blocks, and an empty line before the next name. Assumes nothing.
-- State: where a session stands.
-- reply_to s line, next_state s line: what the session answers to a line, which is none where the line is bad, and where it then
-- stands. A line that is bad or refused leaves it where it was.
use Rattle.std.specs.Prelude.{ℕ, if◌then◌else◌, List, length, Some, None, Option, Ok, Err, ◌==◌}
use Rattle.ciphers.specs.declared.fault.KeyFault.TheVariants.{WrongLength}
use Rattle.digits.specs.Digits.{digits_bytes, number_of}
use Rattle.cipherlines.specs.Chosen.{name_of, key_bytes, standard_of, chosen_image}
use Rattle.cipherlines.specs.declared.chosen.Name.{Name}
use Rattle.cipherlines.specs.declared.session.Reply.{Reply}
use Rattle.cipherlines.specs.declared.session.Reply.TheVariants as reply
use Rattle.cipherlines.specs.declared.session.Session.{Session}
use Rattle.cipherlines.specs.declared.session.Stage.{Stage}
use Rattle.cipherlines.specs.declared.session.Stage.TheVariants as stage

-- a name is to come; the key of a named cipher is to come; blocks are enciphered by a function
pub data State : Type 0 where
  naming : State
  keying : Name → State
  enciphering : (ℕ → ℕ) → State

abbrev pub stage_state : Stage → State
stage_state stage.Naming = naming
stage_state (stage.Keying n) = keying n
stage_state (stage.Enciphering c) = enciphering (chosen_image c)

abbrev pub session_state : Session → State
session_state s = stage_state s.stage

abbrev pub name_reply : Option Name → Option Reply
name_reply None = None
name_reply (Some n) = Some (reply.Named n)

abbrev pub key_reply : Name → Option (List ℕ) → Option Reply
key_reply n None = None
key_reply n (Some key) = Some (reply.Keyed (if length key == key_bytes n then Ok n else Err WrongLength))

abbrev pub block_reply : (ℕ → ℕ) → Option ℕ → Option Reply
block_reply f None = None
block_reply f (Some b) = Some (reply.Image b (f b))

abbrev pub reply_to : State → List ℕ → Option Reply
reply_to naming line = name_reply (name_of line)
reply_to (keying n) line = key_reply n (digits_bytes line)
reply_to (enciphering f) line = if length line == 0 then Some reply.Ended else block_reply f (number_of 32 line)

abbrev pub after_name : Option Name → State
after_name None = naming
after_name (Some n) = keying n

abbrev pub after_key : Name → Option (List ℕ) → State
after_key n None = keying n
after_key n (Some key) = if length key == key_bytes n then enciphering (standard_of n key) else keying n

abbrev pub next_state : State → List ℕ → State
next_state naming line = after_name (name_of line)
next_state (keying n) line = after_key n (digits_bytes line)
next_state (enciphering f) line = if length line == 0 then naming else enciphering f
