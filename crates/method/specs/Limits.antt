-- The limits on what is sealed, and the refusals where one is passed. Assumes nothing.
use Rattle.std.specs.Prelude.{ℕ, ◌^◌, Bool, ◌&&◌, [], nat_le, nat_lt}
use Rattle.refusals.specs.Answers.{Told}
use Rattle.method.specs.declared.limits.LimitFault.{LimitFault}
use Rattle.method.specs.declared.limits.LimitFault.TheVariants.{HeaderTooLong, MessageTooLong, TagLength, Nonce}

-- a header has at most 4,096 bytes
abbrev pub header_limit : ℕ
header_limit = 4096

-- a message has at most 1,048,576 bytes
abbrev pub message_limit : ℕ
message_limit = 1048576

-- a tag has 12 to 16 bytes
abbrev pub tag_fits : ℕ → Bool
tag_fits t = nat_le 12 t && nat_le t 16

-- a nonce has 63 bits
abbrev pub nonce_fits : ℕ → Bool
nonce_fits N = nat_lt N (2 ^ 63)

-- refusal 1: a header would pass its limit
abbrev pub header_too_long : Told
header_too_long = (1, [])

-- refusal 2: a message would pass its limit
abbrev pub message_too_long : Told
message_too_long = (2, [])

-- refusal 3: an output differs in length from its piece
abbrev pub lengths_differ : Told
lengths_differ = (3, [])

-- refusal 4: a tag's length is outside 12 to 16
abbrev pub bad_tag_length : Told
bad_tag_length = (4, [])

-- refusal 5: a nonce is 2^63 or more
abbrev pub bad_nonce : Told
bad_nonce = (5, [])

-- refusal 6: a read would pass the end
abbrev pub past_end : Told
past_end = (6, [])

-- refusal 15: the tag differs
abbrev pub tag_differs : Told
tag_differs = (15, [])

abbrev pub limit_told : LimitFault → Told
limit_told HeaderTooLong = header_too_long
limit_told MessageTooLong = message_too_long
limit_told TagLength = bad_tag_length
limit_told Nonce = bad_nonce
