-- What a reply is printed as. Assumes nothing.
-- reply_text r: the text of a reply.
use Rattle.std.specs.Prelude.{ℕ, List, [], ◌++◌, Ok, Err, codes, decimal}
use Rattle.digits.specs.Hex.{block_text}
use Rattle.ciphers.specs.Keys.{key_told}
use Rattle.cipherlines.specs.Chosen.{word_of}
use Rattle.cipherlines.specs.declared.session.Reply.{Reply}
use Rattle.cipherlines.specs.declared.session.Reply.TheVariants as reply

abbrev pub reply_text : Reply → List ℕ
reply_text (reply.Named n) = codes "cipher " ++ word_of n
reply_text (reply.Keyed (Ok n)) = codes "made " ++ (word_of n ++ codes " of the key")
reply_text (reply.Keyed (Err f)) = codes "refused " ++ decimal (key_told f).0
reply_text (reply.Image b i) = block_text b ++ (codes " becomes " ++ block_text i)
reply_text reply.Ended = []
