-- What a reply is printed as. Assumes nothing.
-- reply_text r: the text of a reply.
use Rattle.std.specs.Prelude.{ℕ, List, ◌++◌, Ok, Err, codes, decimal}
use Rattle.digits.specs.Hex.{block_text}
use Rattle.ciphers.specs.Keys.{key_told}
use Rattle.cipherlines.specs.Chosen.{word_of}
use Rattle.workinglines.specs.declared.session.Reply.{Reply}
use Rattle.workinglines.specs.declared.session.Reply.TheVariants as reply

abbrev pub reply_text : Reply → List ℕ
reply_text (reply.Keyed (Ok n)) = codes "made " ++ (word_of n ++ codes " of the key")
reply_text (reply.Keyed (Err f)) = codes "refused " ++ decimal (key_told f).0
reply_text (reply.Nonce n) = codes "nonce " ++ decimal n
reply_text (reply.HashKeys a b) = codes "hash keys " ++ (block_text a ++ (codes " and " ++ block_text b))
reply_text (reply.Mask f m) = codes "mask of frame " ++ (decimal f ++ (codes " is " ++ block_text m))
reply_text (reply.Block i b) = codes "keystream block " ++ (decimal i ++ (codes " is " ++ block_text b))
reply_text (reply.Last c) = codes "last counter " ++ decimal c
reply_text (reply.Product p) = codes "product " ++ block_text p
reply_text reply.Begun = codes "a hash begins"
reply_text (reply.Absorbed n) = codes "absorbed " ++ (decimal n ++ codes " bytes")
reply_text (reply.Hashed h) = codes "hash " ++ block_text h
