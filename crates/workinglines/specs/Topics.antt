-- The words that a line of the program `workings` begins with. Assumes nothing.
use Rattle.std.specs.Prelude.{ℕ, if◌then◌else◌, List, Some, None, codes, Option}
use Rattle.std.specs.Str.{bytes_eq}
use Rattle.workinglines.specs.declared.topic.Topic.{Topic}
use Rattle.workinglines.specs.declared.topic.Topic.TheVariants as topic

abbrev pub topic_of : List ℕ → Option Topic
topic_of cs =
    if bytes_eq cs (codes "cipher") then Some topic.Cipher
    else if bytes_eq cs (codes "nonce") then Some topic.Nonce
    else if bytes_eq cs (codes "product") then Some topic.Product
    else if bytes_eq cs (codes "hash") then Some topic.Hash
    else if bytes_eq cs (codes "piece") then Some topic.Piece
    else if bytes_eq cs (codes "mask") then Some topic.Mask
    else if bytes_eq cs (codes "block") then Some topic.Block
    else if bytes_eq cs (codes "counters") then Some topic.Counters
    else None
