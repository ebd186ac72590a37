-- The bytes of a block, and the laws of the method.
use Rattle.std.proofs.Common.{rules}
use Rattle.method.proofs.Undone.{method_laws}
use Rattle.method.proofs.tag_bytes.Goals as goal

pub returns : goal.returns
returns c = record { value = search rules; laws = method_laws }
