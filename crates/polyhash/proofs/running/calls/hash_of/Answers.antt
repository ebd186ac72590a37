-- A string absorbed as one piece is hashed: the bytes of a slice are bytes.
use Rattle.std.proofs.Common.{ap, ◌∙◌, rules}
use Rattle.blocks.proofs.Numbers.{all_bytes}
use Rattle.polyhash.specs.declared.running.Running.{Running}
use Rattle.polyhash.specs.Running.{absorbed, finished}
use Rattle.polyhash.proofs.running.calls.hash_of.Goals as goal

pub returns : goal.returns
returns c =
    let m = c.args.bytes.now in
    let is = c.absorb.ensures.value ∙ ap (λ (s : Running). absorbed s m) c.new-running.ensures in
    c.finish.ensures.value ∙ ap finished is ∙ c.absorb.ensures.laws.whole c.args.key m (all_bytes m (λ i h. search rules))
