-- Both pieces are taken, and the draft's laws tell what comes of them.
use Rattle.std.proofs.Common.{arith}
use Rattle.blocks.proofs.Numbers.{all_bytes}
use Rattle.sealtext.proofs.Sealings.{finished}
use Rattle.sealtext.proofs.sealing.finish_draft.Goals as goal

pub returns : goal.returns
returns g c =
    let h = c.args.header.now in
    let m = c.args.message.now in
    let k =
    finished (g.C.Permutation.image c.args.cipher.now) c.args.draft.nonce h m c.args.ciphertext.now
    c.args.draft c.head.new.self c.body.new.self c.finish.result c.body.new.out
    record {
      nonce = c.requires.nonce;
      header = c.requires.header;
      message = c.requires.message;
      room = c.requires.room;
      header_bytes = all_bytes h (λ i l. omega (arith, c.type_inv.header i));
      message_bytes = all_bytes m (λ i l. omega (arith, c.type_inv.message i));
    }
    c.requires.begun c.head.ensures.after c.body.ensures.after c.finish.ensures.value c.body.ensures.wrote in
    record { nonce = k.nonce; tag = k.tag_is; wrote = k.wrote_is }
