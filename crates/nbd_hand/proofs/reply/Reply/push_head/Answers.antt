use Rattle.byteorder.specs.Endian.{big_bytes}
use Rattle.nbd_hand.proofs.Joined.{four_joined}
use Rattle.nbd_hand.proofs.reply.Reply.push_head.Goals as goal

pub returns : goal.returns
returns c = four_joined _ _ _ _ c.args.self.now (big_bytes 8 0x0003e889045565a9) (big_bytes 4 c.args.number) (big_bytes 4 c.args.kind) (big_bytes 4 c.args.n)
    c.push_u64.ensures c.push_u32.ensures c.push_u32-2.ensures c.push_u32-3.ensures
