use Rattle.std.proofs.Common.{ℕ, List, ap, ◌∙◌, subst}
use Rattle.nbd_wire.specs.Wire.{reply}
use Rattle.nbd_session.specs.Sent.{Replied}
use Rattle.nbd_session.proofs.reply.reply_alone.Goals as goal

pub returns-clause-replied : goal.returns-clause-replied
returns-clause-replied g c =
    subst (λ (bytes : List ℕ). Replied (g.O.Sink.contents c.args.sink.now) (g.O.Sink.contents c.send_whole.new.sink) bytes c.send_whole.result)
    (c.write_reply.ensures ∙ ap (λ (n : ℕ). reply n c.args.request.now.cookie) c.error.ensures) c.send_whole.ensures.replied
