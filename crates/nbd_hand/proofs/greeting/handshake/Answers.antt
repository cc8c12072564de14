use Rattle.nbd_hand.proofs.OptionByOption.{greeting_done, greeting_fails, none_by, of_some}
use Rattle.nbd_hand.specs.Hand.{Does, hand}
use Rattle.nbd_hand.proofs.greeting.handshake.Goals as goal

pub returns-in-Some-clause-done : goal.returns-in-Some-clause-done
returns-in-Some-clause-done g c =
    of_some (λ how. Does (hand c.args.size) (g.I.Source.left c.args.link.now.source) (g.I.Source.left c.args.link.now.source)
    (g.O.Sink.contents c.args.link.now.sink) (g.O.Sink.contents c.send_whole.new.sink) how) c.send_whole.result c.in-Some.end c.in-Some.is
    (greeting_fails c.args.size (g.I.Source.left c.args.link.now.source) (g.O.Sink.contents c.args.link.now.sink) (g.O.Sink.contents c.send_whole.new.sink)
    c.send_whole.result c.send_whole.ensures.replied)

pub returns-clause-done : goal.returns-clause-done
returns-clause-done g c =
    greeting_done c.args.size (g.I.Source.left c.args.link.now.source) (g.I.Source.left c.take_flags.new.link.source)
    (g.O.Sink.contents c.args.link.now.sink) (g.O.Sink.contents c.send_whole.new.sink) (g.O.Sink.contents c.take_flags.new.link.sink)
    c.send_whole.result c.send_whole.ensures.replied (none_by c.send_whole.result c.in_default.not-Some) c.take_flags.result c.take_flags.ensures.done
