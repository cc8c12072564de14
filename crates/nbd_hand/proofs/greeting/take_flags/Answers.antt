use Rattle.nbd_hand.proofs.OptionByOption.{bad_flags, good_flags, no_flags}
use Rattle.nbd_hand.proofs.greeting.take_flags.Goals as goal

pub returns-in-Err-clause-done : goal.returns-in-Err-clause-done
returns-in-Err-clause-done g c =
    no_flags c.args.size (g.I.Source.left c.args.link.now.source) (g.I.Source.left c.take.new.source) (g.O.Sink.contents c.args.link.now.sink)
    c.in-Err.stop c.end_of.result c.in-Err.ensures.stopped c.end_of.ensures

pub returns-then-flags-gt-CLIENT_FLAGS-clause-done : goal.returns-then-flags-gt-CLIENT_FLAGS-clause-done
returns-then-flags-gt-CLIENT_FLAGS-clause-done g c =
    bad_flags c.args.size (g.I.Source.left c.args.link.now.source) (g.I.Source.left c.take.new.source) (g.O.Sink.contents c.args.link.now.sink)
    c.take.new.buf c.in_default.ensures.whole c.take.auto.buf c.read_u32-flags.result c.read_u32-flags.ensures c.if-flags-gt-CLIENT_FLAGS.true

pub returns-clause-done : goal.returns-clause-done
returns-clause-done g c =
    good_flags c.args.size (g.I.Source.left c.args.link.now.source) (g.I.Source.left c.take.new.source) (g.O.Sink.contents c.args.link.now.sink)
    c.take.new.buf c.in_default.ensures.whole c.take.auto.buf c.read_u32-flags.result c.read_u32-flags.ensures c.if-flags-gt-CLIENT_FLAGS.false
    (g.I.Source.left c.answer_options.new.link.source) (g.O.Sink.contents c.answer_options.new.link.sink) c.answer_options.result c.answer_options.ensures.done
