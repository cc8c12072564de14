use Rattle.std.proofs.Common.{sym, ◌∙◌}
use Rattle.nbd_hand.proofs.HeadAndData.{cut_ends, named_ends, option_ends, option_goes}
use Rattle.nbd_hand.proofs.OptionByOption.{quiet}
use Rattle.nbd_hand.proofs.option.answer_option.Goals as goal

pub returns-in-Err-clause-write_fault : goal.returns-in-Err-clause-write_fault
returns-in-Err-clause-write_fault g c = quiet (g.O.Sink.faults c.args.link.now.sink) c.in-Err.end c.in-Err.ensures.not_sink

pub returns-then-names_an_export-clause-ends : goal.returns-then-names_an_export-clause-ends
returns-then-names_an_export-clause-ends g c =
    named_ends c.args.size c.args.zeros _ _ _ c.in-Ok.head.number c.in-Ok.head.length c.in-Ok.ensures.head
    (sym c.names_an_export.ensures ∙ c.if-names_an_export.true)

pub returns-in-Ok-take_asked-clause-goes_on : goal.returns-in-Ok-take_asked-clause-goes_on
returns-in-Ok-take_asked-clause-goes_on g c =
    option_goes c.args.size c.args.zeros _ _ _ c.in-Ok.head.number c.in-Ok.head.length c.in-Ok.ensures.head _
    (sym c.names_an_export.ensures ∙ c.if-names_an_export.false) c.in-Ok-take_asked.what c.in-Ok-take_asked.ensures.asked _ c.answer.result c.answer.ensures.replied

pub returns-in-Ok-take_asked-clause-ends : goal.returns-in-Ok-take_asked-clause-ends
returns-in-Ok-take_asked-clause-ends g c =
    option_ends c.args.size c.args.zeros _ _ _ c.in-Ok.head.number c.in-Ok.head.length c.in-Ok.ensures.head _
    (sym c.names_an_export.ensures ∙ c.if-names_an_export.false) c.in-Ok-take_asked.what c.in-Ok-take_asked.ensures.asked _ c.answer.result c.answer.ensures.replied

pub returns-in-Err-take_asked-clause-ends : goal.returns-in-Err-take_asked-clause-ends
returns-in-Err-take_asked-clause-ends g c =
    cut_ends c.args.size c.args.zeros _ _ _ c.in-Ok.head.number c.in-Ok.head.length c.in-Ok.ensures.head _
    (sym c.names_an_export.ensures ∙ c.if-names_an_export.false) c.in-Err-take_asked.stop _ c.in-Err-take_asked.ensures.stopped c.end_of.ensures
