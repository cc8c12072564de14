use Rattle.std.proofs.Common.{◌-◌, arith}
use Rattle.nbd_hand.specs.Hand.{options}
use Rattle.nbd_hand.proofs.Meant.{onward_none}
use Rattle.nbd_hand.proofs.OptionByOption.{all_last, all_more, all_out, none_by}
use Rattle.nbd_hand.proofs.greeting.answer_options.Goals as goal

pub options-init : goal.options-init
options-init g c = record {
  did = onward_none (options c.args.size c.args.zeros 1024) (g.I.Source.left c.args.link.now.source) (g.O.Sink.contents c.args.link.now.sink);
  read = omega arith;
  written = omega arith;
}

pub returns-in-Some-clause-done : goal.returns-in-Some-clause-done
returns-in-Some-clause-done g c =
    all_last (options c.args.size c.args.zeros 1024) c.args.size c.args.zeros c.options.left _ _ _ _ c.options.invariant.did _ _ c.in-Some.end (c.options.left - 1)
    (omega (arith, c.options-test.true)) c.in-Some.ensures.ends

pub options-preserved : goal.options-preserved
options-preserved g c = record {
  did = all_more (options c.args.size c.args.zeros 1024) c.args.size c.args.zeros c.options.left _ _ _ _ c.options.invariant.did _ _ (c.options.left - 1)
      (omega (arith, c.options-test.true)) (c.answer_option.ensures.goes_on (none_by c.answer_option.result c.in_default.not-Some));
  read = omega (arith, c.options.invariant.read, c.answer_option.ensures.read_fault.later);
  written = omega (arith, c.options.invariant.written, c.answer_option.ensures.write_fault.later);
}

pub returns-clause-done : goal.returns-clause-done
returns-clause-done g c =
    all_out (options c.args.size c.args.zeros 1024) c.args.size c.args.zeros c.options.left _ _ _ _ c.options.invariant.did (omega (arith, c.options-test.false))
