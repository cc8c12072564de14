use Rattle.io_queue.proofs.acts.FlushActCore.act.Goals as goal

pub returns-clause-stands : goal.returns-clause-stands
returns-clause-stands g c = λ base log may stands. c.flush_turn-self.ensures.sound base log c.args.caller 0 stands
