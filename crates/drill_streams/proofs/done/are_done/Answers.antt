use Rattle.drill_streams.proofs.Left.{client_written}
use Rattle.drill_streams.proofs.done.are_done.Goals as goal

pub returns-clause-puts : goal.returns-clause-puts
returns-clause-puts c is es answered =
    (client_written c.args.n c.args.client c.requires c.args.replies.now (c.all_done.ensures.0 is) es answered).written

pub returns-clause-calm : goal.returns-clause-calm
returns-clause-calm c is es answered =
    (client_written c.args.n c.args.client c.requires c.args.replies.now (c.all_done.ensures.0 is) es answered).calm
