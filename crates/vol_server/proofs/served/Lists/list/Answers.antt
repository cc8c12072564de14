use Rattle.vol_server.proofs.Listing.{none_next}
use Rattle.vol_server.proofs.served.Lists.list.Goals as goal

pub returns-in-Help-clause-next : goal.returns-in-Help-clause-next
returns-in-Help-clause-next g c = none_next c.args.self.now c.args.work c.in-Help._helper c.args.caller c.in-Help.is
