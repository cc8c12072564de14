use Rattle.std.proofs.Common.{[]}
use Rattle.hist_lock.specs.Known.{view}
use Rattle.io_queue.proofs.Passes.{calls, no_call}
use Rattle.vol_server.proofs.help.help.Goals as goal

pub looks-init : goal.looks-init
looks-init g c = record { pass = c.requires.pass; nothing = c.requires.open; call = no_call (view c.args.pass.now.seat) }

pub looks-preserved : goal.looks-preserved
looks-preserved g c = record {
  pass = c.help_one.ensures.pass;
  nothing = c.help_one.ensures.open;
  call = calls (view c.args.pass.now.seat) (view c.looks.pass.seat) (view c.help_one.new.pass.seat) [] [] c.looks.invariant.call c.help_one.ensures.call;
}
