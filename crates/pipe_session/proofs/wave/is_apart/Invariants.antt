-- Each of those before may be carried out beside the next one.
use Rattle.std.proofs.Common.{◌≡◌, drop}
use Rattle.pipe_session.specs.Waves.{is_apart}
use Rattle.pipe_session.proofs.wave.is_apart.Given as goal

abbrev pub invariant-asks : goal.invariant-asks
invariant-asks l = is_apart l.fn.next l.fn.wave ≡ is_apart l.fn.next (drop l.i l.fn.wave)
