-- The units before `at` were written, and the ones that come then were read into `current`.
use Rattle.std.proofs.Common.{◌≡◌, ◌≤◌, ◌+◌, ◌-◌, ◌*◌}
use Rattle.std.specs.Prelude.{IfSome, length, min}
use Rattle.vc_outside.specs.Told.{Grows}
use Rattle.cascade_set.specs.Volume.{plain_units}
use Rattle.vc_app.specs.Laws.Units.{AreUnits}
use Rattle.vc_app.specs.Promise.{LeavesNoMore, seen}
use Rattle.vc_app.proofs.commands.cat.write_units.Given as goal

abbrev pub invariant-parts : goal.invariant-parts
invariant-parts g l = record {
  begun : l.fn.unit ≤ l.at;
  end : l.at + l.left ≡ l.fn.unit + l.fn.count;
  room : length l.current.items ≡ min l.left 2048 * 512;
  room_ahead : min (l.left - 2048) 2048 * 512 ≤ length l.ahead.items;
  were_read : AreUnits (g.D.Store.image l.fn.disk) l.at l.current.items;
  written : IfSome (g.D.Store.image l.fn.disk) (λ b.
      Grows (g.O.Sink.contents l.fn.out) (g.O.Sink.contents l.out)
      (plain_units (g.C.UnitCipher.deciphered l.cipher) b l.fn.unit (l.at - l.fn.unit)));
  image : g.D.Store.image l.disk ≡ g.D.Store.image l.fn.disk;
  size : g.D.Store.size l.disk ≡ g.D.Store.size l.fn.disk;
  crash : LeavesNoMore (seen g.D.Store g.O.Sink l.fn.disk l.fn.out) (seen g.D.Store g.O.Sink l.disk l.out);
  disk_later : g.D.Store.faults l.fn.disk ≤ g.D.Store.faults l.disk;
  out_later : g.O.Sink.faults l.fn.out ≤ g.O.Sink.faults l.out;
}

abbrev pub decreases-parts : goal.decreases-parts
decreases-parts g l = l.left
