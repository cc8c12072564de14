-- IsIdle id g c seat      it is a pass of the volume with this lock, geometry and cipher, between two requests
use Rattle.std.specs.Prelude.{Option}
use Rattle.atomic_table.specs.Seated.{TableId}
use Rattle.atomic_table.specs.declared.shared.Seat.{Seat}
use Rattle.hist_lock.specs.Known.{view}
use Rattle.hist_lock.specs.declared.view.View.{View}
use Rattle.vc_layout.specs.declared.geometry.Geometry.{Geometry}
use Rattle.sector_model.specs.declared.entry.Entry.{Entry}
use Rattle.io_core.specs.State.{State}
use Rattle.io_queue.specs.Pass.{IsPass, NothingOpen}

pub record IsIdle {S C : Type 0} (id : TableId) (g : Geometry) (c : C) (seat : Seat (Option (State S C)) (View (State S C) Entry)) : Type 0 where
  pub pass : IsPass id g c seat
  pub ended : NothingOpen (view seat)
