-- A work that was done, by the values that it began and ended with.
use Rattle.std.proofs.Common.{◌≡◌, ℕ, Option, subst}
use Rattle.atomic_table.specs.Seated.{TableId}
use Rattle.hist_standing.specs.declared.Standing.{Ghosts as StandingGhosts}
use Rattle.sector_model.specs.declared.entry.Entry.{Entry}
use Rattle.vc_layout.specs.declared.geometry.Geometry.{Geometry}
use Rattle.vc_outside.specs.declared.source.Source.{Ghosts as SourceGhosts}
use Rattle.vc_outside.specs.declared.sink.Sink.{Ghosts as SinkGhosts}
use Rattle.io_core.specs.State.{State}
use Rattle.vol_server.specs.Laws.Tasks.{HasRun}
use Rattle.vol_server.specs.declared.task.Task.{Task}

pub ran_as : {S C I O : Type 0} {st : StandingGhosts (State S C) Entry} (id : TableId) (g : Geometry) (c : C) (source : SourceGhosts I) (sink : SinkGhosts O) (export : Option ℕ)
    (t u v w : Task (State S C) I O Entry st) → t ≡ v → u ≡ w → HasRun id g c source sink export t u → HasRun id g c source sink export v w
ran_as {S} {C} {I} {O} {st} id g c source sink export t u v w is now ran =
    subst (λ (x : Task (State S C) I O Entry st). HasRun id g c source sink export x w) is
    (subst (λ (y : Task (State S C) I O Entry st). HasRun id g c source sink export t y) now ran)
