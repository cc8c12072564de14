-- The tasks of a server, from the split of their passes to the join.
--
-- of_client f w          what f gives of the client that the work w serves, if it is no help
-- listed f ts            what f gives of the clients among the tasks, in their order
-- callers_of ts          the numbers of the clients among the tasks
-- IsReady w              a client's bench is empty
-- HasServed s now es     the client was served, with these entries
-- Did w now es           the work was done, with these entries: a helper has none
-- IsFresh u v            a pass that was split from u and isn't used yet
-- CanRun .. t            the task's pass may be used
-- HasSplit .. u v ts     a pass for each task was split from u, which is v now
-- HasRun .. t now        the task's work was done
-- HaveRun .. ts us       the works of all tasks were done, of which us are the tasks then
-- CanJoin .. t           the task's pass may be joined, and none was joined into it
-- HasJoined u v ws       the passes ws were joined into u, which is v now
use Rattle.std.specs.Prelude.{◌≡◌, ◌<◌, ◌≤◌, ℕ, ◌+◌, ◌*◌, ◌^◌, List, [], ◌∷◌, ◌++◌, ⊤, true, length, All, map, Option, slice_index_or}
use Rattle.std.specs.List.{flat_map}
use Rattle.frag_pool.specs.Bench.{is_empty}
use Rattle.frag_pool.specs.declared.bench.Bench.{Bench}
use Rattle.atomic_table.specs.Seated.{TableId}
use Rattle.hist_standing.specs.declared.Standing.{Ghosts as StandingGhosts}
use Rattle.hist_lock.specs.declared.view.View.{View}
use Rattle.hist_lock.specs.History.{StartsWith, entries, SameUnder}
use Rattle.hist_lock.specs.Known.{IsSame, numbers_of, view}
use Rattle.sector_model.specs.declared.entry.Entry.{Entry}
use Rattle.vc_layout.specs.declared.geometry.Geometry.{Geometry}
use Rattle.vc_outside.specs.declared.source.Client.{Client}
use Rattle.vc_outside.specs.declared.source.Source.{Ghosts as SourceGhosts}
use Rattle.vc_outside.specs.declared.sink.Sink.{Ghosts as SinkGhosts}
use Rattle.io_core.specs.State.{State}
use Rattle.io_queue.specs.Pass.{Call, caller_of, IsPass, NothingOpen}
use Rattle.nbd_wire.specs.declared.end.End.{End}
use Rattle.nbd_hand.specs.declared.end.HandEnd.{HandEnd}
use Rattle.vol_server.specs.Served.{AreNew, IsGreeted}
use Rattle.vol_server.specs.Laws.Weights.{Weigh, Weighs}
use Rattle.vol_server.specs.declared.task.Service.{Service}
use Rattle.vol_server.specs.declared.task.Task.{Task}
use Rattle.vol_server.specs.declared.task.Work.{Work}
use Rattle.vol_server.specs.declared.task.Work.TheVariants as work

module _ {I O : Type 0} where
  abbrev pub of_client : {Y : Type 0} → (Service I O → Y) → Work I O → List Y
  of_client f (work.Serve s) = f s ∷ []
  of_client f (work.Help h) = []

  abbrev pub client_of : Service I O → Client I O
  client_of s = s.client

  abbrev pub hand_of : Service I O → HandEnd
  hand_of s = s.hand

  abbrev pub end_of : Service I O → End
  end_of s = s.end

  abbrev pub replies_of : Service I O → ℕ
  replies_of s = s.replies

  abbrev pub IsReady : Work I O → Type 0
  IsReady (work.Serve s) = is_empty s.bench ≡ true
  IsReady (work.Help h) = ⊤

module _ {S C I O : Type 0} {st : StandingGhosts (State S C) Entry} where
  abbrev pub view_in : Task (State S C) I O Entry st → View (State S C) Entry
  view_in t = view t.pass.seat

  abbrev pub caller_in : Task (State S C) I O Entry st → ℕ
  caller_in t = (view t.pass.seat).number

  abbrev pub work_of : Task (State S C) I O Entry st → Work I O
  work_of t = t.work

  abbrev pub listed : {Y : Type 0} → (Service I O → Y) → List (Task (State S C) I O Entry st) → List Y
  listed f ts = flat_map (λ t. of_client f t.work) ts

  abbrev pub callers_of : List (Task (State S C) I O Entry st) → List ℕ
  callers_of ts = flat_map (λ t. of_client (λ s. caller_in t) t.work) ts

module _ {S C : Type 0} where
  pub record IsFresh (u v : View (State S C) Entry) : Type 0 where
    pub seen : v.seen ≡ u.seen
    pub mine : v.mine ≡ []
    pub under : v.under ≡ []

  pub record HasJoined (u v : View (State S C) Entry) (ws : List (View (State S C) Entry)) : Type 0 where
    pub base : v.base ≡ u.base
    pub number : v.number ≡ u.number
    pub mine : v.mine ≡ u.mine
    pub given : u.given ≤ v.given
    pub under : v.under ≡ u.under ++ map (λ w. w.number) ws
    pub later : StartsWith v.seen u.seen
    pub settled : SameUnder caller_of (numbers_of u) v.seen u.seen
    -- the entries under their numbers are theirs
    pub theirs : All (λ w. entries caller_of w.number v.seen ≡ w.mine) ws
    pub share : (top x y : ℕ) → Weighs top u x → Weigh top ws y → Weighs top v (x + y)

abbrev pub IsEmptyBench : Bench → Type 0
IsEmptyBench b = is_empty b ≡ true

module _ {I O : Type 0} (source : SourceGhosts I) (sink : SinkGhosts O) (export : Option ℕ) (sector : ℕ) where
  abbrev pub HasServed : Service I O → Service I O → List Entry → Type 0
  HasServed s now es = IsGreeted source sink export sector s.client now.client es now.hand now.replies now.end

  abbrev pub Did : Work I O → Work I O → List Entry → Type 0
  Did (work.Serve s) (work.Serve now) es = HasServed s now es
  Did (work.Help h) (work.Help now) es = es ≡ []
  Did before now es = ⊥

module _ {S C I O : Type 0} {st : StandingGhosts (State S C) Entry} (id : TableId) (g : Geometry) (c : C) where
  abbrev pub CanRun : Task (State S C) I O Entry st → Type 0
  CanRun t = IsPass id g c t.pass.seat × NothingOpen (view t.pass.seat)

  abbrev pub CanJoin : Task (State S C) I O Entry st → Type 0
  CanJoin t = IsPass id g c t.pass.seat × NothingOpen (view t.pass.seat) × ((view t.pass.seat).under ≡ [])

  pub record HasSplit (u v : View (State S C) Entry) (ts : List (Task (State S C) I O Entry st)) : Type 0 where
    pub same : IsSame u v
    pub seen : v.seen ≡ u.seen
    pub mine : v.mine ≡ u.mine
    pub can_run : All CanRun ts
    pub fresh : All (λ t. IsFresh u (view_in t)) ts
    pub new : AreNew u.given (map caller_in ts)
    pub below : All (λ n. n < v.given) (map caller_in ts)
    -- the share of u, in a unit in which the shares of the parts are numbers
    pub halvings : ℕ
    pub left : ℕ
    pub out : ℕ
    pub left_is : Weighs (u.halvings + halvings) v left
    pub out_is : Weigh (u.halvings + halvings) (map view_in ts) out
    pub sum : left + out ≡ u.part * 2 ^ halvings

  module _ (source : SourceGhosts I) (sink : SinkGhosts O) (export : Option ℕ) where
    pub record HasRun (t now : Task (State S C) I O Entry st) : Type 0 where
      pub pass : IsPass id g c now.pass.seat
      pub open_is : NothingOpen (view now.pass.seat)
      pub own : List Entry
      pub call : Call (view t.pass.seat) (view now.pass.seat) own
      pub did : Did source sink export g.sector t.work now.work own

    abbrev pub HaveRun : List (Task (State S C) I O Entry st) → List (Task (State S C) I O Entry st) → Type 0
    HaveRun ts us = (length us ≡ length ts)
        × ((k : ℕ) (d : Task (State S C) I O Entry st) → k < length ts → HasRun (slice_index_or ts k d) (slice_index_or us k d))
