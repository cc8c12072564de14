-- A store over memory, as contracts see it, and what its calls do.
--
-- shown h               what a read gives
-- LeftBy es b           what a crash may leave after the events, if the bytes at the start were b
-- May h, Since h        what a crash now may leave, and what one since an earlier moment might have left
-- has_room h n          there is room for one more event with n bytes
-- size_of e b           the bytes for which the event takes room, if a read gave b before
-- noted e h             h with one more event
-- stored k at xs b      what the range of a write of xs holds if only the first k bytes are stored
-- called e failed m     m after a call that recorded the event, or none, and failed or not
-- plan m                what is planned for the next call
-- write_event at xs m   what a write records, if anything
-- write_goes .. m       whether the call succeeds, if there is memory; the same for the other calls
use Rattle.std.specs.Prelude.{◌≡◌, ◌≤◌, ◌+◌, ◌-◌, ◌/◌, ◌&&◌, ◌⊎◌, nat_lt, nat_le, ℕ, Bool, true, false, List, [], ◌∷◌, ◌++◌, Option, Some, None, length, take, slice_range}
use Rattle.vc_outside.specs.Planned.{counted, counted_if, goes, plan_of}
use Rattle.vc_outside.specs.Record.{Event, Lost, Outcome, read_after, Resized, Synced, Wrote}
use Rattle.vc_outside.specs.Told.{written}
use Rattle.vc_outside.specs.declared.planned.CallPlan.{CallPlan}
use Rattle.vc_outside.specs.declared.planned.CallPlan.TheVariants.{Goes, Fails, Stops, Stopped}

-- the bytes and their record
pub record Held : Type 0 where
  -- the bytes at the start
  pub first : List ℕ
  -- what was recorded since
  pub events : List Event
  -- for how many more events and how many more bytes there is room
  pub places : ℕ
  pub room : ℕ

pub record Memory : Type 0 where
  pub held : Held
  -- the number of the next call, the numbers of calls that fail, and the one from which on all fail
  pub next : ℕ
  pub fails : List ℕ
  pub stop : Option ℕ
  -- the count of failed calls
  pub faults : ℕ

abbrev pub shown : Held → List ℕ
shown h = read_after h.events h.first

-- What a read gives may stay, and so may each outcome of the events. If every event fits, the first is one of
-- the second: it is said apart so that it holds of any list of events.
abbrev pub LeftBy : List Event → List ℕ → List ℕ → Type 0
LeftBy es b c = (c ≡ read_after es b) ⊎ Outcome es b (λ d. d ≡ b) c

abbrev pub May : Held → List ℕ → Type 0
May h c = LeftBy h.events h.first c

-- The moments are the numbers of events.
abbrev pub Since : Held → ℕ → List ℕ → Type 0
Since h t c = (k : ℕ) × (t ≤ k) × (k ≤ length h.events) × LeftBy (take k h.events) h.first c

abbrev pub has_room : Held → ℕ → Bool
has_room h n = nat_lt 0 h.places && nat_le n h.room

-- A write takes room for its bytes, and a cut for what it cuts off.
abbrev pub size_of : Event → List ℕ → ℕ
size_of (Wrote at xs) b = length xs
size_of (Lost at xs) b = length xs
size_of (Resized n) b = length b - n
size_of Synced b = 0

abbrev pub noted : Event → Held → Held
noted e h = record { first = h.first; events = h.events ++ e ∷ []; places = h.places - 1; room = h.room - size_of e (shown h) }

abbrev pub noted_if : Option Event → Held → Held
noted_if None h = h
noted_if (Some e) h = noted e h

abbrev pub called : Option Event → Bool → Memory → Memory
called e failed m = record {
  held = noted_if e m.held;
  next = counted m.next;
  fails = m.fails;
  stop = m.stop;
  faults = counted_if failed m.faults;
}

abbrev pub stored : ℕ → ℕ → List ℕ → List ℕ → List ℕ
stored k at xs b = slice_range (written at (take k xs) b) at (at + length xs)

-- A failed write stores half of its bytes, and the one at which the store stops is lost.
abbrev pub write_by : Bool → CallPlan → ℕ → List ℕ → List ℕ → Option Event
write_by false plan at xs b = None
write_by true Goes at xs b = Some (Wrote at xs)
write_by true Fails at xs b = Some (Wrote at (stored (length xs / 2) at xs b))
write_by true Stops at xs b = Some (Lost at xs)
write_by true Stopped at xs b = None

-- A call succeeds if there is room for it and the plan lets it.
abbrev pub goes_by : Bool → CallPlan → Bool
goes_by place plan = place && goes plan

abbrev pub plan : Memory → CallPlan
plan m = plan_of m.next m.fails m.stop

abbrev pub write_event : ℕ → List ℕ → Memory → Option Event
write_event at xs m = write_by (has_room m.held (length xs)) (plan m) at xs (shown m.held)

abbrev pub write_goes : List ℕ → Memory → Bool
write_goes xs m = goes_by (has_room m.held (length xs)) (plan m)

abbrev pub length_goes : ℕ → Memory → Bool
length_goes n m = goes_by (has_room m.held (length (shown m.held) - n)) (plan m)

abbrev pub sync_goes : Memory → Bool
sync_goes m = goes_by (has_room m.held 0) (plan m)

-- A read isn't recorded, and needs no room.
abbrev pub read_goes : Memory → Bool
read_goes m = goes (plan m)
