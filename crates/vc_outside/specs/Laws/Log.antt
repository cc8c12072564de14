-- How a store over memory keeps its record: the calls in a list, and their bytes one after the other.
--
-- Log                  a record as its users see it
-- has_place log n      there is room for one more event with n bytes
-- added e n log        the log with one more event, with n bytes
-- event_of bytes call  the event that a recorded call means
-- EndsBy n call        the call's bytes end by the n-th
use Rattle.std.specs.Prelude.{◌≤◌, ◌+◌, ◌-◌, ◌&&◌, nat_lt, nat_le, ℕ, Bool, List, [], ◌∷◌, ◌++◌, length, map, slice_range, Vec, vec_capacity, ⊤}
use Rattle.std.specs.List.{All}
use Rattle.std.specs.declared.alloc.Global.{Global}
use Rattle.vc_outside.specs.Record.{Event, Wrote, Lost, Resized, Synced}
use Rattle.vc_outside.specs.declared.record.Call.{Call}
use Rattle.vc_outside.specs.declared.record.Call.TheVariants.{Write, Loss, Length, Sync}

pub record Log : Type 0 where
  pub events : List Event
  -- for how many more events and bytes there is room
  pub places : ℕ
  pub room : ℕ

abbrev pub has_place : Log → ℕ → Bool
has_place log n = nat_lt 0 log.places && nat_le n log.room

abbrev pub added : Event → ℕ → Log → Log
added e n log = record { events = log.events ++ e ∷ []; places = log.places - 1; room = log.room - n }

abbrev pub event_of : List ℕ → Call → Event
event_of bytes (Write at from len) = Wrote at (slice_range bytes from (from + len))
event_of bytes (Loss at from len) = Lost at (slice_range bytes from (from + len))
event_of bytes (Length len) = Resized len
event_of bytes Sync = Synced

abbrev pub EndsBy : ℕ → Call → Type 0
EndsBy n (Write at from len) = from + len ≤ n
EndsBy n (Loss at from len) = from + len ≤ n
EndsBy n (Length len) = ⊤
EndsBy n Sync = ⊤

abbrev pub events_of : List ℕ → List Call → List Event
events_of bytes calls = map (event_of bytes) calls

pub record IsKept (calls : List Call) (bytes : Vec ℕ Global) (room : ℕ) : Type 0 where
  pub ends : All (EndsBy (length bytes.items)) calls
  pub place : length bytes.items + room ≤ vec_capacity bytes
