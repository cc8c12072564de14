-- What a store over memory records, and what a crash may leave of it.
--
-- An event is a write, a lost write, a change of the length, or a sync. A lost write is one at which the
-- store stops: no read gives its bytes, but a crash may leave them. The events are in their order.
--
-- after e b             what a read gives after the event, if it gave b before
-- read_after es b       the same, after all of the events
-- Left e b P            the outcomes after the event, if P are those before and a read gave b
-- Outcome es b P        the same, after all of the events
-- picked p e b c        of the outcome c before the event, the one that the pick p takes after it
-- crashed p es b c      the same, after all of the events
use Rattle.std.specs.Prelude.{◌≡◌, ℕ, zero, suc, List, [], ◌∷◌, length, replicate}
use Rattle.vc_outside.specs.Told.{written, resized, SameOutside}
use Rattle.vc_outside.specs.Crash.{Relength}

pub data Event : Type 0 where
  Wrote : (at : ℕ) (xs : List ℕ) → Event
  Lost : (at : ℕ) (xs : List ℕ) → Event
  Resized : (n : ℕ) → Event
  Synced : Event

abbrev pub after : Event → List ℕ → List ℕ
after (Wrote at xs) b = written at xs b
after (Lost at xs) b = b
after (Resized n) b = resized n b
after Synced b = b

unfoldable pub read_after : List Event → List ℕ → List ℕ
read_after [] b = b
read_after (e ∷ es) b = read_after es (after e b)

-- A range that is written may hold any bytes, and a sync leaves what a read gives.
abbrev pub Left : Event → List ℕ → (List ℕ → Type 0) → List ℕ → Type 0
Left (Wrote at xs) b P c = (d : List ℕ) × P d × SameOutside at (length xs) d c
Left (Lost at xs) b P c = (d : List ℕ) × P d × SameOutside at (length xs) d c
Left (Resized n) b P c = (d : List ℕ) × P d × Relength n d c
Left Synced b P c = c ≡ b

unfoldable pub Outcome : List Event → List ℕ → (List ℕ → Type 0) → List ℕ → Type 0
Outcome [] b P c = P c
Outcome (e ∷ es) b P c = Outcome es (after e b) (Left e b P) c

-- Pick 0 takes the old bytes, 1 the new ones and 2 bytes a5; pick 0 the old length, 1 and 2 the new one.
abbrev pub torn : ℕ → ℕ → List ℕ → List ℕ → List ℕ
torn zero at xs c = c
torn (suc zero) at xs c = written at xs c
torn (suc (suc p)) at xs c = written at (replicate (length xs) 0xa5) c

abbrev pub relengthed : ℕ → ℕ → List ℕ → List ℕ
relengthed zero n c = c
relengthed (suc p) n c = resized n c

abbrev pub picked : ℕ → Event → List ℕ → List ℕ → List ℕ
picked p (Wrote at xs) b c = torn p at xs c
picked p (Lost at xs) b c = torn p at xs c
picked p (Resized n) b c = relengthed p n c
picked p Synced b c = b

unfoldable pub crashed : ℕ → List Event → List ℕ → List ℕ → List ℕ
crashed p [] b c = c
crashed p (e ∷ es) b c = crashed p es (after e b) (picked p e b c)
