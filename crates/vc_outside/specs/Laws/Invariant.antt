-- What holds of the bytes and the record of a store over memory at every moment.
--
-- Fits e b                 the event's range is within b
-- IsRecord es b            each event fits what a read gave before it
-- IsHeld first es bytes    the bytes are what a read gives, and each event fits
use Rattle.std.specs.Prelude.{◌≡◌, ◌≤◌, ℕ, ◌+◌, List, [], ◌∷◌, length, ⊤}
use Rattle.vc_outside.specs.Record.{after, Event, Lost, read_after, Resized, Synced, Wrote}

abbrev pub Fits : Event → List ℕ → Type 0
Fits (Wrote at xs) b = at + length xs ≤ length b
Fits (Lost at xs) b = at + length xs ≤ length b
Fits (Resized n) b = ⊤
Fits Synced b = ⊤

unfoldable pub IsRecord : List Event → List ℕ → Type 0
IsRecord [] b = ⊤
IsRecord (e ∷ es) b = Fits e b × IsRecord es (after e b)

pub record IsHeld (first : List ℕ) (events : List Event) (bytes : List ℕ) : Type 0 where
  pub shows : bytes ≡ read_after events first
  pub sound : IsRecord events first
