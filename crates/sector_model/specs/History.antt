-- What a history says of a volume. A history is a list of entries, oldest first.
--
-- Write               a write: its caller and number, its first sector and its data
-- HasName ..          it is request `number` of `caller`
-- open_writes h       the writes that were put and haven't ended, in the order of their Puts
-- after v a h         the array after the history, if it was a before
-- is_frozen h         a write was denied
-- is_flushed h        the last flush succeeded, and no write was put or has ended since
use Rattle.std.specs.Prelude.{◌≡◌, ◌==◌, ◌&&◌, ℕ, Bool, true, false, List, [], ◌∷◌, ◌++◌, if◌then◌else◌}
use Rattle.sector_model.specs.Array.{Array, laid, Volume}
use Rattle.sector_model.specs.declared.entry.Entry.{Entry}
use Rattle.sector_model.specs.declared.entry.Event.{Event}
use Rattle.sector_model.specs.declared.entry.Event.TheVariants.{Put, Done, Lost, Deny, Flush}

pub record Write : Type 0 where
  pub caller : ℕ
  pub number : ℕ
  pub first : ℕ
  pub bytes : List ℕ

abbrev pub HasName : ℕ → ℕ → Write → Type 0
HasName caller number w = (w.caller ≡ caller) × (w.number ≡ number)

-- the same as a test
abbrev pub has_name : ℕ → ℕ → Write → Bool
has_name caller number w = (w.caller == caller) && (w.number == number)

-- the writes without the one of this name
abbrev pub without : ℕ → ℕ → List Write → List Write
without caller number [] = []
without caller number (w ∷ ws) = if has_name caller number w then ws else w ∷ without caller number ws

abbrev pub open_with : ℕ → ℕ → Event → List Write → List Write
open_with caller number (Put first bytes) ws = ws ++ (record { caller = caller; number = number; first = first; bytes = bytes }) ∷ []
open_with caller number (Done first count) ws = without caller number ws
open_with caller number (Lost first bytes spoilt) ws = without caller number ws
open_with caller number other ws = ws

abbrev pub open_from : List Write → List Entry → List Write
open_from ws [] = ws
open_from ws (e ∷ h) = open_from (open_with e.caller e.number e.event ws) h

abbrev pub open_writes : List Entry → List Write
open_writes h = open_from [] h

-- A write takes effect at its Put. If fragments were lost, its sectors hold what the failed writes left.
abbrev pub array_with : Volume → Event → Array → Array
array_with v (Put first bytes) a = laid v first bytes a
array_with v (Lost first bytes spoilt) a = laid v first bytes a
array_with v other a = a

abbrev pub after : Volume → Array → List Entry → Array
after v a [] = a
after v a (e ∷ h) = after v (array_with v e.event a) h

abbrev pub frozen_with : Event → Bool → Bool
frozen_with (Deny first count) frozen = true
frozen_with other frozen = frozen

abbrev pub frozen_from : Bool → List Entry → Bool
frozen_from frozen [] = frozen
frozen_from frozen (e ∷ h) = frozen_from (frozen_with e.event frozen) h

abbrev pub is_frozen : List Entry → Bool
is_frozen h = frozen_from false h

abbrev pub flushed_with : Event → Bool → Bool
flushed_with Flush flushed = true
flushed_with (Put first bytes) flushed = false
flushed_with (Done first count) flushed = false
flushed_with (Lost first bytes spoilt) flushed = false
flushed_with other flushed = flushed

abbrev pub flushed_from : Bool → List Entry → Bool
flushed_from flushed [] = flushed
flushed_from flushed (e ∷ h) = flushed_from (flushed_with e.event flushed) h

abbrev pub is_flushed : List Entry → Bool
is_flushed h = flushed_from false h
