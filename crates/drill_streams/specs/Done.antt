-- Replies that say that each request was done, and the events of a history as writes.
--
-- data_length q        how many bytes of data follow the reply to a request that was done
-- BeginDone q bytes    the bytes begin with the reply to such a request, and its data
-- AreDone fs bytes     the bytes are replies to these requests, in their order, and each says that it was done
-- puts es              the writes that events put, in order
-- Keeps e, IsCalm es   an event, or each of them, changes nothing of an array that a write doesn't put there
-- IsWriteIn c w        all sectors of a write are those of client c
use Rattle.std.specs.Prelude.{◌≡◌, ◌≤◌, ℕ, ◌+◌, ◌*◌, ◌/◌, ◌==◌, if◌then◌else◌, List, [], ◌∷◌, ◌++◌, All, length, take, drop, ⊤}
use Rattle.nbd_wire.specs.Frames.{Frame}
use Rattle.nbd_wire.specs.Wire.{reply}
use Rattle.nbd_wire.specs.declared.request.Request.{Request}
use Rattle.sector_model.specs.declared.entry.Event.{Event}
use Rattle.sector_model.specs.declared.entry.Event.TheVariants.{Put, Lost}
use Rattle.drill_streams.specs.Drill.{Write}

abbrev pub data_length : Request → ℕ
data_length q = if q.kind == 0 then q.length else 0

-- The bytes begin with the reply to a request that was done.
pub record BeginDone (q : Request) (bytes : List ℕ) : Type 0 where
  pub whole : 16 + data_length q ≤ length bytes
  pub done : take 16 bytes ≡ reply 0 q.cookie

unfoldable pub AreDone : List Frame → List ℕ → Type 0
AreDone [] bytes = bytes ≡ []
AreDone (f ∷ fs) bytes = BeginDone f.request bytes × AreDone fs (drop (16 + data_length f.request) bytes)

abbrev pub put_by : Event → List Write
put_by (Put first bytes) = (record { first = first; bytes = bytes }) ∷ []
put_by other = []

unfoldable pub puts : List Event → List Write
puts [] = []
puts (e ∷ es) = put_by e ++ puts es

-- Of all events, Put and Lost alone change an array.
abbrev pub Keeps : Event → Type 0
Keeps (Lost first bytes spoilt) = ⊥
Keeps other = ⊤

abbrev pub IsCalm : List Event → Type 0
IsCalm es = All Keeps es

pub record IsWriteIn (c : ℕ) (w : Write) : Type 0 where
  pub whole : length w.bytes ≡ 512 * (length w.bytes / 512)
  pub some : 512 ≤ length w.bytes
  pub from : 3072 * c ≤ w.first
  pub below : w.first + length w.bytes / 512 ≤ 3072 * c + 3072
