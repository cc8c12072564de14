-- What requests leave in a history and what is replied. docs/PROTOCOL.md, "Replies", has the table.
--
-- error_of outcome             the error number
-- ReadLeaves, WriteLeaves, ..  the events that a request with this outcome leaves, and the data of its reply
-- IsAnswered sector f es bytes the request f left the events es, and its reply is `bytes`
-- AreAnswered sector fs es n bytes end
--                              of the requests fs the first n left the events es, in order, and their replies are
--                              `bytes`; after them it ended so. If a reply failed, its request's events may be the last
--                              of es, and a prefix of that reply the last of `bytes`.
use Rattle.std.specs.Prelude.{◌≡◌, ◌<◌, ◌⊎◌, ℕ, suc, ◌*◌, Bool, true, false, List, [], ◌∷◌, ◌++◌, length}
use Rattle.nbd_wire.specs.Classes.{asked}
use Rattle.nbd_wire.specs.Frames.{Frame, Frames}
use Rattle.nbd_wire.specs.Wire.{reply}
use Rattle.nbd_wire.specs.declared.ask.Ask.{Ask}
use Rattle.nbd_wire.specs.declared.ask.Ask.TheVariants as ask
use Rattle.nbd_wire.specs.declared.end.End.{End}
use Rattle.nbd_wire.specs.declared.end.End.TheVariants as end
use Rattle.nbd_wire.specs.declared.reply.Outcome.{Outcome}
use Rattle.nbd_wire.specs.declared.reply.Outcome.TheVariants.{Done, Malformed, ReadBeyond, WriteBeyond, Denied, Frozen, Fault, NoMemory}
use Rattle.sector_model.specs.declared.entry.Event.{Event}
use Rattle.sector_model.specs.declared.entry.Event.TheVariants as event
use Rattle.sector_model.specs.declared.entry.FaultMark.{FaultMark}

abbrev pub error_of : Outcome → ℕ
error_of Done = 0
error_of Malformed = 22
error_of ReadBeyond = 22
error_of WriteBeyond = 28
error_of Denied = 1
error_of Frozen = 1
error_of Fault = 5
error_of NoMemory = 12

abbrev pub Alone : List Event → Event → Type 0
Alone es e = es ≡ e ∷ []

abbrev pub ReadLeaves : ℕ → ℕ → ℕ → Outcome → List Event → List ℕ → Type 0
ReadLeaves sector first count Done es bytes = Alone es (event.Read first bytes) × (length bytes ≡ sector * count)
ReadLeaves sector first count ReadBeyond es bytes = Alone es (event.Beyond first count) × (bytes ≡ [])
ReadLeaves sector first count Fault es bytes = ((mark : FaultMark) × Alone es (event.Fail first count mark)) × (bytes ≡ [])
ReadLeaves sector first count NoMemory es bytes = (es ≡ []) × (bytes ≡ [])
ReadLeaves sector first count other es bytes = ⊥

-- A flush fails as a read of no sectors.
abbrev pub FlushLeaves : Outcome → List Event → Type 0
FlushLeaves Done es = Alone es event.Flush
FlushLeaves Fault es = (mark : FaultMark) × Alone es (event.Fail 0 0 mark)
FlushLeaves other es = ⊥

-- what a write with FUA leaves once it is stored, or one without
abbrev pub StoredLeaves : Bool → Outcome → List Event → Type 0
StoredLeaves true outcome es = FlushLeaves outcome es
StoredLeaves false Done es = es ≡ []
StoredLeaves false other es = ⊥

abbrev pub IsStored : ℕ → ℕ → Bool → List ℕ → Outcome → List Event → Type 0
IsStored first count fua payload outcome es =
    (later : List Event) × (es ≡ event.Put first payload ∷ event.Done first count ∷ later) × StoredLeaves fua outcome later

abbrev pub IsLost : ℕ → List ℕ → List Event → Type 0
IsLost first payload es =
    (now : List ℕ) × (spoilt : List (ℕ × FaultMark)) × (es ≡ event.Put first payload ∷ event.Lost first now spoilt ∷ [])

abbrev pub WriteLeaves : ℕ → ℕ → Bool → List ℕ → Outcome → List Event → Type 0
WriteLeaves first count fua payload Done es = IsStored first count fua payload Done es
WriteLeaves first count fua payload Fault es = IsLost first payload es ⊎ IsStored first count fua payload Fault es
WriteLeaves first count fua payload WriteBeyond es = Alone es (event.Beyond first count)
WriteLeaves first count fua payload Denied es = Alone es (event.Deny first count)
WriteLeaves first count fua payload Frozen es = Alone es (event.Shut first count)
WriteLeaves first count fua payload NoMemory es = es ≡ []
WriteLeaves first count fua payload other es = ⊥

abbrev pub IsRefused : Outcome → List Event → Type 0
IsRefused Malformed es = es ≡ []
IsRefused other es = ⊥

-- what a request leaves, by what it asks, and the data of its reply
abbrev pub Leaves : ℕ → Ask → List ℕ → Outcome → List Event → List ℕ → Type 0
Leaves sector (ask.Read first count) payload outcome es bytes = ReadLeaves sector first count outcome es bytes
Leaves sector (ask.Write first count fua) payload outcome es bytes = WriteLeaves first count fua payload outcome es × (bytes ≡ [])
Leaves sector ask.Flush payload outcome es bytes = FlushLeaves outcome es × (bytes ≡ [])
Leaves sector ask.Malformed payload outcome es bytes = IsRefused outcome es × (bytes ≡ [])
Leaves sector ask.Disconnect payload outcome es bytes = ⊥

pub record IsAnswered (sector : ℕ) (f : Frame) (es : List Event) (bytes : List ℕ) : Type 0 where
  pub outcome : Outcome
  pub content : List ℕ
  pub leaves : Leaves sector (asked sector f.request) f.payload outcome es content
  pub replied : bytes ≡ reply (error_of outcome) f.request.cookie ++ content

-- The first request was answered, and the others go on so.
pub record GoesOn (sector : ℕ) (f : Frame) (Rest : List Event → ℕ → List ℕ → Type 0) (es : List Event) (n : ℕ) (bytes : List ℕ) : Type 0 where
  pub own : List Event
  pub own_reply : List ℕ
  pub answered : IsAnswered sector f own own_reply
  pub later : List Event
  pub count : ℕ
  pub replies : List ℕ
  pub others : Rest later count replies
  pub events : es ≡ own ++ later
  pub counted : n ≡ suc count
  pub written : bytes ≡ own_reply ++ replies

-- The reply to the first request failed before it was written whole.
pub record Stops (sector : ℕ) (f : Frame) (es : List Event) (n : ℕ) (bytes : List ℕ) (how : End) : Type 0 where
  pub whole : List ℕ
  pub answered : IsAnswered sector f es whole
  pub none : n ≡ 0
  pub rest : List ℕ
  pub prefix : whole ≡ bytes ++ rest
  pub some_left : 0 < length rest
  pub cause : (how ≡ end.WriteFault) ⊎ (how ≡ end.NoMemory)

-- All requests were answered. A source that fails tells no more bytes.
pub record IsOver (last : End) (es : List Event) (n : ℕ) (bytes : List ℕ) (how : End) : Type 0 where
  pub events : es ≡ []
  pub none : n ≡ 0
  pub nothing : bytes ≡ []
  pub cause : (how ≡ last) ⊎ (how ≡ end.ReadFault)

abbrev pub AnsweredOf : ℕ → List Frame → End → List Event → ℕ → List ℕ → End → Type 0
AnsweredOf sector [] last es n bytes how = IsOver last es n bytes how
AnsweredOf sector (f ∷ fs) last es n bytes how =
    GoesOn sector f (λ es n bytes. AnsweredOf sector fs last es n bytes how) es n bytes ⊎ Stops sector f es n bytes how

abbrev pub AreAnswered : ℕ → Frames → List Event → ℕ → List ℕ → End → Type 0
AreAnswered sector fs es n bytes how = AnsweredOf sector fs.requests fs.last es n bytes how
