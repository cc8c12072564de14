-- The requests of a client's bytes, in order, and how the bytes end. A head has 28 bytes. The payload of a write follows
-- its head, also if the write is malformed.
--
-- Frame                a request and its payload
-- payload_length r     how many bytes follow the head
-- Start, start bytes   how bytes start
-- frames bytes         their requests, their end, and what nobody is to read of them
use Rattle.std.specs.Prelude.{ℕ, zero, suc, ◌==◌, nat_lt, List, [], ◌∷◌, length, take, drop, if◌then◌else◌}
use Rattle.nbd_wire.specs.declared.end.End.{End}
use Rattle.nbd_wire.specs.declared.end.End.TheVariants.{Done, Cut, BadMagic}
use Rattle.nbd_wire.specs.declared.request.Request.{Request}
use Rattle.nbd_wire.specs.Wire.{has_magic, request_of}

pub record Frame : Type 0 where
  pub request : Request
  pub payload : List ℕ

pub record Frames : Type 0 where
  pub requests : List Frame
  pub last : End
  -- the bytes after a disconnect
  pub unread : List ℕ

abbrev pub payload_length : Request → ℕ
payload_length r = if r.kind == 1 then r.length else 0

pub data Start : Type 0 where
  -- no byte is left
  over : Start
  -- the bytes end inside a head or a payload
  short : Start
  -- these four bytes are no magic
  wrong : List ℕ → Start
  -- a disconnect, and the bytes after it
  leaves : List ℕ → Start
  -- a request, its payload and the bytes after it
  asks : Request → List ℕ → List ℕ → Start

abbrev pub after_head : Request → List ℕ → Start
after_head r rest =
    if r.kind == 2 then leaves rest else
    (if nat_lt (length rest) (payload_length r) then short
    else asks r (take (payload_length r) rest) (drop (payload_length r) rest))

-- The magic counts as soon as it is there.
abbrev pub start : List ℕ → Start
start bytes =
    if length bytes == 0 then over else
    (if nat_lt (length bytes) 4 then short else
    (if has_magic bytes
    then (if nat_lt (length bytes) 28 then short else after_head (request_of bytes) (drop 28 bytes))
    else wrong (take 4 bytes)))

abbrev pub ends : End → Frames
ends how = record { requests = []; last = how; unread = [] }

-- Nothing after a disconnect is a request.
abbrev pub followed : Start → (List ℕ → Frames) → Frames
followed over more = ends Done
followed short more = ends Cut
followed (wrong magic) more = ends (BadMagic magic)
followed (leaves rest) more = record { requests = []; last = Done; unread = rest }
followed (asks r payload rest) more = record {
  requests = (record { request = r; payload = payload }) ∷ (more rest).requests;
  last = (more rest).last;
  unread = (more rest).unread;
}

-- the first n requests
abbrev pub frames_up_to : ℕ → List ℕ → Frames
frames_up_to zero bytes = ends Done
frames_up_to (suc n) bytes = followed (start bytes) (frames_up_to n)

-- A request has 28 bytes or more, so there are fewer requests than bytes.
abbrev pub frames : List ℕ → Frames
frames bytes = frames_up_to (suc (length bytes)) bytes
