-- What a handshake does with a client's bytes: NBD protocol, "Fixed newstyle negotiation". The server greets, the client
-- sends four bytes of flags, and then its options follow, each answered before the next one is read.
--
-- Hand                        all that is written, how the handshake ends, and the bytes that it leaves to the session
-- options size zeros n bytes  at most n options more
-- hand size bytes             the handshake, of an export of `size` bytes
-- IsPrefix xs ys              xs is the start of ys, but not all of it
-- IsDone h written how rest   h was done until the end `how`. If the outside stopped it, it was done in part.
-- Shakes ..                   a handshake took bytes of its source, gave bytes to its sink, and ended so. If the source's
--                             bytes are known, this is the handshake of all of them, unless the source failed.
use Rattle.std.specs.Prelude.{◌≡◌, ◌<◌, ℕ, zero, suc, nat_lt, Bool, List, [], ◌++◌, length, take, drop, Option, if◌then◌else◌}
use Rattle.vc_outside.specs.Told.{Both, Grows, Shrinks}
use Rattle.nbd_hand.specs.Options.{Step, next, last, step}
use Rattle.nbd_hand.specs.Wire.{field, greeting}
use Rattle.nbd_hand.specs.declared.end.HandEnd.{HandEnd}
use Rattle.nbd_hand.specs.declared.end.HandEnd.TheVariants.{Cut, NoMemory, ReadFault, Refused, WriteFault}
use Rattle.nbd_hand.specs.declared.end.Refusal.TheVariants.{Flags, TooMany}

pub record Hand : Type 0 where
  pub written : List ℕ
  pub last : HandEnd
  pub rest : List ℕ

abbrev pub ends : HandEnd → List ℕ → Hand
ends how rest = record { written = []; last = how; rest = rest }

abbrev pub before : List ℕ → Hand → Hand
before reply h = record { written = reply ++ h.written; last = h.last; rest = h.rest }

abbrev pub followed : Step → (List ℕ → Hand) → Hand
followed (next reply rest) more = before reply (more rest)
followed (last reply how rest) more = record { written = reply; last = how; rest = rest }

unfoldable pub options : ℕ → Bool → ℕ → List ℕ → Hand
options size zeros zero bytes = ends (Refused TooMany) bytes
options size zeros (suc n) bytes = followed (step size zeros bytes) (options size zeros n)

-- Flag 0 is fixed newstyle, which changes nothing. Flag 1 turns off the zeros after the reply to option 1.
abbrev pub after_flags : ℕ → ℕ → List ℕ → Hand
after_flags size flags rest = if nat_lt 3 flags then ends (Refused (Flags flags)) rest else options size (nat_lt flags 2) 1024 rest

abbrev pub after_greeting : ℕ → List ℕ → Hand
after_greeting size bytes = if nat_lt (length bytes) 4 then ends Cut [] else after_flags size (field 0 4 bytes) (drop 4 bytes)

abbrev pub hand : ℕ → List ℕ → Hand
hand size bytes = before greeting (after_greeting size bytes)

abbrev pub IsPrefix : List ℕ → List ℕ → Type 0
IsPrefix xs ys = (n : ℕ) × (n < length ys) × (xs ≡ take n ys)

abbrev pub IsDone : Hand → List ℕ → HandEnd → List ℕ → Type 0
-- the handshake of the bytes that were taken isn't over: it goes on after them
IsDone h written ReadFault rest = (written ≡ h.written) × (h.last ≡ Cut)
IsDone h written WriteFault rest = IsPrefix written h.written
IsDone h written NoMemory rest = IsPrefix written h.written
IsDone h written how rest = h ≡ record { written = written; last = how; rest = rest }

pub record Does (meant : List ℕ → Hand) (left later held now : Option (List ℕ)) (how : HandEnd) : Type 0 where
  pub taken : List ℕ
  pub written : List ℕ
  pub input : Shrinks left later taken
  pub output : Grows held now written
  -- of the bytes that were taken, nothing was left over
  pub alone : IsDone (meant taken) written how []
  pub whole : ¬ (how ≡ ReadFault) → Both left later (λ bytes rest. IsDone (meant bytes) written how rest)

abbrev pub Shakes : ℕ → Option (List ℕ) → Option (List ℕ) → Option (List ℕ) → Option (List ℕ) → HandEnd → Type 0
Shakes size left later held now how = Does (hand size) left later held now how
