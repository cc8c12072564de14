-- What was written of a reply.
--
-- reply_head number kind n  the head of the reply to an option, whose data has n bytes
-- GrowsInPart old new xs   the first bytes of xs were added at the end, but not all
-- Replied ..               the reply was written whole, and then the handshake goes on or ends as it is meant to; or it
--                          wasn't, and the sink refused the rest
use Rattle.std.specs.Prelude.{◌≡◌, ◌<◌, ◌⊎◌, ℕ, List, ◌++◌, length, take, Option, Some}
use Rattle.byteorder.specs.Endian.{big_bytes}
use Rattle.vc_outside.specs.Told.{Grows}
use Rattle.nbd_hand.specs.declared.end.HandEnd.{HandEnd}
use Rattle.nbd_hand.specs.declared.end.HandEnd.TheVariants.{NoMemory, WriteFault}

abbrev pub reply_head : ℕ → ℕ → ℕ → List ℕ
reply_head number kind n = big_bytes 8 0x0003e889045565a9 ++ (big_bytes 4 number ++ (big_bytes 4 kind ++ big_bytes 4 n))

abbrev pub GrowsInPart : Option (List ℕ) → Option (List ℕ) → List ℕ → Type 0
GrowsInPart old new xs = (n : ℕ) × (n < length xs) × Grows old new (take n xs)

abbrev pub SinkStops : Option HandEnd → Type 0
SinkStops how = (how ≡ Some WriteFault) ⊎ (how ≡ Some NoMemory)

abbrev pub Replied : Option (List ℕ) → Option (List ℕ) → List ℕ → Option HandEnd → Option HandEnd → Type 0
Replied held now whole meant how = (Grows held now whole × (how ≡ meant)) ⊎ (GrowsInPart held now whole × SinkStops how)
