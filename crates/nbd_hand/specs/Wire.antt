-- The bytes of the fixed newstyle handshake: NBD protocol, "Newstyle negotiation", "Option types", "Option reply types".
-- Numbers are big-endian.
--
-- field at n bytes          the number of n bytes at an offset
-- greeting                  what the server says first: NBDMAGIC, IHAVEOPT, and the flags fixed newstyle and no zeroes
-- has_magic bytes           the bytes begin with IHAVEOPT, as an option
-- option_reply number kind content   the reply to the option of this number
-- ack, server, info, ..     the kinds of replies
use Rattle.std.specs.Prelude.{ℕ, ◌==◌, Bool, List, ◌++◌, length, drop}
use Rattle.byteorder.specs.Endian.{big_bytes, big_number}

abbrev pub field : ℕ → ℕ → List ℕ → ℕ
field at n bytes = big_number n (drop at bytes)

abbrev pub greeting : List ℕ
greeting = big_bytes 8 0x4e42444d41474943 ++ (big_bytes 8 0x49484156454f5054 ++ big_bytes 2 3)

abbrev pub has_magic : List ℕ → Bool
has_magic bytes = field 0 8 bytes == 0x49484156454f5054

abbrev pub option_reply : ℕ → ℕ → List ℕ → List ℕ
option_reply number kind content =
    big_bytes 8 0x0003e889045565a9 ++ (big_bytes 4 number ++ (big_bytes 4 kind ++ (big_bytes 4 (length content) ++ content)))

abbrev pub ack : ℕ
ack = 1

abbrev pub server : ℕ
server = 2

abbrev pub info : ℕ
info = 3

abbrev pub unsupported : ℕ
unsupported = 0x80000001

abbrev pub invalid : ℕ
invalid = 0x80000003

abbrev pub unknown : ℕ
unknown = 0x80000006
