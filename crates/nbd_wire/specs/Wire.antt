-- The head of a request and a simple reply, in bytes: NBD protocol, "Request message" and "Simple reply message".
-- Numbers are big-endian.
--
-- field at n bytes     the number of n bytes at an offset
-- has_magic bytes      the bytes begin as a request
-- request_of head      the fields of a head
-- reply error cookie   the reply with this error number
use Rattle.std.specs.Prelude.{ℕ, ◌==◌, Bool, List, ◌++◌, drop}
use Rattle.byteorder.specs.Endian.{big_bytes, big_number}
use Rattle.nbd_wire.specs.declared.request.Request.{Request}

abbrev pub field : ℕ → ℕ → List ℕ → ℕ
field at n bytes = big_number n (drop at bytes)

abbrev pub has_magic : List ℕ → Bool
has_magic bytes = field 0 4 bytes == 0x25609513

abbrev pub request_of : List ℕ → Request
request_of head = record {
  flags = field 4 2 head;
  kind = field 6 2 head;
  cookie = field 8 8 head;
  offset = field 16 8 head;
  length = field 24 4 head;
}

abbrev pub reply : ℕ → ℕ → List ℕ
reply error cookie = big_bytes 4 0x67446698 ++ big_bytes 4 error ++ big_bytes 8 cookie
