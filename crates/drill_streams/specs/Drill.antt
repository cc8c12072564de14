-- The requests of the drill of a number n: docs/FORMAT.md, "The drill", has them in the same order. Sectors have 512
-- bytes, and there are three clients, 0 to 2, with twelve requests each, 0 to 11.
--
-- key_of n                the random key
-- generator n stream      the generator with this key, at the start of a stream
-- word n c r              the word of request r of client c
-- is_read r w             request r with the word w is a read, otherwise it is a write
-- first_of c w, count_of w, data_of w
--                         its first sector, its sectors, and the data of a write
-- frame_of c r w          the request as the wire has it
-- requests n c            the requests of client c
-- head q, bytes_of f, sent fs
--                         the bytes of a head, of a request and of a list of them
-- stream n c              all bytes of client c: its requests and a disconnect
-- Write, writes_in fs     a first sector and the bytes from there on; the writes among requests
-- writes_of n c           the writes of client c
-- reads_in fs, count_of_writes fs, sectors_in fs
--                         the number of reads among requests, that of writes, and the sum of the writes' sectors
-- reads n, writes n, sectors n
--                         the same of all three clients
use Rattle.std.specs.Prelude.{ℕ, zero, suc, ◌+◌, ◌*◌, ◌/◌, ◌%◌, ◌==◌, ◌&&◌, not, Bool, if◌then◌else◌, List, [], ◌∷◌, ◌++◌, replicate}
use Rattle.std.specs.Int.{w64, to_le_bytes}
use Rattle.byteorder.specs.Endian.{big_bytes}
use Rattle.rand_chacha.specs.ChaCha.{ChaCha, key_of as words_of_key}
use Rattle.vc_base.specs.Bytes.{joined}
use Rattle.volume_format.specs.Stream.{stream_word}
use Rattle.nbd_wire.specs.Frames.{Frame}
use Rattle.nbd_wire.specs.declared.request.Request.{Request}

unfoldable pub key_of : ℕ → List ℕ
key_of n = to_le_bytes w64 n ++ replicate 24 0

unfoldable pub generator : ℕ → ℕ → ChaCha
generator n stream = record { key = words_of_key (key_of n); stream = stream; word_pos = 0 }

unfoldable pub word : ℕ → ℕ → ℕ → ℕ
word n c r = stream_word (generator n 1) (12 * c + r)

abbrev pub is_read : ℕ → ℕ → Bool
is_read r w = (w % 4 == 0) && not (r == 0)

abbrev pub first_of : ℕ → ℕ → ℕ
first_of c w = 3072 * c + w / 4 % 1536

abbrev pub count_of : ℕ → ℕ
count_of w = 1 + w / 8192 % 1536

unfoldable pub data_of : ℕ → List ℕ
data_of w = joined (λ i. (w / 16777216 + i) % 256 ∷ []) (512 * count_of w)

abbrev pub request_of : ℕ → ℕ → ℕ → Request
request_of c r w = record {
  flags = 0;
  kind = if is_read r w then 0 else 1;
  cookie = 12 * c + r;
  offset = 512 * first_of c w;
  length = 512 * count_of w;
}

abbrev pub frame_of : ℕ → ℕ → ℕ → Frame
frame_of c r w = record { request = request_of c r w; payload = if is_read r w then [] else data_of w }

-- k requests of a client, from request r on
unfoldable pub requests_from : ℕ → ℕ → ℕ → ℕ → List Frame
requests_from n c r zero = []
requests_from n c r (suc k) = frame_of c r (word n c r) ∷ requests_from n c (suc r) k

abbrev pub requests : ℕ → ℕ → List Frame
requests n c = requests_from n c 0 12

unfoldable pub head : Request → List ℕ
head q = big_bytes 4 0x25609513 ++ big_bytes 2 q.flags ++ big_bytes 2 q.kind ++ big_bytes 8 q.cookie ++ big_bytes 8 q.offset ++ big_bytes 4 q.length

abbrev pub bytes_of : Frame → List ℕ
bytes_of f = head f.request ++ f.payload

unfoldable pub sent : List Frame → List ℕ
sent [] = []
sent (f ∷ fs) = bytes_of f ++ sent fs

abbrev pub disconnect : Request
disconnect = record { flags = 0; kind = 2; cookie = 0; offset = 0; length = 0 }

abbrev pub stream : ℕ → ℕ → List ℕ
stream n c = sent (requests n c) ++ head disconnect

pub record Write : Type 0 where
  pub first : ℕ
  pub bytes : List ℕ

abbrev pub written_by : Frame → List Write
written_by f = if f.request.kind == 1 then (record { first = f.request.offset / 512; bytes = f.payload }) ∷ [] else []

unfoldable pub writes_in : List Frame → List Write
writes_in [] = []
writes_in (f ∷ fs) = written_by f ++ writes_in fs

abbrev pub writes_of : ℕ → ℕ → List Write
writes_of n c = writes_in (requests n c)

-- the sum of what each request counts for
unfoldable pub total : (Frame → ℕ) → List Frame → ℕ
total counts [] = 0
total counts (f ∷ fs) = counts f + total counts fs

abbrev pub reads_in : List Frame → ℕ
reads_in fs = total (λ f. if f.request.kind == 0 then 1 else 0) fs

abbrev pub count_of_writes : List Frame → ℕ
count_of_writes fs = total (λ f. if f.request.kind == 1 then 1 else 0) fs

abbrev pub sectors_in : List Frame → ℕ
sectors_in fs = total (λ f. if f.request.kind == 1 then f.request.length / 512 else 0) fs

-- the sum over the three clients
abbrev pub of_all : (ℕ → ℕ) → ℕ
of_all f = f 0 + f 1 + f 2

abbrev pub reads : ℕ → ℕ
reads n = of_all (λ c. reads_in (requests n c))

abbrev pub writes : ℕ → ℕ
writes n = of_all (λ c. count_of_writes (requests n c))

abbrev pub sectors : ℕ → ℕ
sectors n = of_all (λ c. sectors_in (requests n c))
