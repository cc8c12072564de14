-- The requests of a client's bytes are those that it sent.
--
-- A head is its own fields, so bytes that begin with one begin with its request; the payload follows, and then the rest.
use Rattle.std.proofs.Common.{◌≡◌, ◌<◌, ℕ, ◌+◌, ◌^◌, ◌==◌, nat_lt, Bool, true, false, if◌then◌else◌, List, [], ◌∷◌, ◌++◌, length, take, drop, get_or, append_assoc, length-append, refl, sym, ap, ◌∙◌, arith, inl, inr}
use Rattle.std.proofs.lemmas.Bool.{le-ltb, ne_eqb}
use Rattle.std.proofs.lemmas.List.{drop_at, take_at}
use Rattle.byteorder.specs.Endian.{big_bytes}
use Rattle.byteorder.specs.Numbers.{big_number-reads_back}
use Rattle.nbd_wire.specs.declared.end.End.TheVariants as end
use Rattle.nbd_wire.specs.declared.request.Request.{Request}
use Rattle.nbd_wire.specs.Frames.{after_head, followed, Frame, Frames, frames, Start, over, short, wrong, leaves, asks, payload_length, start}
use Rattle.nbd_wire.specs.Wire.{has_magic, request_of}
use Rattle.nbd_wire.proofs.FirstAndRest.{frames-start}
use Rattle.drill_streams.specs.Drill.{bytes_of, disconnect, head, requests, sent, stream}
use Rattle.drill_streams.proofs.OneByOne.{Each, each_request}
use Rattle.drill_streams.proofs.Plain.{IsPlain, plain_request}

if_true : {X : Type 0} (b : Bool) (x y : X) → b ≡ true → (if b then x else y) ≡ x
if_true b x y is = ap (λ (c : Bool). if c then x else y) is

if_false : {X : Type 0} (b : Bool) (x y : X) → b ≡ false → (if b then x else y) ≡ y
if_false b x y is = ap (λ (c : Bool). if c then x else y) is

abbrev request : ℕ → ℕ → ℕ → ℕ → ℕ → Request
request f k c o l = record { flags = f; kind = k; cookie = c; offset = o; length = l }

pub length-head : (q : Request) → length (head q) ≡ 28
unfolding head
length-head q = refl

-- a head, byte by byte
abbrev by_bytes : List ℕ → List ℕ → List ℕ → List ℕ → List ℕ → List ℕ
by_bytes f k c o l =
    37 ∷ 96 ∷ 149 ∷ 19 ∷ get_or f 0 0 ∷ get_or f 1 0 ∷ get_or k 0 0 ∷ get_or k 1 0 ∷ get_or c 0 0 ∷ get_or c 1 0 ∷
    get_or c 2 0 ∷ get_or c 3 0 ∷ get_or c 4 0 ∷ get_or c 5 0 ∷ get_or c 6 0 ∷ get_or c 7 0 ∷ get_or o 0 0 ∷
    get_or o 1 0 ∷ get_or o 2 0 ∷ get_or o 3 0 ∷ get_or o 4 0 ∷ get_or o 5 0 ∷ get_or o 6 0 ∷ get_or o 7 0 ∷
    get_or l 0 0 ∷ get_or l 1 0 ∷ get_or l 2 0 ∷ get_or l 3 0 ∷ []

pub head_from : (q : Request) (f k c o l : List ℕ) → f ≡ big_bytes 2 q.flags → k ≡ big_bytes 2 q.kind → c ≡ big_bytes 8 q.cookie
    → o ≡ big_bytes 8 q.offset → l ≡ big_bytes 4 q.length → by_bytes f k c o l ≡ head q
unfolding head
head_from q f k c o l is_f is_k is_c is_o is_l = λ i. by_bytes (is_f i) (is_k i) (is_c i) (is_o i) (is_l i)

-- bytes that begin with a head
module _ (q : Request) (rest : List ℕ) where
  all : List ℕ
  all = head q ++ rest

  length-all : length all ≡ 28 + length rest
  unfolding all
  length-all = length-append (head q) rest ∙ ap (λ (n : ℕ). n + length rest) (length-head q)

  magic_sent : has_magic all ≡ true
  unfolding all head
  magic_sent = refl

  module _ (flags : q.flags < 256 ^ 2) (kind : q.kind < 256 ^ 2) (cookie : q.cookie < 256 ^ 8) (offset : q.offset < 256 ^ 8) (size : q.length < 256 ^ 4) where
    fields_sent : request_of all ≡ q
    unfolding all head
    fields_sent =
        let after_length : List ℕ = rest in
        let after_offset : List ℕ = big_bytes 4 q.length ++ after_length in
        let after_cookie : List ℕ = big_bytes 8 q.offset ++ after_offset in
        let after_kind : List ℕ = big_bytes 8 q.cookie ++ after_cookie in
        let after_flags : List ℕ = big_bytes 2 q.kind ++ after_kind in
        let f = big_number-reads_back 2 q.flags after_flags flags in
        let k = big_number-reads_back 2 q.kind after_kind kind in
        let c = big_number-reads_back 8 q.cookie after_cookie cookie in
        let o = big_number-reads_back 8 q.offset after_offset offset in
        let l = big_number-reads_back 4 q.length after_length size in
        λ i. record { flags = f i; kind = k i; cookie = c i; offset = o i; length = l i }

    pub start_sent : start (head q ++ rest) ≡ after_head q rest
    unfolding all
    start_sent =
        if_false (length all == 0) over _ (ne_eqb (length all) 0 (λ none. omega (arith, length-all, none)))
        ∙ if_false (nat_lt (length all) 4) short _ (le-ltb (length all) 4 (omega (arith, length-all)))
        ∙ if_true (has_magic all) _ (wrong (take 4 all)) magic_sent
        ∙ if_false (nat_lt (length all) 28) short _ (le-ltb (length all) 28 (omega (arith, length-all)))
        ∙ ap (λ (r : Request). after_head r (drop 28 all)) fields_sent
        ∙ ap (after_head q) (drop_at (head q) rest 28 (length-head q))

-- a request and its payload
after_whole : (r : Request) (payload rest : List ℕ) → (r.kind == 2) ≡ false → length payload ≡ payload_length r
    → after_head r (payload ++ rest) ≡ asks r payload rest
after_whole r payload rest isnt size =
    if_false (r.kind == 2) (leaves (payload ++ rest)) _ isnt
    ∙ if_false (nat_lt (length (payload ++ rest)) (payload_length r)) short _
    (le-ltb (length (payload ++ rest)) (payload_length r) (omega (arith, size, length-append payload rest)))
    ∙ ap (λ (p : List ℕ). asks r p (drop (payload_length r) (payload ++ rest))) (take_at payload rest (payload_length r) size)
    ∙ ap (asks r payload) (drop_at payload rest (payload_length r) size)

module _ (f : Frame) (plain : IsPlain f) where
  kind_below : f.request.kind < 256 ^ 2
  kind_below = elim plain.either [ inl reads ↦ omega (arith, reads.kind) | inr writes ↦ omega (arith, writes.kind) ]

  no_disconnect : (f.request.kind == 2) ≡ false
  no_disconnect = elim plain.either [
    | inl reads ↦ ap (λ (k : ℕ). k == 2) reads.kind
    | inr writes ↦ ap (λ (k : ℕ). k == 2) writes.kind
  ]

  paid : length f.payload ≡ payload_length f.request
  paid = elim plain.either [
    | inl reads ↦ ap length reads.none ∙ sym (ap (λ (k : ℕ). if k == 1 then f.request.length else 0) reads.kind)
    | inr writes ↦ writes.all ∙ sym (ap (λ (k : ℕ). if k == 1 then f.request.length else 0) writes.kind)
  ]

  pub start_request : (rest : List ℕ) → start (bytes_of f ++ rest) ≡ asks f.request f.payload rest
  start_request rest =
      ap start (append_assoc (head f.request) f.payload rest)
      ∙ start_sent f.request (f.payload ++ rest) plain.flags kind_below plain.cookie plain.offset plain.size
      ∙ after_whole f.request f.payload rest no_disconnect paid

abbrev pub alone : List Frame → Frames
alone fs = record { requests = fs; last = end.Done; unread = [] }

frames-disconnect : frames (head disconnect) ≡ alone []
unfolding head
frames-disconnect = refl

-- requests, and then a disconnect
pub frames-sent : (fs : List Frame) → Each IsPlain fs → frames (sent fs ++ head disconnect) ≡ alone fs
unfolding sent
frames-sent [] plain = frames-disconnect
frames-sent (f ∷ fs) plain =
    let rest : List ℕ = sent fs ++ head disconnect in
    ap frames (append_assoc (bytes_of f) (sent fs) (head disconnect))
    ∙ frames-start (bytes_of f ++ rest)
    ∙ ap (λ (s : Start). followed s frames) (start_request f plain.0 rest)
    ∙ ap (λ (more : Frames). followed (asks f.request f.payload rest) (λ _. more)) (frames-sent fs plain.1)

-- the result
pub frames-stream : (n c : ℕ) → c < 3 → frames (stream n c) ≡ alone (requests n c)
frames-stream n c client =
    frames-sent (requests n c) (each_request n c IsPlain 0 12 (omega arith) (λ r index. plain_request c r _ client index))
