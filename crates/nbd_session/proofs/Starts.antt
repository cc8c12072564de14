-- How bytes start, by what was taken of a source: a whole head, a part of one, or a part of a payload.
use Rattle.std.proofs.Common.{◌≡◌, ◌≤◌, ◌<◌, ℕ, ◌+◌, ◌==◌, nat_lt, Bool, true, false, List, ◌++◌, length, take, drop, if◌then◌else◌, length-append, ap, ◌∙◌, arith}
use Rattle.std.proofs.lemmas.Bool.{eq-eqb, le-ltb, lt-ltb, ne_eqb}
use Rattle.std.proofs.lemmas.List.{drop-append-le, drop_at, length-drop, take_at, take-append-le}
use Rattle.byteorder.specs.Endian.{big_number}
use Rattle.byteorder.specs.Numbers.{big_from-append}
use Rattle.nbd_wire.specs.Frames.{after_head, Start, over, short, wrong, leaves, asks, payload_length, start}
use Rattle.nbd_wire.specs.Wire.{field, has_magic, request_of}
use Rattle.nbd_wire.specs.declared.request.Request.{Request}

-- a field is that of the first bytes
field-append : (at n : ℕ) (xs ys : List ℕ) → at + n ≤ length xs → field at n (xs ++ ys) ≡ field at n xs
field-append at n xs ys within =
    ap (big_number n) (drop-append-le at xs ys (omega (arith, within)))
    ∙ big_from-append n (drop at xs) ys (omega (arith, within, length-drop at xs))

pub has_magic-append : (xs ys : List ℕ) → 4 ≤ length xs → has_magic (xs ++ ys) ≡ has_magic xs
has_magic-append xs ys within = ap (λ (n : ℕ). n == 0x25609513) (field-append 0 4 xs ys within)

abbrev request : ℕ → ℕ → ℕ → ℕ → ℕ → Request
request f k c o l = record { flags = f; kind = k; cookie = c; offset = o; length = l }

pub request_of-append : (xs ys : List ℕ) → 28 ≤ length xs → request_of (xs ++ ys) ≡ request_of xs
request_of-append xs ys within =
    let all : List ℕ = xs ++ ys in
    ap (λ (n : ℕ). request n (field 6 2 all) (field 8 8 all) (field 16 8 all) (field 24 4 all)) (field-append 4 2 xs ys (omega (arith, within)))
    ∙ ap (λ (n : ℕ). request (field 4 2 xs) n (field 8 8 all) (field 16 8 all) (field 24 4 all)) (field-append 6 2 xs ys (omega (arith, within)))
    ∙ ap (λ (n : ℕ). request (field 4 2 xs) (field 6 2 xs) n (field 16 8 all) (field 24 4 all)) (field-append 8 8 xs ys (omega (arith, within)))
    ∙ ap (λ (n : ℕ). request (field 4 2 xs) (field 6 2 xs) (field 8 8 xs) n (field 24 4 all)) (field-append 16 8 xs ys (omega (arith, within)))
    ∙ ap (λ (n : ℕ). request (field 4 2 xs) (field 6 2 xs) (field 8 8 xs) (field 16 8 xs) n) (field-append 24 4 xs ys (omega (arith, within)))

if_true : {X : Type 0} (b : Bool) (x y : X) → b ≡ true → (if b then x else y) ≡ x
if_true b x y is = ap (λ (c : Bool). if c then x else y) is

if_false : {X : Type 0} (b : Bool) (x y : X) → b ≡ false → (if b then x else y) ≡ y
if_false b x y is = ap (λ (c : Bool). if c then x else y) is

-- the tests of `start`, one after the other
module _ (bytes : List ℕ) where
  known : Start
  known = if nat_lt (length bytes) 28 then short else after_head (request_of bytes) (drop 28 bytes)

  some : Start
  some = if has_magic bytes then known else wrong (take 4 bytes)

  any : Start
  any = if nat_lt (length bytes) 4 then short else some

  pub start_over : length bytes ≡ 0 → start bytes ≡ over
  unfolding any some known
  start_over none = if_true (length bytes == 0) over any (eq-eqb (length bytes) 0 none)

  start_any : 0 < length bytes → start bytes ≡ any
  unfolding any some known
  start_any there = if_false (length bytes == 0) over any (ne_eqb (length bytes) 0 (λ none. omega (arith, there, none)))

  start_some : 4 ≤ length bytes → start bytes ≡ some
  unfolding any
  start_some there = start_any (omega (arith, there)) ∙ if_false (nat_lt (length bytes) 4) short some (le-ltb (length bytes) 4 there)

  pub start_cut : 0 < length bytes → length bytes < 4 → start bytes ≡ short
  unfolding any
  start_cut there few = start_any there ∙ if_true (nat_lt (length bytes) 4) short some (lt-ltb (length bytes) 4 few)

  pub start_wrong : 4 ≤ length bytes → has_magic bytes ≡ false → start bytes ≡ wrong (take 4 bytes)
  unfolding some
  start_wrong there bad = start_some there ∙ if_false (has_magic bytes) known (wrong (take 4 bytes)) bad

  start_known : 4 ≤ length bytes → has_magic bytes ≡ true → start bytes ≡ known
  unfolding some
  start_known there good = start_some there ∙ if_true (has_magic bytes) known (wrong (take 4 bytes)) good

  pub start_short : 4 ≤ length bytes → has_magic bytes ≡ true → length bytes < 28 → start bytes ≡ short
  unfolding known
  start_short there good few = start_known there good ∙ if_true (nat_lt (length bytes) 28) short (after_head (request_of bytes) (drop 28 bytes)) (lt-ltb (length bytes) 28 few)

  pub start_whole : 28 ≤ length bytes → has_magic bytes ≡ true → start bytes ≡ after_head (request_of bytes) (drop 28 bytes)
  unfolding known
  start_whole there good = start_known (omega (arith, there)) good
      ∙ if_false (nat_lt (length bytes) 28) short (after_head (request_of bytes) (drop 28 bytes)) (le-ltb (length bytes) 28 there)

-- a head, and bytes after it
pub start_head : (head rest : List ℕ) → length head ≡ 28 → has_magic head ≡ true → start (head ++ rest) ≡ after_head (request_of head) rest
start_head head rest size magic =
    start_whole (head ++ rest) (omega (arith, size, length-append head rest)) (has_magic-append head rest (omega (arith, size)) ∙ magic)
    ∙ ap (λ (r : Request). after_head r (drop 28 (head ++ rest))) (request_of-append head rest (omega (arith, size)))
    ∙ ap (after_head (request_of head)) (drop_at head rest 28 size)

-- four bytes or more without the magic, and bytes after them
pub start_bad : (head rest : List ℕ) → 4 ≤ length head → has_magic head ≡ false → start (head ++ rest) ≡ wrong (take 4 head)
start_bad head rest size bad =
    start_wrong (head ++ rest) (omega (arith, size, length-append head rest)) (has_magic-append head rest size ∙ bad)
    ∙ ap wrong (take-append-le 4 head rest size)

-- what follows a head
module _ (r : Request) where
  pub after_disconnect : (rest : List ℕ) → (r.kind == 2) ≡ true → after_head r rest ≡ leaves rest
  after_disconnect rest is = if_true (r.kind == 2) (leaves rest) _ is

  pub after_whole : (payload rest : List ℕ) → (r.kind == 2) ≡ false → length payload ≡ payload_length r → after_head r (payload ++ rest) ≡ asks r payload rest
  after_whole payload rest isnt size =
      if_false (r.kind == 2) (leaves (payload ++ rest)) _ isnt
      ∙ if_false (nat_lt (length (payload ++ rest)) (payload_length r)) short _
      (le-ltb (length (payload ++ rest)) (payload_length r) (omega (arith, size, length-append payload rest)))
      ∙ ap (λ (p : List ℕ). asks r p (drop (payload_length r) (payload ++ rest))) (take_at payload rest (payload_length r) size)
      ∙ ap (asks r payload) (drop_at payload rest (payload_length r) size)

  pub after_part : (part : List ℕ) → (r.kind == 2) ≡ false → length part < payload_length r → after_head r part ≡ short
  after_part part isnt few =
      if_false (r.kind == 2) (leaves part) _ isnt
      ∙ if_true (nat_lt (length part) (payload_length r)) short _ (lt-ltb (length part) (payload_length r) few)
