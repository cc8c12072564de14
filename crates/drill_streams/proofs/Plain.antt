-- Which requests the wire takes: reads and writes of whole sectors, with no flag.
--
-- IsPlain f     the request is one of these, and has the payload of its kind
--
-- A drill's requests are plain, whatever their words are.
use Rattle.std.proofs.Common.{◌≡◌, ◌<◌, ◌≤◌, ◌⊎◌, ℕ, ◌+◌, ◌*◌, ◌/◌, ◌%◌, ◌^◌, ◌==◌, ◌&&◌, nat_lt, nat_le, Bool, true, false, if◌then◌else◌, [], ◌∷◌, length, refl, ap, ◌∙◌, arith, inl, inr}
use Rattle.std.proofs.lemmas.Bool.{eq-eqb, le-leb, lt-ltb}
use Rattle.vc_base.proofs.Pieces.{length-joined}
use Rattle.nbd_wire.specs.Classes.{are_sectors, asked}
use Rattle.nbd_wire.specs.Frames.{Frame}
use Rattle.nbd_wire.specs.declared.ask.Ask.TheVariants as ask
use Rattle.nbd_wire.specs.declared.request.Request.{Request}
use Rattle.drill_streams.specs.Drill.{count_of, data_of, first_of, frame_of, is_read}

pub record IsRead (f : Frame) : Type 0 where
  pub kind : f.request.kind ≡ 0
  pub none : f.payload ≡ []
  pub asks : asked 512 f.request ≡ ask.Read (f.request.offset / 512) (f.request.length / 512)

pub record IsWrite (f : Frame) : Type 0 where
  pub kind : f.request.kind ≡ 1
  pub all : length f.payload ≡ f.request.length
  pub asks : asked 512 f.request ≡ ask.Write (f.request.offset / 512) (f.request.length / 512) false

pub record IsPlain (f : Frame) : Type 0 where
  pub either : IsRead f ⊎ IsWrite f
  pub whole : f.request.length ≡ 512 * (f.request.length / 512)
  pub flags : f.request.flags < 256 ^ 2
  pub cookie : f.request.cookie < 256 ^ 8
  pub offset : f.request.offset < 256 ^ 8
  pub size : f.request.length < 256 ^ 4

pub length-data : (w : ℕ) → length (data_of w) ≡ 512 * count_of w
unfolding data_of
length-data w =
    length-joined (λ i. (w / 16777216 + i) % 256 ∷ []) 1 (512 * count_of w) (λ j below. refl) ∙ omega arith

all_true : (a b c d : Bool) → a ≡ true → b ≡ true → c ≡ true → d ≡ true → (a && b && c && d) ≡ true
all_true a b c d is_a is_b is_c is_d = rw (is_a, is_b, is_c, is_d) refl

sectors_asked : (kind cookie first count : ℕ) → 0 < count → count ≤ 65536
    → are_sectors 512 (record { flags = 0; kind = kind; cookie = cookie; offset = 512 * first; length = 512 * count }) ≡ true
sectors_asked kind cookie first count some few =
    all_true (nat_lt 0 (512 * count)) (nat_le (512 * count) (2 ^ 25)) (512 * count % 512 == 0) (512 * first % 512 == 0)
    (lt-ltb 0 (512 * count) (omega (arith, some)))
    (le-leb (512 * count) (2 ^ 25) (omega (arith, few)))
    (eq-eqb (512 * count % 512) 0 (omega arith))
    (eq-eqb (512 * first % 512) 0 (omega arith))

if_true : {X : Type 0} (b : Bool) (x y : X) → b ≡ true → (if b then x else y) ≡ x
if_true b x y is = ap (λ (c : Bool). if c then x else y) is

abbrev of_kind : ℕ → ℕ → ℕ → ℕ → Request
of_kind kind cookie first count = record { flags = 0; kind = kind; cookie = cookie; offset = 512 * first; length = 512 * count }

module _ (cookie first count : ℕ) (some : 0 < count) (few : count ≤ 65536) where
  read_asked : asked 512 (of_kind 0 cookie first count) ≡ ask.Read (512 * first / 512) (512 * count / 512)
  read_asked =
      if_true (are_sectors 512 (of_kind 0 cookie first count)) (ask.Read (512 * first / 512) (512 * count / 512)) ask.Malformed
      (sectors_asked 0 cookie first count some few)

  write_asked : asked 512 (of_kind 1 cookie first count) ≡ ask.Write (512 * first / 512) (512 * count / 512) false
  write_asked =
      if_true (are_sectors 512 (of_kind 1 cookie first count)) (ask.Write (512 * first / 512) (512 * count / 512) false) ask.Malformed
      (sectors_asked 1 cookie first count some few)

-- what a word makes of a request, once its kind is known
abbrev pub frame_by : ℕ → ℕ → ℕ → Bool → Frame
frame_by c r w b = record {
  request = record {
    flags = 0;
    kind = if b then 0 else 1;
    cookie = 12 * c + r;
    offset = 512 * first_of c w;
    length = 512 * count_of w;
  };
  payload = if b then [] else data_of w;
}

module _ (c r w : ℕ) (client : c < 3) (index : r < 12) where
  plain_by : (b : Bool) → IsPlain (frame_by c r w b)
  plain_by true = record {
    either = inl (record {
      kind = refl;
      none = refl;
      asks = read_asked (12 * c + r) (first_of c w) (count_of w) (omega arith) (omega arith);
    });
    whole = omega arith;
    flags = omega arith;
    cookie = omega (arith, client, index);
    offset = omega (arith, client);
    size = omega arith;
  }
  plain_by false = record {
    either = inr (record {
      kind = refl;
      all = length-data w;
      asks = write_asked (12 * c + r) (first_of c w) (count_of w) (omega arith) (omega arith);
    });
    whole = omega arith;
    flags = omega arith;
    cookie = omega (arith, client, index);
    offset = omega (arith, client);
    size = omega arith;
  }

  pub plain_request : IsPlain (frame_of c r w)
  plain_request = plain_by (is_read r w)
