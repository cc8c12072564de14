-- If a volume begins with the old volume's bytes, its array begins with the old array.
--
-- Start, sector size and master keys are the same. So a unit of the old volume has the same number and the same bytes
-- in both images, and deciphers to the same bytes; the other units of the longer volume come behind these.
use Rattle.std.proofs.Common.{◌≡◌, ◌≤◌, ◌<◌, ℕ, ◌+◌, ◌-◌, ◌*◌, ◌/◌, List, ◌++◌, length, take, drop, Option, Some, None, refl, sym, ap, ◌∙◌, arith, length-drop, length-take-le, take_at}
use Rattle.std.specs.Prelude.{IfSome}
use Rattle.std.proofs.Math.Nat.{div-mul-le_self, mul-le-mul_left}
use Rattle.std.proofs.lemmas.List.{drop-drop, drop-take, take-take}
use Rattle.std.proofs.lemmas.Nat.{le-div}
use Rattle.vc_base.specs.Bytes.{joined, piece}
use Rattle.vc_base.proofs.Pieces.{joined_same, joined-add}
use Rattle.cascade_set.specs.Volume.{plain_units}
use Rattle.cascade_set.specs.Cascade.{deciphered}
use Rattle.vc_layout.specs.Laws.Sectors.{at_least_a_unit, whole_units}
use Rattle.vc_layout.specs.declared.slots.Slot.{Slot}
use Rattle.vc_layout.specs.declared.slots.Slot.TheVariants.{Standard}
use Rattle.vc_header.specs.Header.{Meets}
use Rattle.vc_header.specs.declared.fields.Fields.{Fields}
use Rattle.algorithm_names.specs.declared.algorithm.Algorithm.{Algorithm}
use Rattle.volume_format.specs.Formatted.{Sealing}
use Rattle.vc_outside.specs.Told.{Both}
use Rattle.vol_expand.specs.Stops.{ArrayBegins, Holds, Keeps, PartsStay, volume_of}
use Rattle.vol_expand.proofs.Growing.{ends_before, some_bytes}

-- ---- units

-- a part of a list's first bytes
part_of_first : (at n bytes : ℕ) (xs : List ℕ) → at + n ≤ bytes → take n (drop at (take bytes xs)) ≡ take n (drop at xs)
part_of_first at n bytes xs inside =
    sym (drop-take at n (take bytes xs))
    ∙ ap (drop at) (take-take (at + n) bytes xs inside)
    ∙ drop-take at n xs

-- a unit of a volume is a part of the volume's bytes
unit_of_volume : (start unit bytes j : ℕ) (image : List ℕ) → 512 * unit ≡ start → 512 * j + 512 ≤ bytes
    → piece 512 (unit + j) image ≡ take 512 (drop (512 * j) (take bytes (drop start image)))
unit_of_volume start unit bytes j image place inside =
    let there : 512 * (unit + j) ≡ start + 512 * j = omega (arith, place) in
    ap (λ (at : ℕ). take 512 (drop at image)) there
    ∙ sym (ap (take 512) (drop-drop (512 * j) start image))
    ∙ sym (part_of_first (512 * j) 512 bytes (drop start image) inside)

-- more units begin with the first ones
units_begin : (dec : ℕ → List ℕ → List ℕ) (b c : List ℕ) (unit count more : ℕ) → count ≤ more
    → ((j : ℕ) → j < count → piece 512 (unit + j) c ≡ piece 512 (unit + j) b)
    → take (length (plain_units dec b unit count)) (plain_units dec c unit more) ≡ plain_units dec b unit count
units_begin dec b c unit count more fits same =
    let first : List ℕ = plain_units dec b unit count in
    let rest : List ℕ = joined (λ j. dec (unit + (count + j)) (piece 512 (unit + (count + j)) c)) (more - count) in
    let all : count + (more - count) ≡ more = omega (arith, fits) in
    ap (take (length first))
    (ap (plain_units dec c unit) (sym all)
    ∙ joined-add (λ j. dec (unit + j) (piece 512 (unit + j) c)) count (more - count)
    ∙ ap (λ (xs : List ℕ). xs ++ rest)
    (joined_same (λ j. dec (unit + j) (piece 512 (unit + j) c)) (λ j. dec (unit + j) (piece 512 (unit + j) b)) count
    (λ j inside. ap (dec (unit + j)) (same j inside))))
    ∙ take_at first rest (length first) refl

-- ---- sectors of a size s

-- the units of all sectors lie in the volume
units_fit : (s bytes : ℕ) → 512 * (s / 512 * (bytes / s)) ≤ bytes
units_fit s bytes =
    let sectors : bytes / s * s ≤ bytes = div-mul-le_self bytes s in
    let units : bytes / s * (s / 512 * 512) ≤ bytes / s * s = mul-le-mul_left (bytes / s) (div-mul-le_self s 512) in
    omega (arith, sectors, units)

more_units : (s bytes more : ℕ) → 0 < s → bytes ≤ more → s / 512 * (bytes / s) ≤ s / 512 * (more / s)
more_units s bytes more some fits =
    mul-le-mul_left (s / 512) (le-div (bytes / s) more s some (omega (arith, div-mul-le_self bytes s, fits)))

-- ---- arrays

-- a volume of `more` bytes in place of its own
array_begins : (a : Algorithm) (f : Fields) (more encrypted len : ℕ) (b c : List ℕ) → Meets f Standard len
    → f.volume_size ≤ more → volume_of f c ≡ volume_of f b
    → ArrayBegins a f (record f { volume_size = more; encrypted = encrypted }) b c
array_begins a f more encrypted len b c meets fits same =
    let unit : ℕ = f.start / 512 + f.sector / 512 * 0 in
    let place : 512 * unit ≡ f.start = omega (arith, whole_units f.sector f.start meets.sector meets.start_whole) in
    units_begin (deciphered (record { algorithm = a; material = f.material })) b c unit
    (f.sector / 512 * (f.volume_size / f.sector)) (f.sector / 512 * (more / f.sector))
    (more_units f.sector f.volume_size more (omega (arith, at_least_a_unit f.sector meets.sector)) fits)
    (λ j inside.
    let within : 512 * j + 512 ≤ f.volume_size = omega (arith, inside, units_fit f.sector f.volume_size) in
    unit_of_volume f.start unit f.volume_size j c place within
    ∙ ap (λ (xs : List ℕ). take 512 (drop (512 * j) xs)) same
    ∙ sym (unit_of_volume f.start unit f.volume_size j b place within))

-- all of the volume is in the image
pub length-volume : (f : Fields) (len : ℕ) (b : List ℕ) → Meets f Standard len → length b ≡ len
    → length (volume_of f b) ≡ f.volume_size
length-volume f len b meets whole =
    length-take-le f.volume_size (drop f.start b)
    (omega (arith, length-drop f.start b, whole, ends_before f len meets, some_bytes f len meets))

pub keeps : (P : Slot → Sealing → Fields → List ℕ → Type 0) (slot : Slot) (k : Sealing) (f : Fields)
    (more encrypted len : ℕ) (b c : List ℕ) → Meets f Standard len → length b ≡ len → f.volume_size ≤ more
    → Holds P slot k (record f { volume_size = more; encrypted = encrypted }) (volume_of f b) c
    → Keeps P slot k f (record f { volume_size = more; encrypted = encrypted }) b c
keeps P slot k f more encrypted len b c meets whole fits there = record {
  holds = there;
  array = array_begins k.algorithm f more encrypted len b c meets fits same;
}
  where
    all : length (volume_of f b) ≡ f.volume_size
    all = length-volume f len b meets whole

    same : volume_of f c ≡ volume_of f b
    same =
        ap (λ (n : ℕ). take n (drop f.start c)) (sym all)
        ∙ sym (take-take (length (volume_of f b)) more (drop f.start c) (omega (arith, all, fits)))
        ∙ there.begins

-- of the images of a store, of which the volume's bytes stay
pub arrays_begin : (a : Algorithm) (f : Fields) (more encrypted len : ℕ) (old new : Option (List ℕ))
    → Meets f Standard len → f.volume_size ≤ more → IfSome old (λ b. length b ≡ len) → Both old new (PartsStay 512 (len - 131072))
    → Both old new (ArrayBegins a f (record f { volume_size = more; encrypted = encrypted }))
arrays_begin a f more encrypted len None new meets fits whole stay = tt
arrays_begin a f more encrypted len (Some b) None meets fits whole stay = stay
arrays_begin a f more encrypted len (Some b) (Some c) meets fits whole stay =
    array_begins a f more encrypted len b c meets fits
    (stay f.start f.volume_size (omega (arith, meets.behind_headers)) (ends_before f len meets)
    (omega (arith, ends_before f len meets, whole, some_bytes f len meets)))
