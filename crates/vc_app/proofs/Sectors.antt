-- Sectors of a volume in data units and bytes, for each of the four sizes, and what was written of them.
use Rattle.std.proofs.Common.{◌≡◌, ◌≤◌, ◌<◌, ℕ, ◌+◌, ◌*◌, ◌/◌, List, Option, Some, None, Result, Ok, Err, inl, inr, sym, ap₂, ◌∙◌, subst, arith}
use Rattle.std.specs.Prelude.{IfSome, OnOk}
use Rattle.vc_base.proofs.Pieces.{joined_same}
use Rattle.vc_outside.specs.Told.{Grows, GrowsByFront}
use Rattle.cascade_set.specs.Cascade.{deciphered}
use Rattle.cascade_set.specs.Volume.{plain_units}
use Rattle.header_seal.specs.declared.opened.Opened.{Opened}
use Rattle.vc_app.specs.declared.commands.cat.Cat.{Cat}
use Rattle.vc_app.specs.declared.counts.WorkError.{WorkError}
use Rattle.vc_app.specs.Cat.{asked, keys_of}
use Rattle.vc_layout.specs.Layout.{IsSectorSize}

-- what holds of each size
each_size : (P : ℕ → Type 0) (s : ℕ) → IsSectorSize s → P 512 → P 1024 → P 2048 → P 4096 → P s
each_size P s is one two four eight = elim is [
  | inl e ↦ subst P (sym e) one
  | inr (inl e) ↦ subst P (sym e) two
  | inr (inr (inl e)) ↦ subst P (sym e) four
  | inr (inr (inr e)) ↦ subst P (sym e) eight
]

pub some : (s : ℕ) → IsSectorSize s → 0 < s
some s is = each_size (λ k. 0 < k) s is (omega arith) (omega arith) (omega arith) (omega arith)

pub in_bytes : (s n : ℕ) → IsSectorSize s → s / 512 * n * 512 ≡ n * s
in_bytes s n is =
    each_size (λ k. k / 512 * n * 512 ≡ n * k) s is (omega arith) (omega arith) (omega arith) (omega arith)

-- n sectors of a volume that has them
pub fits : (s n volume : ℕ) → IsSectorSize s → n ≤ volume / s → n * s ≤ volume
fits s n volume is =
    each_size (λ k. n ≤ volume / k → n * k ≤ volume) s is
    (λ h. omega (arith, h)) (λ h. omega (arith, h)) (λ h. omega (arith, h)) (λ h. omega (arith, h))

-- so many data units aren't more than the bytes
pub units_below : (s n : ℕ) → IsSectorSize s → s / 512 * n ≤ n * s
units_below s n is =
    each_size (λ k. k / 512 * n ≤ n * k) s is (omega arith) (omega arith) (omega arith) (omega arith)

-- sums of sectors
pub sum_fits : (s first count volume : ℕ) → IsSectorSize s → first + count ≤ volume / s → first * s + count * s ≤ volume
sum_fits s first count volume is =
    each_size (λ k. first + count ≤ volume / k → first * k + count * k ≤ volume) s is
    (λ h. omega (arith, h)) (λ h. omega (arith, h)) (λ h. omega (arith, h)) (λ h. omega (arith, h))

-- ---- what was written

-- units that one cipher gives are those that an equal one gives
units_same : (d e : ℕ → List ℕ → List ℕ) (b : List ℕ) (unit count : ℕ) → ((n : ℕ) (u : List ℕ) → d n u ≡ e n u)
    → plain_units d b unit count ≡ plain_units e b unit count
units_same d e b unit count same = joined_same _ _ count (λ j inside. same (unit + j) _)

-- units from one number on are the asked sectors
units_asked : (command : Cat) (o : Opened) (d : ℕ → List ℕ → List ℕ) (first count : ℕ)
    → ((n : ℕ) (u : List ℕ) → d n u ≡ deciphered (keys_of o) n u)
    → first ≡ o.fields.sector / 512 * command.first → count ≡ o.fields.sector / 512 * command.count
    → (b : List ℕ) → plain_units d b (o.fields.start / 512 + first) count ≡ asked command o b
units_asked command o d first count same first_is count_is b =
    units_same d (deciphered (keys_of o)) b (o.fields.start / 512 + first) count same
    ∙ ap₂ (λ (f n : ℕ). plain_units (deciphered (keys_of o)) b (o.fields.start / 512 + f) n) first_is count_is

pub front_asked : (image old new : Option (List ℕ)) (command : Cat) (o : Opened) (d : ℕ → List ℕ → List ℕ) (first count : ℕ)
    → ((n : ℕ) (u : List ℕ) → d n u ≡ deciphered (keys_of o) n u)
    → first ≡ o.fields.sector / 512 * command.first → count ≡ o.fields.sector / 512 * command.count
    → IfSome image (λ b. GrowsByFront old new (plain_units d b (o.fields.start / 512 + first) count))
    → IfSome image (λ b. GrowsByFront old new (asked command o b))
front_asked None old new command o d first count same first_is count_is front = tt
front_asked (Some b) old new command o d first count same first_is count_is front =
    subst (λ (xs : List ℕ). GrowsByFront old new xs) (units_asked command o d first count same first_is count_is b) front

pub asked_written : (r : Result (Unit {0}) WorkError) (image old new : Option (List ℕ)) (command : Cat) (o : Opened)
    (d : ℕ → List ℕ → List ℕ) (first count : ℕ)
    → ((n : ℕ) (u : List ℕ) → d n u ≡ deciphered (keys_of o) n u)
    → first ≡ o.fields.sector / 512 * command.first → count ≡ o.fields.sector / 512 * command.count
    → OnOk r (IfSome image (λ b. Grows old new (plain_units d b (o.fields.start / 512 + first) count)))
    → OnOk r (IfSome image (λ b. Grows old new (asked command o b)))
asked_written (Err e) image old new command o d first count same first_is count_is all = tt
asked_written (Ok done) None old new command o d first count same first_is count_is all = tt
asked_written (Ok done) (Some b) old new command o d first count same first_is count_is all =
    subst (λ (xs : List ℕ). Grows old new xs) (units_asked command o d first count same first_is count_is b) all
