-- The units of sectors in the volume are numbers below 2^51.
use Rattle.std.proofs.Common.{◌≡◌, ◌≤◌, ℕ, ◌+◌, ◌*◌, ◌/◌, ◌^◌, List, length, ap, ◌∙◌, arith, mul-le-mul_left}
use Rattle.vc_layout.specs.declared.geometry.Geometry.{Geometry}
use Rattle.sector_model.specs.Array.{AreSectors, Fits, sectors_of}
use Rattle.io_queue.specs.Pass.{IsVolume, shape}

-- m units a sector, the first n of `sectors` sectors from the unit `from` on
in_units : (start sectors sector m first count : ℕ) → sector ≡ 512 * m → start + sectors * sector ≤ 2 ^ 60 → first + count ≤ sectors
    → start / 512 + m * first + m * count ≤ 2 ^ 51
in_units start sectors sector m first count is small fits =
    let more : m * (first + count) ≤ m * sectors = mul-le-mul_left m fits in
    let split : m * (first + count) ≡ m * first + m * count = omega arith in
    let all : sectors * sector ≡ 512 * (m * sectors) = ap (λ (n : ℕ). sectors * n) is ∙ omega arith in
    omega (arith, more, split, all, small)

pub units_within : (g : Geometry) (first : ℕ) (out : List ℕ) → IsVolume g → AreSectors (shape g) out → Fits (shape g) first (sectors_of (shape g) out)
    → g.start / 512 + g.sector / 512 * first + length out / 512 ≤ 2 ^ 51
units_within g first out v whole fits =
    let m : ℕ = g.sector / 512 in
    let n : ℕ = sectors_of (shape g) out in
    let units : length out / 512 ≡ m * n = omega (arith, whole) in
    let bound : g.start / 512 + m * first + m * n ≤ 2 ^ 51 = in_units g.start g.sectors g.sector m first n (omega (arith, v.units)) v.small fits in
    omega (arith, units, bound)

-- the same, from the unit with which they begin
pub units_from : (g : Geometry) (first unit : ℕ) (bytes : List ℕ) → IsVolume g → AreSectors (shape g) bytes
    → Fits (shape g) first (sectors_of (shape g) bytes) → unit ≡ g.start / 512 + g.sector / 512 * first → unit + length bytes / 512 ≤ 2 ^ 51
units_from g first unit bytes v whole fits is = omega (arith, units_within g first bytes v whole fits, is)
