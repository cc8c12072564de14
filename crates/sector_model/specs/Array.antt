-- The array that a volume is.
--
-- A volume is a list of sectors, and a sector has 1, 2, 4 or 8 data units of 512 bytes. An array says what
-- each unit holds, by its number from the volume's start: sector i is the `per_sector` units from
-- per_sector * i on. The container's units have numbers of their own, and the volume begins at its unit `start`.
--
-- Volume                         what the rules of a history ask of a volume
-- Array                          what each unit holds
-- unit k bytes, units_of bytes   the k-th unit of these bytes, counted from 0, and how many they are
-- array_of bytes                 the array that these bytes are
-- sectors_of v bytes             how many sectors they are
-- AreSectors v bytes             they are whole sectors
-- Fits v first count             count sectors from first on are in the volume
-- TouchesProtected v first count a unit of them is protected
-- laid v first bytes a           the array a with these bytes laid over it, from sector first on
-- Holds v first bytes a          the array a holds these bytes, from sector first on
use Rattle.std.specs.Prelude.{◌≡◌, ◌<◌, ◌≤◌, ◌&&◌, nat_lt, nat_le, ℕ, ◌+◌, ◌-◌, ◌*◌, ◌/◌, Bool, List, Option, length, if◌then◌else◌}
use Rattle.hidden_guard.specs.Protection.{Touches}
use Rattle.vc_base.specs.Bytes.{piece}

pub record Volume : Type 0 where
  pub per_sector : ℕ
  pub sectors : ℕ
  pub start : ℕ
  -- the first unit and the count of the protected range of the container, if there is one
  pub protected : Option (ℕ × ℕ)

abbrev pub Array : Type 0
Array = ℕ → List ℕ

abbrev pub unit : ℕ → List ℕ → List ℕ
unit k bytes = piece 512 k bytes

abbrev pub units_of : List ℕ → ℕ
units_of bytes = length bytes / 512

abbrev pub array_of : List ℕ → Array
array_of bytes u = unit u bytes

abbrev pub sectors_of : Volume → List ℕ → ℕ
sectors_of v bytes = units_of bytes / v.per_sector

abbrev pub AreSectors : Volume → List ℕ → Type 0
AreSectors v bytes = length bytes ≡ 512 * (v.per_sector * sectors_of v bytes)

abbrev pub Fits : Volume → ℕ → ℕ → Type 0
Fits v first count = first + count ≤ v.sectors

-- A sector is protected if one of its units is.
abbrev pub TouchesProtected : Volume → ℕ → ℕ → Type 0
TouchesProtected v first count = Touches v.protected (v.start + v.per_sector * first) (v.per_sector * count)

-- unit u is one of these bytes' units
abbrev pub is_in : Volume → ℕ → List ℕ → ℕ → Bool
is_in v first bytes u = nat_le (v.per_sector * first) u && nat_lt u (v.per_sector * first + units_of bytes)

abbrev pub laid : Volume → ℕ → List ℕ → Array → Array
laid v first bytes a u = if is_in v first bytes u then unit (u - v.per_sector * first) bytes else a u

abbrev pub Holds : Volume → ℕ → List ℕ → Array → Type 0
Holds v first bytes a = (k : ℕ) → k < units_of bytes → a (v.per_sector * first + k) ≡ unit k bytes
