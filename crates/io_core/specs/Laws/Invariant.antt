-- What a core's fields always keep: the pending writes are apart and in the volume, and the book has their ranges.
use Rattle.std.specs.Prelude.{◌≡◌, ◌≤◌, ◌↔◌, ℕ, ◌+◌, Option, Vec, length, map, All, AllPairs, Contains, vec_capacity, vec_len}
use Rattle.std.specs.Global.{Global}
use Rattle.range_book.specs.Book.{AreApart, Book}
use Rattle.range_book.specs.declared.reserved.Reserved.{Reserved}
use Rattle.vc_layout.specs.declared.geometry.Geometry.{Geometry}
use Rattle.sector_model.specs.Array.{sectors_of, Volume}
use Rattle.sector_model.specs.History.{HasName}
use Rattle.io_core.specs.State.{IsPlaced, IsPlacedWrite, volume_of, write_of}
use Rattle.io_core.specs.declared.prepared.Prepared.{Prepared}

abbrev pub range_of : Volume → Prepared → Reserved
range_of v p = record { caller = p.caller; number = p.number; first = p.first; count = sectors_of v p.bytes.items }

pub record IsCore (size : ℕ) (g : Geometry) (range : Option (ℕ × ℕ)) (book : Book) (pending : Vec Prepared Global) (capacity : ℕ)
    (room : Vec ℕ Global) : Type 0 where
  pub placed : IsPlaced size g
  pub some : 1 ≤ capacity
  pub few : capacity ≤ 128
  pub spare : book.spare + length pending.items ≡ capacity
  pub place : capacity ≤ vec_capacity pending
  pub long : vec_len room ≡ 262144
  pub writes : All (λ p. IsPlacedWrite (volume_of g range) (write_of p)) pending.items
  pub names : AllPairs (λ w x. ¬ HasName w.caller w.number x) (map write_of pending.items)
  pub apart : AreApart book.ranges
  pub booked : (r : Reserved) → Contains book.ranges r ↔ Contains (map (range_of (volume_of g range)) pending.items) r
