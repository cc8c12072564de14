-- A book of reserved ranges. A range has a name, which is its caller and the number of the caller's
-- request.
--
-- HasName caller number r           r has this name
-- Meets first count r               r overlaps count numbers from first on
-- IsFirstToMeet first count rs r    of the ranges rs that do, r is the one with the lowest first number
-- AreApart rs                       rs are what a book may have, in their order
-- IsAdded r less more               more is less with r at some place
use Rattle.std.specs.Prelude.{◌≡◌, ℕ, ◌+◌, ◌^◌, ◌≤◌, List, ◌∷◌, ◌++◌, All, AllPairs, Contains}
use Rattle.range_base.specs.Range.{Overlap}
use Rattle.range_book.specs.declared.reserved.Reserved.{Reserved}

-- a book: its ranges, from the lowest on, and how many more it has room for
pub record Book : Type 0 where
  pub ranges : List Reserved
  pub spare : ℕ

abbrev pub HasName : ℕ → ℕ → Reserved → Type 0
HasName caller number r = (r.caller ≡ caller) × (r.number ≡ number)

abbrev pub Meets : ℕ → ℕ → Reserved → Type 0
Meets first count r = Overlap first count r.first r.count

pub record IsFirstToMeet (first count : ℕ) (rs : List Reserved) (r : Reserved) : Type 0 where
  pub reserved : Contains rs r
  pub meets : Meets first count r
  pub lowest : All (λ other. Meets first count other → r.first ≤ other.first) rs

-- Each range ends where the next one begins, or before: so they are in order, and no two overlap.
pub record AreApart (rs : List Reserved) : Type 0 where
  pub in_order : AllPairs (λ r next. r.first + r.count ≤ next.first) rs
  pub some : All (λ r. 1 ≤ r.count) rs
  pub within : All (λ r. r.first + r.count ≤ 2 ^ 55) rs
  pub names_differ : AllPairs (λ r other. ¬ HasName r.caller r.number other) rs

pub record IsAdded (r : Reserved) (less more : List Reserved) : Type 0 where
  pub below : List Reserved
  pub above : List Reserved
  pub without : less ≡ below ++ above
  pub with_it : more ≡ below ++ r ∷ above
