-- Which histories are those of a plain array.
--
-- Each entry has to meet the condition of its kind after the entries before it. Some conditions are on names,
-- ranges and order, the others on contents: the first also hold of a volume whose contents aren't known.
--
-- EachAfter P past h      P holds of each entry of h and the entries before it, which begin with past
-- IsFree past ..          no write that is open overlaps the range
-- MayPut, MayEnd, ..      the conditions of the kinds
-- IsOrdered v h           each entry of h meets its conditions on names, ranges and order
-- IsTold v a h            each entry of h meets those on contents, if the array was a before
-- Legal v a h             both
use Rattle.std.specs.Prelude.{◌≡◌, ◌<◌, ℕ, ◌*◌, ◌/◌, false, true, List, [], ◌∷◌, ◌++◌, All, AllPairs, Any, Contains, length, ⊤}
use Rattle.range_base.specs.Range.{Overlap}
use Rattle.sector_model.specs.Array.{Array, AreSectors, Fits, Holds, sectors_of, TouchesProtected, unit, units_of, Volume}
use Rattle.sector_model.specs.History.{after, HasName, is_frozen, open_writes, Write}
use Rattle.sector_model.specs.declared.entry.Entry.{Entry}
use Rattle.sector_model.specs.declared.entry.Event.{Event}
use Rattle.sector_model.specs.declared.entry.Event.TheVariants.{Read, Put, Done, Lost, Deny, Shut, Beyond, Fail, Flush}
use Rattle.sector_model.specs.declared.entry.FaultMark.{FaultMark}

abbrev pub EachAfter : (List Entry → Entry → Type 0) → List Entry → List Entry → Type 0
EachAfter P past [] = ⊤
EachAfter P past (e ∷ h) = P past e × EachAfter P (past ++ e ∷ []) h

abbrev pub IsFree : Volume → List Entry → ℕ → ℕ → Type 0
IsFree v past first count = All (λ w. ¬ Overlap first count w.first (sectors_of v w.bytes)) (open_writes past)

-- A read or a write has data of whole sectors in the volume, and no open write overlaps it.
pub record IsServed (v : Volume) (past : List Entry) (first : ℕ) (bytes : List ℕ) : Type 0 where
  pub whole : AreSectors v bytes
  pub fits : Fits v first (sectors_of v bytes)
  pub free : IsFree v past first (sectors_of v bytes)

-- A write is put while the volume isn't frozen. It touches nothing protected, and no open write has its name.
pub record MayPut (v : Volume) (past : List Entry) (caller number first : ℕ) (bytes : List ℕ) : Type 0 where
  pub not_frozen : is_frozen past ≡ false
  pub served : IsServed v past first bytes
  pub unprotected : ¬ TouchesProtected v first (sectors_of v bytes)
  pub fresh : All (λ w. ¬ HasName caller number w) (open_writes past)

-- A write that ends is open.
pub record IsOpen (past : List Entry) (caller number first : ℕ) (w : Write) : Type 0 where
  pub put : Contains (open_writes past) w
  pub name : HasName caller number w
  pub place : w.first ≡ first

-- All of it was stored.
pub record MayEnd (v : Volume) (past : List Entry) (caller number first count : ℕ) : Type 0 where
  pub write : Write
  pub is_open : IsOpen past caller number first write
  pub all : sectors_of v write.bytes ≡ count

-- Fragment k of a write has the 512 units from 512 * k of its data on, as far as it has them. Some fragments
-- of the write failed, and these are listed by their rising indices.
pub record MayLose (past : List Entry) (caller number first : ℕ) (now : List ℕ) (spoilt : List (ℕ × FaultMark)) : Type 0 where
  pub write : Write
  pub is_open : IsOpen past caller number first write
  pub all : length now ≡ length write.bytes
  pub some : 0 < length spoilt
  pub rising : AllPairs (λ f g. f.0 < g.0) spoilt
  pub fragments : All (λ f. 512 * f.0 < units_of write.bytes) spoilt

abbrev pub MeetsOrder : Volume → List Entry → ℕ → ℕ → Event → Type 0
MeetsOrder v past caller number (Read first bytes) = IsServed v past first bytes
MeetsOrder v past caller number (Put first bytes) = MayPut v past caller number first bytes
MeetsOrder v past caller number (Done first count) = MayEnd v past caller number first count
MeetsOrder v past caller number (Lost first now spoilt) = MayLose past caller number first now spoilt
MeetsOrder v past caller number (Deny first count) = (is_frozen past ≡ false) × Fits v first count × TouchesProtected v first count
MeetsOrder v past caller number (Shut first count) = (is_frozen past ≡ true) × Fits v first count
MeetsOrder v past caller number (Beyond first count) = ¬ Fits v first count
MeetsOrder v past caller number (Fail first count mark) = ⊤
MeetsOrder v past caller number Flush = ⊤

-- The units of a write that lost fragments hold its data, but for those of the fragments that failed.
abbrev pub KeepsTheRest : List Entry → ℕ → ℕ → List ℕ → List (ℕ × FaultMark) → Type 0
KeepsTheRest past caller number now spoilt = (w : Write) → Contains (open_writes past) w → HasName caller number w
    → (k : ℕ) → k < units_of now → ¬ Any (λ f. f.0 ≡ k / 512) spoilt → unit k now ≡ unit k w.bytes

abbrev pub MeetsContents : Volume → Array → List Entry → ℕ → ℕ → Event → Type 0
MeetsContents v a past caller number (Read first bytes) = Holds v first bytes (after v a past)
MeetsContents v a past caller number (Lost first now spoilt) = KeepsTheRest past caller number now spoilt
MeetsContents v a past caller number other = ⊤

abbrev pub IsOrdered : Volume → List Entry → Type 0
IsOrdered v h = EachAfter (λ past e. MeetsOrder v past e.caller e.number e.event) [] h

abbrev pub IsTold : Volume → Array → List Entry → Type 0
IsTold v a h = EachAfter (λ past e. MeetsContents v a past e.caller e.number e.event) [] h

abbrev pub Legal : Volume → Array → List Entry → Type 0
Legal v a h = IsOrdered v h × IsTold v a h
