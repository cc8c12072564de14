-- What contracts see on a pass.
--
-- view seat                 what the pass of that seat knows
-- IsPassOf id seat          it is a pass of the table id, which isn't closed
-- IsWhole v                 its share is 1
-- SameShare v w             they have the same share
-- Halves v w                the share w is half of the share v
-- Adds v w u                the share u is the sum of the shares v and w
-- longer xs ys             the longer of two lists
-- IsSame v w                w is v, but for what it has seen and done
-- numbers_of v              its number and those of the passes that were joined into it
-- newcomer base             the first pass of a lock
-- closed v                  the pass after the lock was closed with it
use Rattle.std.specs.Prelude.{◌≡◌, ℕ, ◌+◌, ◌*◌, ◌^◌, ◌<◌, ◌≤◌, true, false, List, [], ◌∷◌, ◌++◌, All, Some, length, nat_lt, if◌then◌else◌}
use Rattle.atomic_table.specs.Table.{Me}
use Rattle.atomic_table.specs.Seated.{TableId}
use Rattle.atomic_table.specs.declared.shared.Seat.{Seat}
use Rattle.hist_lock.specs.declared.view.View.{View}
use Rattle.hist_lock.specs.declared.view.Met.{Met}

module _ {E : Type 0} where
  -- the longer of two lists, the first where they are as long
  abbrev pub longer : List E → List E → List E
  longer xs ys = if nat_lt (length xs) (length ys) then ys else xs

  abbrev pub met_nobody : Met E
  met_nobody = record { seen = []; other_seen = []; numbers = []; other_numbers = [] }

module _ {T E : Type 0} where
  abbrev pub numbers_of : View T E → List ℕ
  numbers_of v = v.number ∷ v.under

  abbrev pub IsWhole : View T E → Type 0
  IsWhole v = v.part ≡ 2 ^ v.halvings

  abbrev pub Halves : View T E → View T E → Type 0
  Halves v w = (w.part ≡ v.part) × (w.halvings ≡ v.halvings + 1)

  -- the same sum over one power of two
  abbrev pub Adds : View T E → View T E → View T E → Type 0
  Adds v w u = (u.part ≡ v.part * 2 ^ w.halvings + w.part * 2 ^ v.halvings) × (u.halvings ≡ v.halvings + w.halvings)

  -- The same pass, which may have seen and done more.
  pub record IsSame (v w : View T E) : Type 0 where
    pub base : w.base ≡ v.base
    pub number : w.number ≡ v.number
    pub under : w.under ≡ v.under
    pub given : v.given ≤ w.given

  abbrev pub SameShare : View T E → View T E → Type 0
  SameShare v w = (w.part ≡ v.part) × (w.halvings ≡ v.halvings)

  abbrev pub newcomer : T → View T E
  newcomer base = record {
    live = true;
    part = 1;
    halvings = 0;
    base = Some base;
    seen = [];
    mine = [];
    number = 0;
    under = [];
    given = 1;
    spare = [];
    drawn = false;
    ticket = 0;
    holds = false;
    met = met_nobody;
  }

  -- the pass once the lock was closed with it: all that it knew, and it can't be used any more
  abbrev pub closed : View T E → View T E
  closed v = record v { live = false }

module _ {S T E : Type 0} where
  abbrev pub view : Seat S (View T E) → View T E
  view seat = seat.me.0

  abbrev pub IsPassOf : TableId → Seat S (View T E) → Type 0
  IsPassOf id seat = (seat.table_id ≡ id) × ((view seat).live ≡ true)
