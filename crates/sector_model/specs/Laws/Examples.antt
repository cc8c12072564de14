-- Small histories over a volume of eight sectors of 512 bytes, whose last two are protected and whose bytes are 0.
--
-- filled n x              the data of n sectors whose bytes are x
-- put k first n x         request k puts such data; the same for the other entries
use Rattle.std.specs.Prelude.{ℕ, ◌*◌, List, [], ◌∷◌, replicate, Some}
use Rattle.sector_model.specs.Array.{Array, Volume}
use Rattle.sector_model.specs.declared.entry.Entry.{Entry}
use Rattle.sector_model.specs.declared.entry.Event.{Event}
use Rattle.sector_model.specs.declared.entry.Event.TheVariants.{Read, Put, Done, Lost, Deny, Shut, Beyond, Fail, Flush}
use Rattle.sector_model.specs.declared.entry.FaultMark.{FaultMark}

abbrev pub small : Volume
small = record { per_sector = 1; sectors = 8; start = 0; protected = Some (6, 2) }

abbrev pub zeros : Array
zeros u = replicate 512 0

abbrev pub filled : ℕ → ℕ → List ℕ
filled n x = replicate (512 * n) x

abbrev pub mark : FaultMark
mark = record { before = 0; after = 1 }

abbrev pub by : ℕ → Event → Entry
by k e = record { caller = 1; number = k; event = e }

abbrev pub put : ℕ → ℕ → ℕ → ℕ → Entry
put k first n x = by k (Put first (filled n x))

abbrev pub done : ℕ → ℕ → ℕ → Entry
done k first n = by k (Done first n)

-- the first fragment failed, and the sectors now hold bytes x
abbrev pub lost : ℕ → ℕ → ℕ → ℕ → Entry
lost k first n x = by k (Lost first (filled n x) ((0, mark) ∷ []))

abbrev pub read : ℕ → ℕ → ℕ → ℕ → Entry
read k first n x = by k (Read first (filled n x))

abbrev pub deny : ℕ → ℕ → ℕ → Entry
deny k first n = by k (Deny first n)

abbrev pub shut : ℕ → ℕ → ℕ → Entry
shut k first n = by k (Shut first n)

abbrev pub beyond : ℕ → ℕ → ℕ → Entry
beyond k first n = by k (Beyond first n)

abbrev pub fail : ℕ → ℕ → ℕ → Entry
fail k first n = by k (Fail first n mark)

abbrev pub flush : ℕ → Entry
flush k = by k Flush
