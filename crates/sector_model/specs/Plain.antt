-- A plain volume, and the history that it stands for.
--
-- Plain                   a plain volume: its shape, its bytes, and whether a write was denied
-- read_entries ..         what a read adds to the history, by its answer
-- write_entries ..        what a write adds
-- StandsFor a h p         the plain volume p is what the array a became in the legal history h
use Rattle.std.specs.Prelude.{◌≡◌, ℕ, Bool, List, [], ◌∷◌}
use Rattle.sector_model.specs.Array.{Array, array_of, sectors_of, Volume}
use Rattle.sector_model.specs.History.{after, is_frozen, open_writes}
use Rattle.sector_model.specs.Legal.{Legal}
use Rattle.sector_model.specs.declared.entry.Entry.{Entry}
use Rattle.sector_model.specs.declared.entry.Event.{Event}
use Rattle.sector_model.specs.declared.entry.Event.TheVariants as event
use Rattle.sector_model.specs.declared.plain.Answer.{Answer}
use Rattle.sector_model.specs.declared.plain.Answer.TheVariants.{Done, Range, Denied, Frozen}

pub record Plain : Type 0 where
  pub volume : Volume
  pub bytes : List ℕ
  pub frozen : Bool

module _ (caller number : ℕ) where
  abbrev pub entry : Event → Entry
  entry e = record { caller = caller; number = number; event = e }

  abbrev pub read_entries : Answer → Volume → ℕ → List ℕ → List Entry
  read_entries Done v first bytes = entry (event.Read first bytes) ∷ []
  read_entries other v first bytes = entry (event.Beyond first (sectors_of v bytes)) ∷ []

  abbrev pub write_entries : Answer → Volume → ℕ → List ℕ → List Entry
  write_entries Done v first bytes = entry (event.Put first bytes) ∷ entry (event.Done first (sectors_of v bytes)) ∷ []
  write_entries Range v first bytes = entry (event.Beyond first (sectors_of v bytes)) ∷ []
  write_entries Denied v first bytes = entry (event.Deny first (sectors_of v bytes)) ∷ []
  write_entries Frozen v first bytes = entry (event.Shut first (sectors_of v bytes)) ∷ []

pub record StandsFor (a : Array) (h : List Entry) (p : Plain) : Type 0 where
  pub legal : Legal p.volume a h
  pub closed : open_writes h ≡ []
  pub frozen : p.frozen ≡ is_frozen h
  pub array : (u : ℕ) → array_of p.bytes u ≡ after p.volume a h u
