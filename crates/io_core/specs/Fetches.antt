-- What a fetch gives.
--
-- data_of ..              the data of the sectors from `first` on, if `out` has their units as they are stored
-- IsFree ..               no pending write overlaps these sectors
-- fetch_entries ..        what a fetch adds to the history
use Rattle.std.specs.Prelude.{ℕ, ◌+◌, ◌*◌, ◌/◌, List, [], ◌∷◌, All}
use Rattle.vc_base.specs.Bytes.{in_pieces}
use Rattle.cipher_base.specs.declared.unit.UnitCipher.{Ghosts as CipherGhosts}
use Rattle.sector_model.specs.Array.{sectors_of}
use Rattle.sector_model.specs.Plain.{entry}
use Rattle.sector_model.specs.declared.entry.Entry.{Entry}
use Rattle.sector_model.specs.declared.entry.Event.TheVariants.{Fail, Read}
use Rattle.io_core.specs.Sound.{volume}
use Rattle.io_core.specs.State.{Overlaps, State}
use Rattle.io_core.specs.declared.answers.Fetch.{Fetch}
use Rattle.io_core.specs.declared.answers.Fetch.TheVariants as fetch

abbrev pub IsFree : {S C : Type 0} → State S C → ℕ → List ℕ → Type 0
IsFree s first out = All (λ p. ¬ Overlaps (volume s) first (sectors_of (volume s) out) p) s.pending

module _ {S C : Type 0} (cipher : CipherGhosts C) where
  abbrev pub data_of : State S C → ℕ → List ℕ → List ℕ
  data_of s first out = in_pieces 512 (λ i u. cipher.deciphered s.cipher (s.geometry.start / 512 + s.geometry.sector / 512 * first + i) u) out

  abbrev pub fetch_entries : State S C → ℕ → ℕ → ℕ → List ℕ → Fetch → List Entry
  fetch_entries s caller number first out fetch.Got = entry caller number (Read first (data_of s first out)) ∷ []
  fetch_entries s caller number first out fetch.Later = []
  fetch_entries s caller number first out (fetch.Failed m) = entry caller number (Fail first (sectors_of (volume s) out) m) ∷ []
