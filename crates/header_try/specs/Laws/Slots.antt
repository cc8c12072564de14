-- The candidates of one slot. Only private contracts cite this.
--
-- of_slot slot                 the candidates of a slot
-- FoundIn image slot p pim r   r is the first valid one of them
-- HasFieldsIn image p pim o    an opened header has the fields of its candidate
use Rattle.std.specs.Prelude.{◌≡◌, ℕ, List, Option, find, IfSome}
use Rattle.std.specs.List.{flat_map}
use Rattle.kdf_hmac.specs.Prfs.{all_prfs}
use Rattle.vc_layout.specs.declared.slots.Slot.{Slot}
use Rattle.header_seal.specs.declared.opened.Opened.{Opened}
use Rattle.header_seal.specs.Candidates.{Candidate, candidate_of, candidates_of, fields_in, is_valid_in}

abbrev pub of_slot : Slot → List Candidate
of_slot slot = flat_map (candidates_of slot) all_prfs

abbrev pub FoundIn : Option (List ℕ) → Slot → List ℕ → ℕ → Option Candidate → Type 0
FoundIn image slot p pim r = IfSome image (λ b. find (λ c. is_valid_in c b p pim) (of_slot slot) ≡ r)

abbrev pub HasFieldsIn : Option (List ℕ) → List ℕ → ℕ → Opened → Type 0
HasFieldsIn image p pim o = IfSome image (λ b. o.fields ≡ fields_in (candidate_of o) b p pim)
