-- Opening: the candidates that are tried, in their order, and the first valid one.
--
-- A candidate is a slot with a PRF and an algorithm. It is valid in a container if the slot's body,
-- deciphered under the keys that the PRF derives from password, PIM and the slot's salt, is valid.
--
-- candidates kind                   the candidates of a kind, by slot, then PRF, then algorithm
-- plain_body c image p pim          the deciphered body of a candidate
-- IsValidIn c image p pim           the candidate is valid; is_valid_in is the same as a test, by the law
--                                   `validity_is_decided` of vc_header
-- first kind image p pim            the first valid candidate, or none
-- IsFirst o kind image p pim        an opened header is that candidate, with its fields
use Rattle.std.specs.Prelude.{◌≡◌, ℕ, Bool, List, length, map, find, Option, Some}
use Rattle.std.specs.List.{flat_map}
use Rattle.kdf_hmac.specs.declared.prf.Prf.{Prf}
use Rattle.kdf_hmac.specs.Prfs.{all_prfs}
use Rattle.algorithm_names.specs.declared.algorithm.Algorithm.{Algorithm}
use Rattle.algorithm_names.specs.Algorithms.{all_algorithms}
use Rattle.vc_layout.specs.declared.slots.Slot.{Slot}
use Rattle.vc_header.specs.Header.{fields_of, Valid}
use Rattle.vc_header.specs.Laws.Tests.{is_valid}
use Rattle.vc_header.specs.declared.fields.Fields.{Fields}
use Rattle.vc_layout.specs.declared.kind.Kind.{Kind}
use Rattle.vc_layout.specs.Kinds.{slots_of}
use Rattle.header_seal.specs.declared.opened.Opened.{Opened}
use Rattle.header_seal.specs.Sealed.{header_at, plain_by}

pub record Candidate : Type 0 where
  pub slot : Slot
  pub prf : Prf
  pub algorithm : Algorithm

-- the candidates of a slot and a PRF
abbrev pub candidates_of : Slot → Prf → List Candidate
candidates_of slot prf =
    map (λ algorithm. record { slot = slot; prf = prf; algorithm = algorithm }) all_algorithms

abbrev pub candidates : Kind → List Candidate
candidates kind = flat_map (λ slot. flat_map (candidates_of slot) all_prfs) (slots_of kind)

abbrev pub plain_body : Candidate → List ℕ → List ℕ → ℕ → List ℕ
plain_body c image password pim = plain_by c.prf c.algorithm password pim (header_at c.slot image)

-- the candidate is valid by its slot's header, in a container of len bytes
abbrev pub is_valid_under : List ℕ → ℕ → List ℕ → ℕ → Candidate → Bool
is_valid_under header len password pim c = is_valid (plain_by c.prf c.algorithm password pim header) c.slot len

abbrev pub IsValidIn : Candidate → List ℕ → List ℕ → ℕ → Type 0
IsValidIn c image password pim = Valid (plain_body c image password pim) c.slot (length image)

abbrev pub is_valid_in : Candidate → List ℕ → List ℕ → ℕ → Bool
is_valid_in c image password pim = is_valid (plain_body c image password pim) c.slot (length image)

abbrev pub fields_in : Candidate → List ℕ → List ℕ → ℕ → Fields
fields_in c image password pim = fields_of (plain_body c image password pim)

-- what opening returns for a candidate
abbrev pub candidate_of : Opened → Candidate
candidate_of o = record { slot = o.slot; prf = o.prf; algorithm = o.algorithm }

unfoldable pub first : Kind → List ℕ → List ℕ → ℕ → Option Candidate
first kind image password pim = find (λ c. is_valid_in c image password pim) (candidates kind)

-- an opened header is the first valid candidate, with its fields
pub record IsFirst (o : Opened) (kind : Kind) (image password : List ℕ) (pim : ℕ) : Type 0 where
  pub candidate : first kind image password pim ≡ Some (candidate_of o)
  pub fields : o.fields ≡ fields_in (candidate_of o) image password pim
