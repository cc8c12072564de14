-- What opens a new volume.
--
-- HasHeader image slot k f    the slot carries the fields f, under the sealing k
-- HasValid image slot k       the slot's header is valid under the sealing
-- asked slot k                the candidate that the sealing names, in a slot
-- order_of c                  the place of a candidate among those of its slot, as they are tried
-- Opens kind slot k f image   opening a kind with this one slot gives the asked candidate, with the
--                             fields f, unless a candidate before it is valid by chance
-- HasBothHeaders ..           all this of a volume's header, and of its backup that it carries the
--                             same fields and is valid
use Rattle.std.specs.Prelude.{◌≡◌, ◌<◌, ◌⊎◌, ℕ, ◌+◌, ◌*◌, List, Some}
use Rattle.kdf_hmac.specs.declared.prf.Prf.{Prf}
use Rattle.kdf_hmac.specs.declared.prf.Prf.TheVariants.{Sha512, Sha256}
use Rattle.algorithm_names.specs.Algorithms.{number_of}
use Rattle.vc_layout.specs.declared.slots.Slot.{Slot}
use Rattle.vc_layout.specs.declared.kind.Kind.{Kind}
use Rattle.vc_header.specs.declared.fields.Fields.{Fields}
use Rattle.header_seal.specs.Candidates.{Candidate, fields_in, first, IsValidIn}
use Rattle.header_seal.specs.Sealed.{Carries}
use Rattle.volume_format.specs.Formatted.{Sealing}

abbrev pub HasHeader : List ℕ → Slot → Sealing → Fields → Type 0
HasHeader image slot k fields = Carries image slot k.password k.pim k.prf k.algorithm fields

abbrev pub asked : Slot → Sealing → Candidate
asked slot k = record { slot = slot; prf = k.prf; algorithm = k.algorithm }

abbrev pub HasValid : List ℕ → Slot → Sealing → Type 0
HasValid image slot k = IsValidIn (asked slot k) image k.password k.pim

abbrev pub prf_order : Prf → ℕ
prf_order Sha512 = 0
prf_order Sha256 = 1

abbrev pub order_of : Candidate → ℕ
order_of c = 8 * prf_order c.prf + number_of c.algorithm

-- the asked candidate, with these fields
pub record IsAsked (slot : Slot) (k : Sealing) (f : Fields) (image : List ℕ) (c : Candidate) : Type 0 where
  pub candidate : c ≡ asked slot k
  pub fields : fields_in c image k.password k.pim ≡ f

pub record Opens (kind : Kind) (slot : Slot) (k : Sealing) (f : Fields) (image : List ℕ) : Type 0 where
  pub candidate : Candidate
  pub is_first : first kind image k.password k.pim ≡ Some candidate
  pub which : IsAsked slot k f image candidate ⊎ (order_of candidate < order_of (asked slot k))

pub record HasBothHeaders (kind : Kind) (slot backup : Slot) (k : Sealing) (f : Fields) (image : List ℕ) : Type 0 where
  pub header : HasHeader image slot k f
  pub valid : HasValid image slot k
  pub opens : Opens kind slot k f image
  pub backup_header : HasHeader image backup k f
  pub backup_valid : HasValid image backup k
