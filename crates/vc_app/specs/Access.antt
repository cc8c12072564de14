-- What a password, a PIM and a kind open: the header of the first valid candidate.
--
-- opened access image         the header that is opened, or none
-- over_opened ..              the promise of a command that opens a volume: what comes of the container's bytes
--                             is f of the opened header and of the bytes
use Rattle.std.specs.Prelude.{◌≡◌, ℕ, Bool, List, ◌∷◌, Option, Some, None, option_map}
use Rattle.vc_layout.specs.Layout.{IsContainerLength}
use Rattle.header_seal.specs.declared.opened.Opened.{Opened}
use Rattle.header_seal.specs.Candidates.{Candidate, fields_in, first}
use Rattle.vc_app.specs.declared.access.Access.{Access}
use Rattle.vc_app.specs.declared.status.Status.{Status}
use Rattle.vc_app.specs.declared.status.Status.TheVariants.{Length, NoHeader}
use Rattle.vc_app.specs.Promise.{Outcome, Promise, Reach, refused}

-- the header of a candidate
abbrev pub header_of : Access → List ℕ → Candidate → Opened
header_of access image c = record {
  slot = c.slot;
  prf = c.prf;
  algorithm = c.algorithm;
  fields = fields_in c image access.password access.pim;
}

abbrev pub opened : Access → List ℕ → Option Opened
opened access image = option_map (header_of access image) (first access.kind image access.password access.pim)

abbrev pub outcome_of : (Opened → Outcome) → Option Opened → Outcome
outcome_of f None = refused NoHeader
outcome_of f (Some o) = f o

abbrev pub over_opened : Access → List Status → Bool → Reach → (Opened → List ℕ → Outcome) → Promise
over_opened access late streams reach f = record {
  admits = IsContainerLength;
  early = λ len s. s ≡ Length len;
  late = NoHeader ∷ late;
  plan = option_map (λ image. outcome_of (λ o. f o image) (opened access image));
  reach = reach;
  length_left = λ len. len;
  streams = streams;
}
