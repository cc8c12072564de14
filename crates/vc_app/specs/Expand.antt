-- What `expand` promises: a container of the asked size, with the standard volume in all of it up to the new backup
-- headers, and the line `ok`.
--
-- If the password opens the standard header to the volume's bytes in all that a crash might leave when the call began,
-- then after a crash at any moment of the call it opens that header still, or the new backup, which has the new fields.
-- Both open a volume that begins with these bytes; and its array, which is all that `cat` can write of it, begins with
-- the old array.
--
-- new_fields command o          the fields of both new headers
-- DataStays .. image could c P  the header that opens the data of the image is there in the image c that a crash leaves
-- AtStop .. image could c       c differs from an image that a crash might leave when the call began only as the step of
--                               an expansion does, and the data stays
use Rattle.std.specs.Prelude.{◌⊎◌, ℕ, ◌-◌, if◌then◌else◌, false, List, [], ◌∷◌, length, MatchOption}
use Rattle.rand_chacha.specs.ChaCha.{of_seed}
use Rattle.vc_layout.specs.declared.slots.Slot.TheVariants.{Standard, BackupStandard}
use Rattle.vc_header.specs.declared.fields.Fields.{Fields}
use Rattle.header_seal.specs.declared.opened.Opened.{Opened}
use Rattle.header_change.specs.Moments.{After}
use Rattle.vol_expand.specs.Expanded.{expanded, expanded_fields, is_expandable}
use Rattle.vol_expand.specs.Stops.{Carries, Expands, Holds, IsOpened, Keeps, PartsStay, volume_of}
use Rattle.vc_app.specs.declared.commands.expand.Expand.{Expand}
use Rattle.vc_app.specs.declared.commands.expand.ExpandError.{ExpandError}
use Rattle.vc_app.specs.declared.commands.expand.ExpandError.TheVariants as expand
use Rattle.vc_app.specs.declared.status.Status.{Status}
use Rattle.vc_app.specs.declared.status.Status.TheVariants.{BadSize}
use Rattle.vc_app.specs.Access.{opened, over_opened}
use Rattle.vc_app.specs.Format.{done_line}
use Rattle.vc_app.specs.Promise.{Outcome, Plan, Promise, Reach, goes, longer, refused}
use Rattle.vc_app.specs.Rewriting.{OfHeader, sealing}
use Rattle.vc_app.specs.Status.{open_status, work_status}

abbrev pub new_fields : Expand → Opened → Fields
new_fields command o = expanded_fields command.size o.fields

abbrev pub plan_of : Expand → List ℕ → Opened → List ℕ → Plan
plan_of command random o image = record {
  image = expanded (of_seed random) (sealing command.access o) o.fields command.size image;
  output = done_line;
}

abbrev pub outcome : Expand → List ℕ → Opened → List ℕ → Outcome
outcome command random o image =
    if is_expandable (length image) command.size o.fields.sector then goes (plan_of command random o image)
    else refused BadSize

abbrev pub DataStays : Expand → Opened → List ℕ → (List ℕ → Type 0) → List ℕ → OfHeader → Type 0
DataStays command o image could c P =
    ((d : List ℕ) → could d → Holds P Standard (sealing command.access o) o.fields (volume_of o.fields image) d)
    → Keeps P Standard (sealing command.access o) o.fields o.fields image c
    ⊎ Keeps P BackupStandard (sealing command.access o) o.fields (new_fields command o) image c

pub record AtStop (command : Expand) (o : Opened) (image : List ℕ) (could : List ℕ → Type 0) (c : List ℕ) : Type 0 where
  pub differs : After could
      (Expands (length image - 131072) command.size (sealing command.access o) (new_fields command o)) c
  pub carries : DataStays command o image could c Carries
  pub opens : DataStays command o image could c IsOpened

-- behind the first header only bytes from the old backup headers on may differ
abbrev pub reach : Expand → Reach
reach command =
    longer command.size (λ b c. PartsStay 512 (length b - 131072) b c)
    (λ b could c. MatchOption (opened command.access b) ⊥ (λ o. AtStop command o b could c))

abbrev pub promise : Expand → List ℕ → Promise
promise command random =
    record (over_opened command.access (BadSize ∷ []) false (reach command) (outcome command random)) {
      length_left = λ len. command.size;
    }

abbrev pub expand_status : ExpandError → Status
expand_status (expand.Open error) = open_status error
expand_status expand.BadSize = BadSize
expand_status (expand.Work error) = work_status error
