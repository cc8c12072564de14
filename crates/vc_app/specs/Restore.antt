-- What `restore` promises: the primary header of the backup that is opened, under the same password, and the line
-- `ok`.
--
-- If the password opens the backup in all that a crash might leave when the call began, then it still does after a
-- crash at any moment of the call.
use Rattle.std.specs.Prelude.{ℕ, List}
use Rattle.rand_chacha.specs.ChaCha.{of_seed}
use Rattle.header_seal.specs.declared.opened.Opened.{Opened}
use Rattle.header_change.specs.Changed.{restored}
use Rattle.header_change.specs.Pair.{backup_of, OnlyPrimary}
use Rattle.vc_app.specs.declared.access.Access.{Access}
use Rattle.vc_app.specs.declared.commands.restore.RestoreError.{RestoreError}
use Rattle.vc_app.specs.declared.commands.restore.RestoreError.TheVariants as restore
use Rattle.vc_app.specs.declared.status.Status.{Status}
use Rattle.vc_app.specs.Promise.{Promise}
use Rattle.vc_app.specs.Rewriting.{OfHeader, rewriting, sealing}
use Rattle.vc_app.specs.Status.{open_status, work_status}

abbrev pub BackupStays : Access → Opened → (List ℕ → Type 0) → List ℕ → OfHeader → Type 0
BackupStays access o could c P =
    ((d : List ℕ) → could d → P (backup_of o.slot) (sealing access o) o.fields d)
    → P (backup_of o.slot) (sealing access o) o.fields c

abbrev pub promise : Access → List ℕ → Promise
promise access random =
    rewriting access (λ o image. restored (of_seed random) (sealing access o) o image)
    (λ o. OnlyPrimary o.slot) (BackupStays access)

abbrev pub restore_status : RestoreError → Status
restore_status (restore.Open error) = open_status error
restore_status (restore.Work error) = work_status error
