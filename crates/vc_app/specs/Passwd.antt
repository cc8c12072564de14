-- What `passwd` promises: both headers of the pair of the opened one under a new password, and the line `ok`.
--
-- If the old password opens the backup in all that a crash might leave when the call began, then after a crash at
-- any moment of the call it still does, or the new password opens the primary header, with the same fields.
use Rattle.std.specs.Prelude.{◌⊎◌, ℕ, List, unwrap_or}
use Rattle.rand_chacha.specs.ChaCha.{of_seed}
use Rattle.header_seal.specs.declared.opened.Opened.{Opened}
use Rattle.volume_format.specs.Formatted.{Sealing}
use Rattle.header_change.specs.Changed.{changed, new_sealing}
use Rattle.header_change.specs.Pair.{backup_of, OnlyPair, primary_of}
use Rattle.vc_app.specs.declared.commands.passwd.Passwd.{Passwd}
use Rattle.vc_app.specs.declared.commands.passwd.PasswdError.{PasswdError}
use Rattle.vc_app.specs.declared.commands.passwd.PasswdError.TheVariants as passwd
use Rattle.vc_app.specs.declared.status.Status.{Status}
use Rattle.vc_app.specs.Promise.{Promise}
use Rattle.vc_app.specs.Rewriting.{OfHeader, rewriting, sealing}
use Rattle.vc_app.specs.Status.{open_status, work_status}

-- what is to open the headers: the PRF stays unless another is asked for
abbrev pub sealing_asked : Passwd → Opened → Sealing
sealing_asked command o = new_sealing command.password command.pim (unwrap_or command.prf o.prf) o

abbrev pub EitherStays : Passwd → Opened → (List ℕ → Type 0) → List ℕ → OfHeader → Type 0
EitherStays command o could c P =
    ((d : List ℕ) → could d → P (backup_of o.slot) (sealing command.access o) o.fields d)
    → P (backup_of o.slot) (sealing command.access o) o.fields c ⊎ P (primary_of o.slot) (sealing_asked command o) o.fields c

abbrev pub promise : Passwd → List ℕ → Promise
promise command random =
    rewriting command.access (λ o image. changed (of_seed random) (sealing_asked command o) o image)
    (λ o. OnlyPair o.slot) (EitherStays command)

abbrev pub passwd_status : PasswdError → Status
passwd_status (passwd.Open error) = open_status error
passwd_status (passwd.Work error) = work_status error
