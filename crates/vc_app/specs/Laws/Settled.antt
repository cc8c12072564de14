-- How the end of a command's work goes with both counts of faults. Only private contracts cite it.
--
-- Settled r disk disk_now out out_now     the end r, the counts when the command began, and those now
use Rattle.std.specs.Prelude.{◌≡◌, ℕ, IsErrOf, OnOk, Result}
use Rattle.vc_base.specs.Faults.{HasCause}
use Rattle.vc_app.specs.declared.counts.WorkError.{WorkError}
use Rattle.vc_app.specs.declared.counts.WorkError.TheVariants.{DiskFault, OutFault, NoMemory}

pub record Settled (r : Result (Unit {0}) WorkError) (disk disk_now out out_now : ℕ) : Type 0 where
  pub counts : OnOk r ((disk_now ≡ disk) × (out_now ≡ out))
  pub disk_cause : HasCause disk disk_now (IsErrOf r DiskFault)
  pub out_cause : HasCause out out_now (IsErrOf r OutFault)
  pub memory : IsErrOf r NoMemory → (disk_now ≡ disk) × (out_now ≡ out)
