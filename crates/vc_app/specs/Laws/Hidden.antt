-- Why a hidden header that is to be protected was not opened. Only private contracts cite it.
--
-- Unprotected access image before now s     the status s, by the container's bytes and its counts of faults
use Rattle.std.specs.Prelude.{◌≡◌, ℕ, List, Option, None, IfSome}
use Rattle.vc_base.specs.Faults.{Rose}
use Rattle.vc_app.specs.declared.access.Access.{Access}
use Rattle.vc_app.specs.declared.status.Status.{Status}
use Rattle.vc_app.specs.declared.status.Status.TheVariants.{DiskFault, NoHidden, NoMemory}
use Rattle.vc_app.specs.Access.{opened}

abbrev pub Unprotected : Access → Option (List ℕ) → ℕ → ℕ → Status → Type 0
Unprotected access image before now NoHidden = IfSome image (λ b. opened access b ≡ None)
Unprotected access image before now DiskFault = Rose before now
Unprotected access image before now NoMemory = now ≡ before
Unprotected access image before now _ = ⊥
