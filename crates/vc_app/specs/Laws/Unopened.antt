-- What holds of opening if no header was opened. Only private contracts cite it.
--
-- Unopened access r image size before now     the result r, the container's bytes and its length, and its counts of
--                                             faults before and now
use Rattle.std.specs.Prelude.{◌≡◌, ℕ, List, Option, None, IfSome, IsErrOf, Result}
use Rattle.vc_base.specs.Faults.{Rose}
use Rattle.vc_layout.specs.Layout.{IsContainerLength}
use Rattle.header_seal.specs.declared.opened.Opened.{Opened}
use Rattle.header_try.specs.declared.open_error.OpenError.{OpenError}
use Rattle.header_try.specs.declared.open_error.OpenError.TheVariants.{Length, NoHeader, NoMemory, ReadFault}
use Rattle.vc_app.specs.declared.access.Access.{Access}
use Rattle.vc_app.specs.Access.{opened}

pub record Unopened (access : Access) (r : Result Opened OpenError) (image : Option (List ℕ)) (size before now : ℕ)
    : Type 0 where
  pub none_valid : IsErrOf r NoHeader → IfSome image (λ b. opened access b ≡ None)
  pub length : (n : ℕ) → IsErrOf r (Length n) → (n ≡ size) × ¬ IsContainerLength n
  pub refused : ¬ IsContainerLength size → IsErrOf r (Length size)
  pub fault : IsErrOf r ReadFault → Rose before now
  pub memory : IsErrOf r NoMemory → now ≡ before
