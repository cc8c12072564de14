-- A fragment in its place: what was written to the store, said of the pending write.
use Rattle.std.proofs.Common.{◌≡◌, ℕ, ◌+◌, ◌*◌, Bool, List, Option, length, subst}
use Rattle.vc_base.specs.Bytes.{in_pieces}
use Rattle.vc_outside.specs.Crash.{Outcomes}
use Rattle.vc_outside.specs.Told.{Both, SameOutside, written}
use Rattle.cipher_base.specs.declared.unit.UnitCipher.{Ghosts as CipherGhosts}
use Rattle.io_core.specs.Deposits.{fragment_data, fragment_unit, IsWritten, SameButFragment}
use Rattle.io_core.specs.State.{State}
use Rattle.io_core.specs.declared.prepared.Prepared.{Prepared}

module _ {S C : Type 0} (s : State S C) (w : Prepared) (k first : ℕ) (bytes : List ℕ) (place : first ≡ fragment_unit s.geometry w k)
    (its : bytes ≡ fragment_data w k) where
  pub written_here : (cipher : CipherGhosts C) (x y : Option (List ℕ))
      → Both x y (λ b c. c ≡ written (512 * first) (in_pieces 512 (λ i u. cipher.enciphered s.cipher (first + i) u) bytes) b)
      → Both x y (IsWritten cipher s w k)
  written_here cipher x y h =
      subst (λ (n : ℕ). Both x y (λ b c. c ≡ written (512 * n) (in_pieces 512 (λ i u. cipher.enciphered s.cipher (n + i) u) (fragment_data w k)) b)) place
      (subst (λ (l : List ℕ). Both x y (λ b c. c ≡ written (512 * first) (in_pieces 512 (λ i u. cipher.enciphered s.cipher (first + i) u) l) b)) its h)

  pub elsewhere_here : (x y : Option (List ℕ)) → Both x y (SameOutside (512 * first) (length bytes)) → Both x y (SameButFragment s.geometry w k)
  elsewhere_here x y h =
      subst (λ (n : ℕ). Both x y (SameOutside (512 * n) (length (fragment_data w k)))) place
      (subst (λ (l : List ℕ). Both x y (SameOutside (512 * first) (length l))) its h)

  pub crash_here : (tells : Bool) (before now : ℕ) (past since : ℕ → List ℕ → Type 0) (could can : List ℕ → Type 0)
      → Outcomes tells before now past since could can (SameOutside (512 * first) (length bytes))
      → Outcomes tells before now past since could can (SameButFragment s.geometry w k)
  crash_here tells before now past since could can h =
      subst (λ (n : ℕ). Outcomes tells before now past since could can (SameOutside (512 * n) (length (fragment_data w k)))) place
      (subst (λ (l : List ℕ). Outcomes tells before now past since could can (SameOutside (512 * first) (length l))) its h)
