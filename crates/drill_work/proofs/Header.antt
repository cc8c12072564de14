-- The container of a drill, and the header that opens it.
--
-- The candidate that formatting asks for is the first of its slot. So no candidate before it is valid by chance, and opening
-- gives the fields that were written.
use Rattle.std.proofs.Common.{◌≡◌, ◌≢◌, inl, inr, ℕ, List, Option, Some, None, Result, Err, refl, sym, ap, ap₂, ◌∙◌, subst, arith}
use Rattle.rand_chacha.specs.ChaCha.{ChaCha, of_seed}
use Rattle.algorithm_names.specs.declared.algorithm.Algorithm.TheVariants.{Aes}
use Rattle.vc_layout.specs.Layout.{IsContainerLength}
use Rattle.vc_layout.specs.declared.slots.Slot.TheVariants.{Standard, BackupStandard}
use Rattle.vc_layout.specs.declared.kind.Kind.TheVariants.{StandardOnly}
use Rattle.header_seal.specs.Candidates.{Candidate, candidate_of, fields_in, IsFirst}
use Rattle.header_seal.specs.declared.opened.Opened.{Opened}
use Rattle.header_try.specs.declared.open_error.OpenError.{OpenError}
use Rattle.header_try.specs.declared.open_error.OpenError.TheVariants.{Length, NoHeader, ReadFault, NoMemory}
use Rattle.volume_format.specs.Formatted.{formatted, material_of, outer_fields, sealing_of}
use Rattle.volume_format.specs.Opens.{asked, HasBothHeaders, order_of}
use Rattle.volume_format.specs.declared.outer.FormatSpec.{FormatSpec}
use Rattle.drill_streams.specs.Drill.{generator, key_of}
use Rattle.drill_work.specs.Summary.{container, fields, spec}

pub generator_is : (n : ℕ) (key : List ℕ) (g : ChaCha) → key ≡ key_of n → g ≡ of_seed key → g ≡ generator n 0
unfolding generator
generator_is n key g is made = made ∙ ap of_seed is

some_is : {X : Type 0} {x y : X} → Some x ≡ Some y → x ≡ y
some_is e = cc

pub container_is : (n : ℕ) (g : ChaCha) (s : FormatSpec) (b new : List ℕ) → g ≡ generator n 0 → s ≡ spec → b ≡ formatted g s → Some new ≡ Some b
    → new ≡ container n
unfolding container
container_is n g s b new from by made same = some_is same ∙ made ∙ ap₂ formatted from by

abbrev Headers : ChaCha → FormatSpec → List ℕ → Type 0
Headers g s b = HasBothHeaders StandardOnly Standard BackupStandard (sealing_of s) (outer_fields s (material_of g s.size s.algorithm)) b

module _ (n : ℕ) (g : ChaCha) (s : FormatSpec) (b : List ℕ) (from : g ≡ generator n 0) (by : s ≡ spec) (headers : Headers g s b) where
  these : Headers (generator n 0) spec b
  these = subst (λ (x : FormatSpec). Headers (generator n 0) x b) by (subst (λ (x : ChaCha). Headers x s b) from headers)

  module _ (o : Opened) (first : IsFirst o StandardOnly b s.password s.pim) where
    this : IsFirst o StandardOnly b spec.password spec.pim
    this = subst (λ (x : FormatSpec). IsFirst o StandardOnly b x.password x.pim) by first

    asked_is : candidate_of o ≡ asked Standard (sealing_of spec)
    asked_is =
        some_is (sym this.candidate ∙ these.opens.is_first)
        ∙ elim these.opens.which [
          | inl is ↦ is.candidate
          | inr before ↦
              let none : order_of (asked Standard (sealing_of spec)) ≡ 0 = refl in absurd (omega (arith, before, none))
        ]

    pub algorithm_is : o.algorithm ≡ Aes
    algorithm_is = ap (λ (c : Candidate). c.algorithm) asked_is

    pub fields_are : o.fields ≡ fields n
    unfolding fields
    fields_are =
        this.fields
        ∙ ap (λ (c : Candidate). fields_in c b spec.password spec.pim) (some_is (sym this.candidate ∙ these.opens.is_first))
        ∙ elim these.opens.which [
          | inl is ↦ is.fields
          | inr before ↦
              let none : order_of (asked Standard (sealing_of spec)) ≡ 0 = refl in absurd (omega (arith, before, none))
        ]

none_of_some : {X : Type 0} (found : Option X) (x : X) → found ≡ Some x → found ≡ None → ⊥
none_of_some found x some none = differ (sym some ∙ none)
  where
    differ : Some x ≡ None → ⊥
    differ e = cc

-- opening doesn't fail
pub opens : (r : Result Opened OpenError) (e : OpenError) (size : ℕ) (found : Option Candidate) (c : Candidate) → r ≡ Err e
    → IsContainerLength size → found ≡ Some c → (r ≡ Err NoHeader → found ≡ None)
    → ((n : ℕ) → r ≡ Err (Length n) → (n ≡ size) × ¬ IsContainerLength n) → (r ≡ Err ReadFault → ⊥) → r ≢ Err NoMemory → ⊥
opens r (Length n) size found c is in_range some none length fault memory =
    (length n is).1 (subst IsContainerLength (sym (length n is).0) in_range)
opens r NoHeader size found c is in_range some none length fault memory = none_of_some found c some (none is)
opens r ReadFault size found c is in_range some none length fault memory = fault is
opens r NoMemory size found c is in_range some none length fault memory = memory is
