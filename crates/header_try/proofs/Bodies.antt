-- What holds of a body holds of what equals it.
use Rattle.std.proofs.Common.{◌≡◌, ℕ, List, Bool, true, false, refl, sym, subst, ap, ◌∙◌}
use Rattle.std.specs.Prelude.{◌↔◌, Option, Some, None, IfSome, IsSome}
use Rattle.vc_layout.specs.declared.slots.Slot.{Slot}
use Rattle.vc_header.specs.declared.fields.Fields.{Fields}
use Rattle.vc_header.specs.Header.{Valid, fields_of}

pub valid_of_same : (body body' : List ℕ) (slot : Slot) (len : ℕ) (found : Bool) → body ≡ body'
    → ((found ≡ true) ↔ Valid body slot len) → ((found ≡ true) ↔ Valid body' slot len)
valid_of_same body body' slot len found e h = subst (λ (b : List ℕ). (found ≡ true) ↔ Valid b slot len) e h

pub fields_of_same : (body body' : List ℕ) (f : Fields) → body ≡ body' → f ≡ fields_of body → f ≡ fields_of body'
fields_of_same body body' f e h = h ∙ ap fields_of e

-- a test that decides the same fact
pub decided_by : (found test : Bool) (P : Type 0) → ((found ≡ true) ↔ P) → (test ≡ true → P) × (P → test ≡ true)
    → ((found ≡ true) ↔ (test ≡ true))
decided_by found test P h t = ((λ f. t.1 (h.0 f)), (λ e. h.1 (t.0 e)))

-- a test that decides a fact which is not there
pub false_where_not : (test : Bool) → ((false ≡ true) ↔ (test ≡ true)) → test ≡ false
false_where_not true h = sym (h.1 refl)
false_where_not false h = refl

-- what holds if there is something
pub if_some : {A : Type 0} {P : Type 0} (r : Option A) → (IsSome r → P) → IfSome r (λ _. P)
if_some None holds = tt
if_some (Some a) holds = holds refl
