-- After a fragment was stored, each stored fragment of its write still deciphers to its data.
use Rattle.std.proofs.Common.{◌≡◌, ◌≤◌, ◌<◌, ◌⊎◌, ℕ, ◌+◌, ◌*◌, ◌/◌, ◌-◌, List, Option, Some, None, set, length, take, drop, sym, ap, subst, ◌∙◌, arith, inl, inr}
use Rattle.std.specs.Prelude.{slice_get}
use Rattle.std.proofs.lemmas.List.{drop-drop}
use Rattle.std.proofs.lemmas.Bool.{cases_eq}
use Rattle.vc_base.specs.Bytes.{piece}
use Rattle.vc_base.proofs.Chunks.{piece-take}
use Rattle.vc_base.proofs.Pieces.{piece_inside}
use Rattle.vc_layout.specs.declared.geometry.Geometry.{Geometry}
use Rattle.vc_outside.specs.Told.{Both, SameOutside}
use Rattle.vc_outside.specs.declared.store.Store.{Ghosts as StoreGhosts}
use Rattle.cipher_base.specs.declared.unit.UnitCipher.{Ghosts as CipherGhosts}
use Rattle.sector_model.specs.Array.{unit, units_of}
use Rattle.sector_model.specs.History.{Write}
use Rattle.io_core.specs.Laws.Sealed.{Deciphers}
use Rattle.io_core.specs.State.{write_of}
use Rattle.io_core.specs.Sound.{plain, StoredHolds}
use Rattle.io_core.specs.declared.part.PartState.{PartState}
use Rattle.io_core.specs.declared.part.PartState.TheVariants.{Stored}
use Rattle.io_core.specs.declared.prepared.Prepared.{Prepared}
use Rattle.io_core.proofs.Replaced.{get_set_other, get_set_same}
use Rattle.io_core.proofs.Rewritten.{Rewrites, rewrites}

module _ {S C : Type 0} (store : StoreGhosts S) (cipher : CipherGhosts C) (c : C) (g : Geometry) (p q : Prepared) (same : write_of q ≡ write_of p)
    (k first m : ℕ) (x : PartState) (within : k < length p.parts.items) (parts : q.parts.items ≡ set p.parts.items k x) (fragment : List ℕ)
    (place : first ≡ g.start / 512 + g.sector / 512 * p.first + 512 * k)
    (part : fragment ≡ take m (drop (512 * (512 * k)) p.bytes.items)) (enough : length fragment ≤ m)
    (n : ℕ) (long : length fragment ≡ 512 * n)
    (all : 512 * k + n ≤ units_of p.bytes.items) (few : n ≤ 512) (last : (n ≡ 512) ⊎ (512 * k + n ≡ units_of p.bytes.items)) where
  the_first : q.first ≡ p.first
  the_first = ap (λ (w : Write). w.first) same

  the_bytes : q.bytes.items ≡ p.bytes.items
  the_bytes = ap (λ (w : Write). w.bytes) same

  mine : (old new : List ℕ) → Rewrites first n old new → (x ≡ Stored → Deciphers (cipher.deciphered c) first fragment new)
      → StoredHolds store cipher c g old p → (j : ℕ) → j < units_of p.bytes.items → slice_get q.parts.items (j / 512) ≡ Some Stored
      → plain store cipher c g new (g.sector / 512 * p.first + j) ≡ unit j p.bytes.items
  mine old new step stored holds j below is = elim (cases_eq (j / 512) k) [
    | inl here ↦
        let state : Some x ≡ Some Stored = sym (get_set_same p.parts.items k x within) ∙ ap (λ (l : List PartState). slice_get l k) (sym parts)
        ∙ ap (slice_get q.parts.items) (sym here) ∙ is in
        let stored_now : x ≡ Stored = cc in
        let i : ℕ = j - 512 * k in
        let inside : i < length fragment / 512 = omega arith in
        let at : first + i ≡ g.start / 512 + (g.sector / 512 * p.first + j) = omega arith in
        let row : 512 * i + 512 ≤ length fragment = piece_inside 512 i (length fragment) inside in
        let there : 512 * (512 * k) + 512 * i ≡ 512 * j = omega arith in
        sym (ap (λ (u : ℕ). cipher.deciphered c u (unit u new)) at)
        ∙ stored stored_now i inside
        ∙ ap (piece 512 i) part ∙ piece-take 512 i m (drop (512 * (512 * k)) p.bytes.items) (omega arith)
        ∙ ap (take 512) (drop-drop (512 * i) (512 * (512 * k)) p.bytes.items ∙ ap (λ (u : ℕ). drop u p.bytes.items) there)
    | inr other ↦
        let was : slice_get p.parts.items (j / 512) ≡ Some Stored
        = sym (get_set_other p.parts.items k (j / 512) x other) ∙ ap (λ (l : List PartState). slice_get l (j / 512)) (sym parts) ∙ is in
        ap (cipher.deciphered c (g.start / 512 + (g.sector / 512 * p.first + j)))
        (step.others (g.start / 512 + (g.sector / 512 * p.first + j)) (λ inside. other (omega (arith, inside.from, inside.below))))
        ∙ holds j below was
  ]

  pub stored_after : (old new : List ℕ) → Rewrites first n old new → (x ≡ Stored → Deciphers (cipher.deciphered c) first fragment new)
      → StoredHolds store cipher c g old p → StoredHolds store cipher c g new q
  stored_after old new step stored holds j below is =
      ap (λ (f : ℕ). plain store cipher c g new (g.sector / 512 * f + j)) the_first
      ∙ mine old new step stored holds j (subst (λ (l : List ℕ). j < units_of l) the_bytes below) is
      ∙ ap (unit j) (sym the_bytes)

  pub images_after : (y z : Option (List ℕ)) → Both y z (SameOutside (512 * first) (length fragment))
      → (x ≡ Stored → Both y z (λ _ b. Deciphers (cipher.deciphered c) first fragment b))
      → Both y z (λ old new. Rewrites first n old new × (StoredHolds store cipher c g old p → StoredHolds store cipher c g new q))
  images_after None z outside stored = tt
  images_after (Some a) None outside stored = outside
  images_after (Some a) (Some b) outside stored =
      let step : Rewrites first n a b = rewrites first n a b (subst (λ (l : ℕ). SameOutside (512 * first) l a b) long outside) in
      (step, stored_after a b step stored)
