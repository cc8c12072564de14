-- The jobs of a write are those of its fragments.
use Rattle.std.proofs.Common.{◌≡◌, ℕ, zero, suc, ◌+◌, ◌-◌, ◌*◌, List, [], ◌∷◌, ◌++◌, length, take, drop, min, Option, None, Some, refl, ap, subst, ◌∙◌, arith}
use Rattle.std.proofs.lemmas.List.{length-drop, take_min}
use Rattle.std.specs.Prelude.{slice_get}
use Rattle.frag_pool.specs.Bench.{SameBench}
use Rattle.frag_pool.specs.declared.bench.Bench.{Bench}
use Rattle.vc_base.specs.Bytes.{piece}

none_is_not_some : {X : Type 0} (x : X) → None ≡ Some x → ⊥
none_is_not_some x e = cc

some_is : {X : Type 0} (x y : X) → Some x ≡ Some y → x ≡ y
some_is x y e = cc

-- what holds of each element at its place, with one element more
pub each_pushed : {X : Type 0} (P : ℕ → X → Type 0) (xs : List X) (y : X) → ((k : ℕ) (x : X) → slice_get xs k ≡ Some x → P k x)
    → P (length xs) y → (k : ℕ) (x : X) → slice_get (xs ++ y ∷ []) k ≡ Some x → P k x
each_pushed P [] y each last zero x is = subst (P zero) (some_is y x is) last
each_pushed P [] y each last (suc k) x is = absurd (none_is_not_some x is)
each_pushed P (z ∷ xs) y each last zero x is = each zero x is
each_pushed P (z ∷ xs) y each last (suc k) x is = each_pushed (λ i x. P (suc i) x) xs y (λ i x e. each (suc i) x e) last k x is

pub length_pushed : {X : Type 0} (xs : List X) (y : X) → length (xs ++ y ∷ []) ≡ length xs + 1
length_pushed [] y = refl
length_pushed (x ∷ xs) y = omega (arith, length_pushed xs y)

-- the units from 512 k on, at most 512 of them, are the k-th fragment
pub fragment_lent : (bytes : List ℕ) (units k : ℕ) → length bytes ≡ 512 * units
    → take (512 * min 512 (units - 512 * k)) (drop (512 * (512 * k)) bytes) ≡ piece 262144 k bytes
fragment_lent bytes units k whole =
    let from : 512 * (512 * k) ≡ 262144 * k = omega arith in
    let rest : List ℕ = drop (262144 * k) bytes in
    let left : length rest ≡ length bytes - 262144 * k = length-drop (262144 * k) bytes in
    let many : 512 * min 512 (units - 512 * k) ≡ min 262144 (length rest) = omega (arith, whole, left) in
    ap (λ (n : ℕ). take (512 * min 512 (units - 512 * k)) (drop n bytes)) from ∙ ap (λ (n : ℕ). take n rest) many ∙ take_min 262144 rest

pub same_bench : (a b c : Bench) → SameBench a b → SameBench b c → SameBench a c
same_bench a b c p q = record { same_helpers = q.same_helpers ∙ p.same_helpers; same_sure = q.same_sure ∙ p.same_sure }
