-- Sectors are whole data units.
use Rattle.std.proofs.Common.{◌≡◌, ◌<◌, ◌≤◌, ℕ, ◌-◌, ◌%◌, refl, subst, sym, arith, inl, inr}
use Rattle.vc_layout.specs.Layout.{IsSectorSize}

-- whole sectors are whole data units
pub whole_units : (s n : ℕ) → IsSectorSize s → n % s ≡ 0 → n % 512 ≡ 0
whole_units s n (inl e) whole = subst (λ (x : ℕ). n % x ≡ 0) e whole
whole_units s n (inr (inl e)) whole =
    let sectors : n % 1024 ≡ 0 = subst (λ (x : ℕ). n % x ≡ 0) e whole in omega (arith, sectors)
whole_units s n (inr (inr (inl e))) whole =
    let sectors : n % 2048 ≡ 0 = subst (λ (x : ℕ). n % x ≡ 0) e whole in omega (arith, sectors)
whole_units s n (inr (inr (inr e))) whole =
    let sectors : n % 4096 ≡ 0 = subst (λ (x : ℕ). n % x ≡ 0) e whole in omega (arith, sectors)

pub at_least_a_unit : (s : ℕ) → IsSectorSize s → 512 ≤ s
at_least_a_unit s (inl e) = omega (arith, e)
at_least_a_unit s (inr (inl e)) = omega (arith, e)
at_least_a_unit s (inr (inr (inl e))) = omega (arith, e)
at_least_a_unit s (inr (inr (inr e))) = omega (arith, e)

without : (s m n k : ℕ) → s ≡ m → n % s ≡ 0 → k % s ≡ 0 → (n % m ≡ 0 → k % m ≡ 0 → (n - k) % m ≡ 0) → (n - k) % s ≡ 0
without s m n k e all some law =
    subst (λ (x : ℕ). (n - k) % x ≡ 0) (sym e)
    (law (subst (λ (x : ℕ). n % x ≡ 0) e all) (subst (λ (x : ℕ). k % x ≡ 0) e some))

-- what is left of whole sectors without whole sectors
pub whole_without : (s n k : ℕ) → IsSectorSize s → n % s ≡ 0 → k % s ≡ 0 → (n - k) % s ≡ 0
whole_without s n k (inl e) all some = without s 512 n k e all some (λ a b. omega (arith, a, b))
whole_without s n k (inr (inl e)) all some = without s 1024 n k e all some (λ a b. omega (arith, a, b))
whole_without s n k (inr (inr (inl e))) all some = without s 2048 n k e all some (λ a b. omega (arith, a, b))
whole_without s n k (inr (inr (inr e))) all some = without s 4096 n k e all some (λ a b. omega (arith, a, b))

-- so has a header group, and so have both
pub group_whole : (s : ℕ) → IsSectorSize s → 131072 % s ≡ 0
group_whole s (inl e) = subst (λ (x : ℕ). 131072 % x ≡ 0) (sym e) refl
group_whole s (inr (inl e)) = subst (λ (x : ℕ). 131072 % x ≡ 0) (sym e) refl
group_whole s (inr (inr (inl e))) = subst (λ (x : ℕ). 131072 % x ≡ 0) (sym e) refl
group_whole s (inr (inr (inr e))) = subst (λ (x : ℕ). 131072 % x ≡ 0) (sym e) refl

pub groups_whole : (s : ℕ) → IsSectorSize s → 262144 % s ≡ 0
groups_whole s (inl e) = subst (λ (x : ℕ). 262144 % x ≡ 0) (sym e) refl
groups_whole s (inr (inl e)) = subst (λ (x : ℕ). 262144 % x ≡ 0) (sym e) refl
groups_whole s (inr (inr (inl e))) = subst (λ (x : ℕ). 262144 % x ≡ 0) (sym e) refl
groups_whole s (inr (inr (inr e))) = subst (λ (x : ℕ). 262144 % x ≡ 0) (sym e) refl

one : (s m n : ℕ) → s ≡ m → n % s ≡ 0 → (n % m ≡ 0 → m ≤ n) → s ≤ n
one s m n e whole law = subst (λ (x : ℕ). x ≤ n) (sym e) (law (subst (λ (x : ℕ). n % x ≡ 0) e whole))

-- whole sectors that aren't none are one at least
pub at_least_one : (s n : ℕ) → IsSectorSize s → 0 < n → n % s ≡ 0 → s ≤ n
at_least_one s n (inl e) some whole = one s 512 n e whole (λ w. omega (arith, some, w))
at_least_one s n (inr (inl e)) some whole = one s 1024 n e whole (λ w. omega (arith, some, w))
at_least_one s n (inr (inr (inl e))) some whole = one s 2048 n e whole (λ w. omega (arith, some, w))
at_least_one s n (inr (inr (inr e))) some whole = one s 4096 n e whole (λ w. omega (arith, some, w))
