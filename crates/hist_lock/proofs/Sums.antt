-- Sums over lists.
--
-- A rule adds a weight over all views. A step changes one view or two, so the sum changes by what they
-- weighed and weigh. Numbers below n, weighed by `is m`, say whether m is below n, and that once.
use Rattle.std.proofs.Common.{◌≡◌, ◌≢◌, ◌⊎◌, ℕ, zero, suc, ◌+◌, ◌*◌, ◌<◌, ◌≤◌, ◌==◌, cond, true, false, eqb, List, [], ◌∷◌, ◌++◌, length, get_or, set, refl, sym, ap, ◌∙◌, inl, inr, Contains, AllPairs, arith, eq-eqb, ne_eqb}
use mathlib.Core.Logic.{dite}
use mathlib.Core.Option.{some, some-injective, some-ne-none}
use native.Mathlib.Decide.{ℕ_discrete}
use lib.ListN.{get_elem?}
use Rattle.hist_lock.specs.Laws.Rule.{total, below}

module _ {X : Type 0} where
  pub total-append : (f : X → ℕ) (xs ys : List X) → total f (xs ++ ys) ≡ total f xs + total f ys
  total-append f [] ys = omega arith
  total-append f (x ∷ xs) ys = let r = total-append f xs ys in omega arith

  -- one place changes
  pub total-set : (f : X → ℕ) (xs : List X) (i : ℕ) (x y : X) → get_elem? xs i ≡ some x → total f (set xs i y) + f x ≡ total f xs + f y
  total-set f [] i x y e = absurd (some-ne-none x (sym e))
  total-set f (z ∷ zs) zero x y e = let p : f z ≡ f x = ap f (some-injective z x e) in omega arith
  total-set f (z ∷ zs) (suc i) x y e = let r = total-set f zs i x y e in omega arith

  -- each element weighs at most the sum
  pub at_most : (f : X → ℕ) (xs : List X) (i : ℕ) (x : X) → get_elem? xs i ≡ some x → f x ≤ total f xs
  at_most f [] i x e = absurd (some-ne-none x (sym e))
  at_most f (z ∷ zs) zero x e = let p : f z ≡ f x = ap f (some-injective z x e) in omega arith
  at_most f (z ∷ zs) (suc i) x e = let r = at_most f zs i x e in omega arith

  -- two elements at two places weigh at most the sum
  pub two_at_most : (f : X → ℕ) (xs : List X) (i j : ℕ) (x y : X) → i ≢ j → get_elem? xs i ≡ some x → get_elem? xs j ≡ some y → f x + f y ≤ total f xs
  two_at_most f [] i j x y n e d = absurd (some-ne-none x (sym e))
  two_at_most f (z ∷ zs) zero zero x y n e d = absurd (n refl)
  two_at_most f (z ∷ zs) zero (suc j) x y n e d = let p : f z ≡ f x = ap f (some-injective z x e) in let q = at_most f zs j y d in omega arith
  two_at_most f (z ∷ zs) (suc i) zero x y n e d = let p : f z ≡ f y = ap f (some-injective z y d) in let q = at_most f zs i x e in omega arith
  two_at_most f (z ∷ zs) (suc i) (suc j) x y n e d = let r = two_at_most f zs i j x y (λ s. n (ap suc s)) e d in omega arith

  -- each element weighs k times as much
  pub total-scaled : (f g : X → ℕ) (k : ℕ) (xs : List X) → ((i : ℕ) (x : X) → get_elem? xs i ≡ some x → f x ≡ k * g x) → total f xs ≡ k * total g xs
  total-scaled f g k [] each = omega arith
  total-scaled f g k (x ∷ xs) each = let p : f x ≡ k * g x = each 0 x refl in let r = total-scaled f g k xs (λ i y e. each (suc i) y e) in grind arith

  total-zero : (f : X → ℕ) (xs : List X) → ((j : ℕ) (y : X) → get_elem? xs j ≡ some y → f y ≡ 0) → total f xs ≡ 0
  total-zero f [] none = refl
  total-zero f (z ∷ zs) none = let p : f z ≡ 0 = none 0 z refl in let r = total-zero f zs (λ j y at. none (suc j) y at) in omega arith

  -- all others weigh nothing
  pub total-alone : (f : X → ℕ) (xs : List X) (i : ℕ) (x : X) → get_elem? xs i ≡ some x → ((j : ℕ) (y : X) → j ≢ i → get_elem? xs j ≡ some y → f y ≡ 0) → total f xs ≡ f x
  total-alone f [] i x e none = absurd (some-ne-none x (sym e))
  total-alone f (z ∷ zs) zero x e none = let p : f z ≡ f x = ap f (some-injective z x e) in let r = total-zero f zs (λ j y at. none (suc j) y (λ s. omega arith) at) in omega arith
  total-alone f (z ∷ zs) (suc i) x e none = let p : f z ≡ 0 = none 0 z (λ s. omega arith) refl in let r = total-alone f zs i x e (λ j y ne at. none (suc j) y (λ s. ne (omega arith)) at) in omega arith

  pub total-length : (xs : List X) → total (λ _. 1) xs ≡ length xs
  total-length [] = refl
  total-length (x ∷ xs) = let r = total-length xs in omega arith

-- 1 at n, and 0 at every other number
abbrev pub is : ℕ → ℕ → ℕ
is n m = cond (m == n) 1 0

pub is_same : (n : ℕ) → is n n ≡ 1
is_same n = ap (λ b. cond b 1 0) (eq-eqb n n refl)

pub is_other : (n m : ℕ) → m ≢ n → is n m ≡ 0
is_other n m ne = ap (λ b. cond b 1 0) (ne_eqb m n ne)

pub below_one : (n : ℕ) → below (λ _. 1) n ≡ n
below_one zero = refl
below_one (suc n) = let r = below_one n in omega arith

not_below : (n k : ℕ) → k ≤ n → below (is n) k ≡ 0
not_below n zero le = refl
not_below n (suc k) le = let r = not_below n k (omega arith) in let q = is_other n k (λ e. omega arith) in omega arith

is_most : (n m : ℕ) → is n m ≤ 1
is_most n m = elim (m == n) as (λ b. cond b 1 0 ≤ 1) [ true ↦ omega arith | false ↦ omega arith ]

-- a number is below k once at most
pub below_once : (n k : ℕ) → below (is n) k ≤ 1
below_once n zero = omega arith
below_once n (suc k) = dite (ℕ_discrete k n)
    (λ e. let r = not_below n k (omega arith) in let q : is n k ≤ 1 = is_most n k in omega arith)
    (λ ne. let r = below_once n k in let q = is_other n k ne in omega arith)

pub below_there : (n k : ℕ) → n < k → below (is n) k ≡ 1
below_there n zero lt = absurd (omega arith)
below_there n (suc k) lt = dite (ℕ_discrete k n)
    (λ e. let r = not_below n k (omega arith) in let q : is n k ≡ 1 = ap (is n) e ∙ is_same n in omega arith)
    (λ ne. let r = below_there n k (omega arith) in let q = is_other n k ne in omega arith)

-- an element of a list of numbers weighs 1 or more there
pub weighs : (ns : List ℕ) (n k : ℕ) → k < length ns → get_or ns k n ≡ n → 1 ≤ total (is n) ns
weighs [] n k lt at = absurd (omega arith)
weighs (m ∷ ms) n zero lt at = let q : is n m ≡ 1 = ap (is n) at ∙ is_same n in omega arith
weighs (m ∷ ms) n (suc k) lt at = let r = weighs ms n k (omega arith) at in omega arith

pub contained : (ns : List ℕ) (n : ℕ) → Contains ns n → 1 ≤ total (is n) ns
contained ns n c = weighs ns n c.0 c.1 c.2

pub contains : (ns : List ℕ) (n : ℕ) → 1 ≤ total (is n) ns → Contains ns n
contains [] n le = absurd (omega arith)
contains (m ∷ ms) n le = dite (ℕ_discrete m n)
    (λ e. (0, omega arith, e))
    (λ ne. let q = is_other n m ne in let r = contains ms n (omega arith) in (suc r.0, omega arith, r.2))

at_get : (ns : List ℕ) (i d : ℕ) → i < length ns → get_elem? ns i ≡ some (get_or ns i d)
at_get [] i d lt = absurd (omega arith)
at_get (n ∷ ns) zero d lt = refl
at_get (n ∷ ns) (suc i) d lt = at_get ns i d (omega arith)

-- each number stands in the list once at most: no two are the same
pub distinct : (ns : List ℕ) → ((n : ℕ) → total (is n) ns ≤ 1) → AllPairs (λ a b. a ≢ b) ns
distinct ns once i j d lt len same = let n : ℕ = get_or ns i d in
    let most = two_at_most (is n) ns i j n (get_or ns j d) (λ e. omega arith) (at_get ns i d (omega arith)) (at_get ns j d len) in
    let a : is n n ≡ 1 = is_same n in let b : is n (get_or ns j d) ≡ 1 = ap (is n) (sym same) ∙ is_same n in let c = once n in omega arith

pub other_number : (m : ℕ) (ns : List ℕ) (n : ℕ) → AllPairs (λ a b. a ≢ b) (m ∷ ns) → Contains ns n → n ≢ m
other_number m ns n apart c e = let lt : c.0 < length ns = c.1 in apart 0 (suc c.0) n (omega arith) (omega arith) (sym e ∙ sym c.2)
