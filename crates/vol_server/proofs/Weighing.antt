-- Shares in one unit.
--
-- A split halves a share, so in a unit of half the size both halves are the number that the whole was. A join adds
-- the numbers. So the number of the unit says which share all passes have together, in whatever order they are joined.
use Rattle.std.proofs.Common.{◌≡◌, ℕ, ◌+◌, ◌*◌, ◌^◌, List, [], ◌∷◌, ◌++◌, sym, ap, ◌∙◌, arith}
use Rattle.std.proofs.lemmas.Nat.{pow-add, pow_pos}
use Rattle.std.proofs.Math.Nat.{eq_of_mul-eq-mul_right}
use Rattle.hist_lock.specs.declared.view.View.{View}
use Rattle.hist_lock.specs.Known.{Adds, Halves, SameShare}
use Rattle.vol_server.specs.Served.{SameFraction}
use Rattle.vol_server.specs.Laws.Weights.{Weigh, Weighs}

-- the next power of two
twice : (k : ℕ) → 2 ^ (k + 1) ≡ 2 ^ k * 2
twice k = pow-add 2 k 1

doubled : (a p x q : ℕ) → a * p ≡ x * q → a * (p * 2) ≡ (x * 2) * q
doubled a p x q is = omega arith

halved : (a p x q : ℕ) → a * p ≡ x * q → a * (p * 2) ≡ x * (q * 2)
halved a p x q is = omega arith

gathered : (a b p q t : ℕ) → (a * q + b * p) * t ≡ (a * t) * q + (b * t) * p
gathered a b p q t = omega arith

spread : (x y p q : ℕ) → (x * p) * q + (y * q) * p ≡ (x + y) * (p * q)
spread x y p q = omega arith

summed : (a b p q t x y : ℕ) → a * t ≡ x * p → b * t ≡ y * q → (a * q + b * p) * t ≡ (x + y) * (p * q)
summed a b p q t x y f s = gathered a b p q t ∙ (λ i. f i * q + s i * p) ∙ spread x y p q

cleared : (a p q x r : ℕ) → a * (p * q) ≡ (x * q) * r → (a * p) * q ≡ (x * r) * q
cleared a p q x r is = omega arith

module _ {T E : Type 0} where
  pub finer : (top x : ℕ) (v : View T E) → Weighs top v x → Weighs (top + 1) v (x * 2)
  finer top x v is = ap (λ p. v.part * p) (twice top) ∙ doubled v.part (2 ^ top) x (2 ^ v.halvings) is

  pub half : (top x : ℕ) (v w : View T E) → Halves v w → Weighs top v x → Weighs (top + 1) w x
  half top x v w h is =
      (λ i. h.0 i * twice top i) ∙ halved v.part (2 ^ top) x (2 ^ v.halvings) is
      ∙ ap (λ p. x * p) (sym (twice v.halvings)) ∙ ap (λ k. x * 2 ^ k) (sym h.1)

  pub added : (top x y : ℕ) (v w u : View T E) → Adds v w u → Weighs top v x → Weighs top w y → Weighs top u (x + y)
  added top x y v w u a p q =
      ap (λ n. n * 2 ^ top) a.0 ∙ summed v.part w.part (2 ^ v.halvings) (2 ^ w.halvings) (2 ^ top) x y p q
      ∙ ap (λ n. (x + y) * n) (sym (pow-add 2 v.halvings w.halvings)) ∙ ap (λ k. (x + y) * 2 ^ k) (sym a.1)

  pub same_weight : (top x : ℕ) (v w : View T E) → SameShare v w → Weighs top v x → Weighs top w x
  same_weight top x v w same is = ap (λ p. p * 2 ^ top) same.0 ∙ is ∙ ap (λ k. x * 2 ^ k) (sym same.1)

  pub finer_all : (top x : ℕ) (vs : List (View T E)) → Weigh top vs x → Weigh (top + 1) vs (x * 2)
  finer_all top x [] is = omega arith
  finer_all top x (v ∷ vs) w = (
    w.0 * 2,
    w.1 * 2,
    finer top w.0 v w.2,
    finer_all top w.1 vs w.3,
    (let e : x ≡ w.0 + w.1 = w.4 in omega arith),
  )

  pub one_more : (top x y : ℕ) (vs : List (View T E)) (v : View T E) → Weigh top vs x → Weighs top v y → Weigh top (vs ++ v ∷ []) (x + y)
  one_more top x y [] v none is = (y, 0, is, (omega arith), (omega arith))
  one_more top x y (u ∷ us) v w is = (
    w.0,
    w.1 + y,
    w.2,
    one_more top w.1 y us v w.3 is,
    (let e : x ≡ w.0 + w.1 = w.4 in omega arith),
  )

  -- the last one and those before it
  pub last : (top x : ℕ) (vs : List (View T E)) (v : View T E) → Weigh top (vs ++ v ∷ []) x
      → (y : ℕ) × (z : ℕ) × Weigh top vs y × Weighs top v z × (x ≡ y + z)
  last top x [] v w = (0, w.0, (omega arith), w.2, (let e : x ≡ w.0 + w.1 = w.4 in let n : w.1 ≡ 0 = w.3 in omega arith))
  last top x (u ∷ us) v w = let r = last top w.1 us v w.3 in (
    w.0 + r.0,
    r.1,
    (w.0, r.0, w.2, r.2, (omega arith)),
    r.3,
    (let e : x ≡ w.0 + w.1 = w.4 in let f : w.1 ≡ r.0 + r.1 = r.4 in omega arith),
  )

  -- all of the share in a unit so small
  pub whole_again : (k x : ℕ) (u v : View T E) → x ≡ u.part * 2 ^ k → Weighs (u.halvings + k) v x → SameFraction u v
  whole_again k x u v is w =
      eq_of_mul-eq-mul_right (2 ^ k) (pow_pos k) (v.part * 2 ^ u.halvings) (u.part * 2 ^ v.halvings)
      (cleared v.part (2 ^ u.halvings) (2 ^ k) u.part (2 ^ v.halvings)
      (ap (λ p. v.part * p) (sym (pow-add 2 u.halvings k)) ∙ w ∙ ap (λ n. n * 2 ^ v.halvings) is))
