-- Shares in one unit.
--
-- A split halves a share, so in a unit of half the size both halves are the number that the whole was. A join adds
-- the numbers. So what a pass gives of its share to another one doesn't change the sum of all.
use Rattle.std.proofs.Common.{◌≡◌, ◌<◌, ℕ, zero, suc, ◌+◌, ◌*◌, ◌^◌, List, [], ◌∷◌, length, get_or, set, refl, sym, ap, ◌∙◌, subst, arith}
use Rattle.std.proofs.lemmas.Nat.{pow-add}
use Rattle.hist_lock.specs.declared.view.View.{View}
use Rattle.hist_lock.specs.Known.{Adds, Halves, SameShare}
use Rattle.pipe_session.specs.Shares.{SameSum, Weigh, Weighs}

-- the next power of two
twice : (k : ℕ) → 2 ^ (k + 1) ≡ 2 ^ k * 2
twice k = pow-add 2 k 1

doubled : (a p x q : ℕ) → a * p ≡ x * q → a * (p * 2) ≡ (x * 2) * q
doubled a p x q is = omega arith

halved : (a p x q : ℕ) → a * p ≡ x * q → a * (p * 2) ≡ x * (q * 2)
halved a p x q is = omega arith

gathered : (a b p q t : ℕ) → (a * q + b * p) * t ≡ (a * t) * q + (b * t) * p
gathered a b p q t = omega arith

spread : (x y p q : ℕ) → (x * p) * q + (y * q) * p ≡ (x + y) * (p * q)
spread x y p q = omega arith

summed : (a b p q t x y : ℕ) → a * t ≡ x * p → b * t ≡ y * q → (a * q + b * p) * t ≡ (x + y) * (p * q)
summed a b p q t x y f s = gathered a b p q t ∙ (λ i. f i * q + s i * p) ∙ spread x y p q

grouped : (x p q : ℕ) → (x * p) * q ≡ x * (p * q)
grouped x p q = omega arith

again : (x k l : ℕ) → (x * 2 ^ k) * 2 ^ l ≡ x * 2 ^ (k + l)
again x k l = grouped x (2 ^ k) (2 ^ l) ∙ ap (λ n. x * n) (sym (pow-add 2 k l))

module _ {T E : Type 0} where
  pub finer : (top x : ℕ) (v : View T E) → Weighs top v x → Weighs (top + 1) v (x * 2)
  finer top x v is = ap (λ p. v.part * p) (twice top) ∙ doubled v.part (2 ^ top) x (2 ^ v.halvings) is

  pub half : (top x : ℕ) (v w : View T E) → Halves v w → Weighs top v x → Weighs (top + 1) w x
  half top x v w h is =
      (λ i. h.0 i * twice top i) ∙ halved v.part (2 ^ top) x (2 ^ v.halvings) is
      ∙ ap (λ p. x * p) (sym (twice v.halvings)) ∙ ap (λ k. x * 2 ^ k) (sym h.1)

  pub added : (top x y : ℕ) (v w u : View T E) → Adds v w u → Weighs top v x → Weighs top w y → Weighs top u (x + y)
  added top x y v w u a p q =
      ap (λ n. n * 2 ^ top) a.0 ∙ summed v.part w.part (2 ^ v.halvings) (2 ^ w.halvings) (2 ^ top) x y p q
      ∙ ap (λ n. (x + y) * n) (sym (pow-add 2 v.halvings w.halvings)) ∙ ap (λ k. (x + y) * 2 ^ k) (sym a.1)

  pub same_weight : (top x : ℕ) (v w : View T E) → SameShare v w → Weighs top v x → Weighs top w x
  same_weight top x v w same is = ap (λ p. p * 2 ^ top) same.0 ∙ is ∙ ap (λ k. x * 2 ^ k) (sym same.1)

  pub finer_all : (top x : ℕ) (vs : List (View T E)) → Weigh top vs x → Weigh (top + 1) vs (x * 2)
  finer_all top x [] is = omega arith
  finer_all top x (v ∷ vs) w = (
    w.0 * 2,
    w.1 * 2,
    finer top w.0 v w.2,
    finer_all top w.1 vs w.3,
    (let e : x ≡ w.0 + w.1 = w.4 in omega arith),
  )

  -- one of several passes, and the others in a unit of half the size
  pub record Apart (top x : ℕ) (us : List (View T E)) (i : ℕ) (u : View T E) : Type 0 where
    pub own : ℕ
    pub others : ℕ
    pub weighs : Weighs top u own
    pub sum : x ≡ own + others
    pub with_own : (z : View T E) (y : ℕ) → Weighs (top + 1) z y → Weigh (top + 1) (set us i z) (y + others * 2)

  pub set_apart : (top x : ℕ) (us : List (View T E)) (i : ℕ) (d : View T E) → i < length us → Weigh top us x → Apart top x us i (get_or us i d)
  set_apart top x [] i d lt w = absurd (omega (arith, lt))
  set_apart top x (u ∷ us) zero d lt w = record {
    own = w.0;
    others = w.1;
    weighs = w.2;
    sum = w.4;
    with_own = λ z y is. (y, w.1 * 2, is, finer_all top w.1 us w.3, refl);
  }
  set_apart top x (u ∷ us) (suc i) d lt w = let r = set_apart top w.1 us i d (omega (arith, lt)) w.3 in record {
    own = r.own;
    others = w.0 + r.others;
    weighs = r.weighs;
    sum = (let e : x ≡ w.0 + w.1 = w.4 in let f : w.1 ≡ r.own + r.others = r.sum in omega arith);
    with_own = λ z y is. (w.0 * 2, y + r.others * 2, finer top w.0 u w.2, r.with_own z y is, (omega arith));
  }

  -- a pass gives half of its share to one of several others
  pub given_out : (v w u z h : View T E) (us : List (View T E)) (i : ℕ) (d : View T E) → i < length us → u ≡ get_or us i d
      → Halves v w → Halves v h → Adds u h z → SameSum (v ∷ us) (w ∷ set us i z)
  given_out v w u z h us i d lt is kept given adds top x (y, rest, of_v, of_us, sum) =
      let r : Apart top rest us i u = subst (Apart top rest us i) (sym is) (set_apart top rest us i d lt of_us) in
      let more : Weighs (top + 1) z (r.own * 2 + y) = added (top + 1) (r.own * 2) y u h z adds (finer top r.own u r.weighs) (half top y v h given of_v) in (
        1,
        (
          y,
          (r.own * 2 + y) + r.others * 2,
          half top y v w kept of_v,
          r.with_own z (r.own * 2 + y) more,
          (let e : x ≡ y + rest = sum in let f : rest ≡ r.own + r.others = r.sum in omega arith),
        ),
      )

  -- one of several passes gives half of its share to another one
  pub given_in : (v w u z h : View T E) (us : List (View T E)) (i : ℕ) (d : View T E) → i < length us → u ≡ get_or us i d
      → Halves u z → Halves u h → Adds v h w → SameSum (v ∷ us) (w ∷ set us i z)
  given_in v w u z h us i d lt is kept given adds top x (y, rest, of_v, of_us, sum) =
      let r : Apart top rest us i u = subst (Apart top rest us i) (sym is) (set_apart top rest us i d lt of_us) in
      let more : Weighs (top + 1) w (y * 2 + r.own) = added (top + 1) (y * 2) r.own v h w adds (finer top y v of_v) (half top r.own u h given r.weighs) in (
        1,
        (
          y * 2 + r.own,
          r.own + r.others * 2,
          more,
          r.with_own z r.own (half top r.own u z kept r.weighs),
          (let e : x ≡ y + rest = sum in let f : rest ≡ r.own + r.others = r.sum in omega arith),
        ),
      )

  pub same_sum : (vs : List (View T E)) → SameSum vs vs
  same_sum vs top x w = (
    0,
    subst (λ (t : ℕ). Weigh t vs (x * 2 ^ 0)) (let e : top ≡ top + 0 = omega arith in e)
        (subst (Weigh top vs) (let e : x ≡ x * 2 ^ 0 = omega arith in e) w),
  )

  pub sum_then : (us vs ws : List (View T E)) → SameSum us vs → SameSum vs ws → SameSum us ws
  sum_then us vs ws first second top x w =
      let a = first top x w in let b = second (top + a.0) (x * 2 ^ a.0) a.1 in (
        a.0 + b.0,
        subst (λ (t : ℕ). Weigh t ws (x * 2 ^ (a.0 + b.0))) (let e : (top + a.0) + b.0 ≡ top + (a.0 + b.0) = omega arith in e)
            (subst (Weigh ((top + a.0) + b.0) ws) (again x a.0 b.0) b.1),
      )
