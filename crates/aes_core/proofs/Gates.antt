-- Circuits of gates.
--
-- A circuit is a list of gates, each of which puts its value in front of the values so far and names its two
-- inputs by their places there. A map that respects the three operations respects the circuit: so a circuit
-- on planes does in each bit of each lane what it does on bits, and on the bits of a byte it is computed.
use Rattle.std.proofs.Common.{◌≡◌, ◌<◌, List, [], ◌∷◌, ℕ, zero, suc, map, length, get_or, refl, sym, ap, ap₂, subst, ◌∙◌, arith}

pub data Gate : Type 0 where
  odd : ℕ → ℕ → Gate
  both : ℕ → ℕ → Gate
  either : ℕ → ℕ → Gate

-- the three operations, and the value at a place that there is not
pub record Operations (A : Type 0) : Type 0 where
  pub sum : A → A → A
  pub meet : A → A → A
  pub join : A → A → A
  pub none : A

abbrev pub value : {A : Type 0} → Operations A → Gate → List A → A
value o (odd i j) xs = o.sum (get_or xs i o.none) (get_or xs j o.none)
value o (both i j) xs = o.meet (get_or xs i o.none) (get_or xs j o.none)
value o (either i j) xs = o.join (get_or xs i o.none) (get_or xs j o.none)

unfoldable pub run : {A : Type 0} → Operations A → List Gate → List A → List A
run o [] xs = xs
run o (g ∷ gs) xs = run o gs (value o g xs ∷ xs)

-- what a circuit gives: the values at some places at the end
abbrev pub given : {A : Type 0} → Operations A → List Gate → List ℕ → List A → List A
given o gs ps xs = let ys = run o gs xs in map (λ p. get_or ys p o.none) ps

-- ---- what a circuit keeps, and what respects it

-- each value passes P, and the one at a place that there is not
pub record Each {A : Type 0} (o : Operations A) (P : A → Type 0) (xs : List A) : Type 0 where
  pub at : (i : ℕ) → P (get_or xs i o.none)

pub record Keeps {A : Type 0} (o : Operations A) (P : A → Type 0) : Type 0 where
  pub sum : (a b : A) → P a → P b → P (o.sum a b)
  pub meet : (a b : A) → P a → P b → P (o.meet a b)
  pub join : (a b : A) → P a → P b → P (o.join a b)
  pub none : P o.none

-- h turns the operations o into q, on what passes P
pub record Respects {A B : Type 0} (o : Operations A) (q : Operations B) (P : A → Type 0) (h : A → B) : Type 0 where
  pub sum : (a b : A) → P a → P b → h (o.sum a b) ≡ q.sum (h a) (h b)
  pub meet : (a b : A) → P a → P b → h (o.meet a b) ≡ q.meet (h a) (h b)
  pub join : (a b : A) → P a → P b → h (o.join a b) ≡ q.join (h a) (h b)
  pub none : h o.none ≡ q.none

more_at : {A : Type 0} (P : A → Type 0) (x d : A) (xs : List A) → P x → ((i : ℕ) → P (get_or xs i d)) → (i : ℕ) → P (get_or (x ∷ xs) i d)
more_at P x d xs first rest zero = first
more_at P x d xs first rest (suc i) = rest i

none_at : {A : Type 0} (P : A → Type 0) (d : A) → P d → (i : ℕ) → P (get_or [] i d)
none_at P d is i = is

pub no_values : {A : Type 0} (o : Operations A) (P : A → Type 0) → Keeps o P → Each o P []
no_values o P keeps = record { at = none_at P o.none keeps.none }

pub more_values : {A : Type 0} (o : Operations A) (P : A → Type 0) (x : A) (xs : List A) → P x → Each o P xs → Each o P (x ∷ xs)
more_values o P x xs first rest = record { at = more_at P x o.none xs first rest.at }

value_keeps : {A : Type 0} (o : Operations A) (P : A → Type 0) (g : Gate) (xs : List A) → Keeps o P → Each o P xs → P (value o g xs)
value_keeps o P (odd i j) xs keeps all = keeps.sum _ _ (all.at i) (all.at j)
value_keeps o P (both i j) xs keeps all = keeps.meet _ _ (all.at i) (all.at j)
value_keeps o P (either i j) xs keeps all = keeps.join _ _ (all.at i) (all.at j)

pub run_keeps : {A : Type 0} (o : Operations A) (P : A → Type 0) (gs : List Gate) (xs : List A) → Keeps o P → Each o P xs → Each o P (run o gs xs)
unfolding run
run_keeps o P [] xs keeps all = all
run_keeps o P (g ∷ gs) xs keeps all =
    run_keeps o P gs (value o g xs ∷ xs) keeps (more_values o P (value o g xs) xs (value_keeps o P g xs keeps all) all)

get_or-map : {A B : Type 0} (h : A → B) (d : A) (e : B) (xs : List A) (i : ℕ) → h d ≡ e → h (get_or xs i d) ≡ get_or (map h xs) i e
get_or-map h d e [] i same = same
get_or-map h d e (x ∷ xs) zero same = refl
get_or-map h d e (x ∷ xs) (suc i) same = get_or-map h d e xs i same

value_respects : {A B : Type 0} (o : Operations A) (q : Operations B) (P : A → Type 0) (h : A → B) (g : Gate) (xs : List A)
    → Respects o q P h → Each o P xs → h (value o g xs) ≡ value q g (map h xs)
value_respects o q P h (odd i j) xs same all =
    same.sum _ _ (all.at i) (all.at j)
    ∙ ap₂ q.sum (get_or-map h o.none q.none xs i same.none) (get_or-map h o.none q.none xs j same.none)
value_respects o q P h (both i j) xs same all =
    same.meet _ _ (all.at i) (all.at j)
    ∙ ap₂ q.meet (get_or-map h o.none q.none xs i same.none) (get_or-map h o.none q.none xs j same.none)
value_respects o q P h (either i j) xs same all =
    same.join _ _ (all.at i) (all.at j)
    ∙ ap₂ q.join (get_or-map h o.none q.none xs i same.none) (get_or-map h o.none q.none xs j same.none)

run_respects : {A B : Type 0} (o : Operations A) (q : Operations B) (P : A → Type 0) (h : A → B) (gs : List Gate) (xs : List A)
    → Keeps o P → Respects o q P h → Each o P xs → map h (run o gs xs) ≡ run q gs (map h xs)
unfolding run
run_respects o q P h [] xs keeps same all = refl
run_respects o q P h (g ∷ gs) xs keeps same all =
    run_respects o q P h gs (value o g xs ∷ xs) keeps same (more_values o P (value o g xs) xs (value_keeps o P g xs keeps all) all)
    ∙ ap (λ (y : _). run q gs (y ∷ map h xs)) (value_respects o q P h g xs same all)

-- the element at a place that there is
map_at : {A B : Type 0} (f : A → B) (c : A) (d : B) (xs : List A) (i : ℕ) → i < length xs → get_or (map f xs) i d ≡ f (get_or xs i c)
map_at f c d [] i below = absurd (omega arith)
map_at f c d (x ∷ xs) zero below = refl
map_at f c d (x ∷ xs) (suc i) below = map_at f c d xs i (omega arith)

-- what a circuit gives at place i
pub given_keeps : {A : Type 0} (o : Operations A) (P : A → Type 0) (gs : List Gate) (ps : List ℕ) (xs : List A) (d : A) (i : ℕ)
    → Keeps o P → Each o P xs → i < length ps → P (get_or (given o gs ps xs) i d)
given_keeps o P gs ps xs d i keeps all below =
    subst P (sym (map_at (λ p. get_or (run o gs xs) p o.none) 0 d ps i below)) ((run_keeps o P gs xs keeps all).at (get_or ps i 0))

pub given_respects : {A B : Type 0} (o : Operations A) (q : Operations B) (P : A → Type 0) (h : A → B) (gs : List Gate) (ps : List ℕ)
    (xs : List A) (d : A) (e : B) (i : ℕ) → Keeps o P → Respects o q P h → Each o P xs → i < length ps
    → h (get_or (given o gs ps xs) i d) ≡ get_or (given q gs ps (map h xs)) i e
given_respects o q P h gs ps xs d e i keeps same all below =
    ap h (map_at (λ p. get_or (run o gs xs) p o.none) 0 d ps i below)
    ∙ get_or-map h o.none q.none (run o gs xs) (get_or ps i 0) same.none
    ∙ ap (λ (ys : _). get_or ys (get_or ps i 0) q.none) (run_respects o q P h gs xs keeps same all)
    ∙ sym (map_at (λ p. get_or (run q gs (map h xs)) p q.none) 0 e ps i below)
