-- A pending write that is replaced in its place by one that the history knows as the same.
use Rattle.std.proofs.Common.{◌≡◌, ◌<◌, ◌≢◌, ℕ, zero, suc, List, [], ◌∷◌, ◌++◌, Some, get_or, set, length, refl, sym, ap, subst, ◌∙◌, arith, append_assoc}
use Rattle.std.specs.Prelude.{map, slice_get}
use Rattle.std.specs.List.{All, AllPairs}
use Rattle.std.proofs.lemmas.List.{map-append}
use Rattle.std.proofs.lemmas.List.Elements.{All-append, All-cons, All-nil}
use Rattle.sector_model.specs.declared.entry.FaultMark.{FaultMark}
use Rattle.io_core.specs.Sound.{mark_of, marks_of_parts, marks_pending}
use Rattle.io_core.specs.declared.part.PartState.{PartState}
use Rattle.io_core.specs.declared.part.PartState.TheVariants.{Waiting}
use Rattle.io_core.specs.declared.prepared.Prepared.{Prepared}
use Rattle.io_core.proofs.Elements.{at_element, element_right, first_element}
use Rattle.io_core.proofs.OneMoreMark.{all_left, all_right}

pub record IsReplaced {X : Type 0} (p q : X) (old new : List X) : Type 0 where
  pub below : List X
  pub above : List X
  pub was : old ≡ below ++ p ∷ above
  pub now : new ≡ below ++ q ∷ above

module _ {X : Type 0} where
  pub replaced : (xs : List X) (i : ℕ) (q d : X) → i < length xs → IsReplaced (get_or xs i d) q xs (set xs i q)
  replaced [] i q d within = absurd (omega arith)
  replaced (x ∷ xs) zero q d within = record { below = []; above = xs; was = refl; now = refl }
  replaced (x ∷ xs) (suc i) q d within =
      let rest : IsReplaced (get_or xs i d) q xs (set xs i q) = replaced xs i q d (omega arith) in
      record { below = x ∷ rest.below; above = rest.above; was = ap (λ l. x ∷ l) rest.was; now = ap (λ l. x ∷ l) rest.now }

  pub all_replaced : (P : X → Type 0) (p q : X) (old new : List X) (r : IsReplaced p q old new)
      → All P r.below → P q → All P r.above → All P new
  all_replaced P p q old new r lower here upper =
      subst (All P) (sym r.now) (All-append P r.below (q ∷ r.above) lower (All-cons P q r.above here upper))

  pub pairs_above : (R : X → X → Type 0) (xs ys : List X) (p : X) → AllPairs R (xs ++ p ∷ ys) → All (λ y. R p y) ys
  pairs_above R [] ys p pairs = λ k d within. pairs 0 (suc k) d (omega arith) (omega arith)
  pairs_above R (x ∷ xs) ys p pairs = pairs_above R xs ys p (λ i j d less within. pairs (suc i) (suc j) d (omega arith) (omega arith))

  pub pairs_below : (R : X → X → Type 0) (xs ys : List X) (p : X) → AllPairs R (xs ++ p ∷ ys) → All (λ x. R x p) xs
  pairs_below R [] ys p pairs = All-nil (λ x. R x p)
  pairs_below R (x ∷ xs) ys p pairs = All-cons (λ z. R z p) x xs
      (at_element (λ y. R x y) (xs ++ p ∷ ys) p (λ k d within. pairs 0 (suc k) d (omega arith) (omega arith)) (element_right xs (p ∷ ys) p (first_element p ys)))
      (pairs_below R xs ys p (λ i j d less within. pairs (suc i) (suc j) d (omega arith) (omega arith)))

-- pairs of a list without one element
pub pairs_without : {X : Type 0} (R : X → X → Type 0) (xs ys : List X) (w : X) → AllPairs R (xs ++ w ∷ ys) → AllPairs R (xs ++ ys)
pairs_without R [] ys w pairs i j d less within = pairs (suc i) (suc j) d (omega arith) (omega arith)
pairs_without R (x ∷ xs) ys w pairs i zero d less within = absurd (omega arith)
pairs_without R (x ∷ xs) ys w pairs zero (suc j) d less within =
    All-append (R x) xs ys
    (all_left (R x) xs (w ∷ ys) (λ k e below. pairs 0 (suc k) e (omega arith) (omega arith)))
    (λ k e below. all_right (R x) xs (w ∷ ys) (λ i f inside. pairs 0 (suc i) f (omega arith) (omega arith)) (suc k) e (omega arith))
    j d (omega arith)
pairs_without R (x ∷ xs) ys w pairs (suc i) (suc j) d less within =
    pairs_without R xs ys w (λ a b e under inside. pairs (suc a) (suc b) e (omega arith) (omega arith)) i j d (omega arith) (omega arith)

pub map_replaced : {Y : Type 0} (f : Prepared → Y) (p q : Prepared) (old new : List Prepared) → IsReplaced p q old new → f q ≡ f p
    → map f new ≡ map f old
map_replaced f p q old new r same =
    ap (map f) r.now ∙ map-append f r.below (q ∷ r.above)
    ∙ ap (λ w. map f r.below ++ w ∷ map f r.above) same
    ∙ sym (map-append f r.below (p ∷ r.above)) ∙ sym (ap (map f) r.was)

-- a state of a fragment is set
pub get_set_same : {X : Type 0} (xs : List X) (k : ℕ) (x : X) → k < length xs → slice_get (set xs k x) k ≡ Some x
get_set_same [] k x within = absurd (omega arith)
get_set_same (y ∷ xs) zero x within = refl
get_set_same (y ∷ xs) (suc k) x within = get_set_same xs k x (omega arith)

pub get_set_other : {X : Type 0} (xs : List X) (k i : ℕ) (x : X) → i ≢ k → slice_get (set xs k x) i ≡ slice_get xs i
get_set_other [] k i x other = refl
get_set_other (y ∷ xs) zero zero x other = absurd (other refl)
get_set_other (y ∷ xs) zero (suc i) x other = refl
get_set_other (y ∷ xs) (suc k) zero x other = refl
get_set_other (y ∷ xs) (suc k) (suc i) x other = get_set_other xs k i x (λ e. other (ap suc e))

-- the marks with new ones in one place
pub record IsInserted (ms : List FaultMark) (old new : List FaultMark) : Type 0 where
  pub below : List FaultMark
  pub above : List FaultMark
  pub was : old ≡ below ++ above
  pub now : new ≡ (below ++ ms) ++ above

behind : (l ms old new : List FaultMark) → IsInserted ms old new → IsInserted ms (l ++ old) (l ++ new)
behind l ms old new i = record {
  below = l ++ i.below;
  above = i.above;
  was = ap (λ x. l ++ x) i.was ∙ sym (append_assoc l i.below i.above);
  now = ap (λ x. l ++ x) i.now ∙ sym (append_assoc l (i.below ++ ms) i.above) ∙ ap (λ x. x ++ i.above) (sym (append_assoc l i.below ms));
}

before : (l ms old new : List FaultMark) → IsInserted ms old new → IsInserted ms (old ++ l) (new ++ l)
before l ms old new i = record {
  below = i.below;
  above = i.above ++ l;
  was = ap (λ x. x ++ l) i.was ∙ append_assoc i.below i.above l;
  now = ap (λ x. x ++ l) i.now ∙ append_assoc (i.below ++ ms) i.above l;
}

marks_set : (ss : List PartState) (k : ℕ) (x : PartState) → slice_get ss k ≡ Some Waiting
    → IsInserted (mark_of x) (marks_of_parts ss) (marks_of_parts (set ss k x))
marks_set [] k x waits = cc
marks_set (y ∷ ss) zero x waits =
    let same : y ≡ Waiting = cc in
    record { below = []; above = marks_of_parts ss; was = ap (λ (z : PartState). mark_of z ++ marks_of_parts ss) same; now = refl }
marks_set (y ∷ ss) (suc k) x waits = behind (mark_of y) (mark_of x) (marks_of_parts ss) (marks_of_parts (set ss k x)) (marks_set ss k x waits)

marks_of_all : (ps : List Prepared) (p : Prepared) (rest : List Prepared) → marks_pending (ps ++ p ∷ rest)
    ≡ marks_pending ps ++ (marks_of_parts p.parts.items ++ marks_pending rest)
marks_of_all [] p rest = refl
marks_of_all (q ∷ ps) p rest = ap (λ x. marks_of_parts q.parts.items ++ x) (marks_of_all ps p rest)
    ∙ sym (append_assoc (marks_of_parts q.parts.items) (marks_pending ps) (marks_of_parts p.parts.items ++ marks_pending rest))

pub marks_replaced : (p q : Prepared) (old new : List Prepared) (k : ℕ) (x : PartState) → IsReplaced p q old new
    → slice_get p.parts.items k ≡ Some Waiting → q.parts.items ≡ set p.parts.items k x
    → IsInserted (mark_of x) (marks_pending old) (marks_pending new)
marks_replaced p q old new k x r waits parts =
    let i : IsInserted (mark_of x) (marks_of_parts p.parts.items) (marks_of_parts q.parts.items)
    = subst (λ (l : List PartState). IsInserted (mark_of x) (marks_of_parts p.parts.items) (marks_of_parts l)) (sym parts) (marks_set p.parts.items k x waits) in
    let whole : IsInserted (mark_of x) (marks_pending (r.below ++ p ∷ r.above)) (marks_pending (r.below ++ q ∷ r.above))
    = subst (λ l. IsInserted (mark_of x) l (marks_pending (r.below ++ q ∷ r.above))) (sym (marks_of_all r.below p r.above))
    (subst (λ l. IsInserted (mark_of x) (marks_pending r.below ++ (marks_of_parts p.parts.items ++ marks_pending r.above)) l) (sym (marks_of_all r.below q r.above))
    (behind (marks_pending r.below) (mark_of x) _ _ (before (marks_pending r.above) (mark_of x) _ _ i))) in
    subst (λ ps. IsInserted (mark_of x) (marks_pending ps) (marks_pending new)) (sym r.was)
    (subst (λ ps. IsInserted (mark_of x) (marks_pending (r.below ++ p ∷ r.above)) (marks_pending ps)) (sym r.now) whole)
