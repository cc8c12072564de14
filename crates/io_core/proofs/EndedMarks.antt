-- A close ends a write: its name and its marks leave what is pending.
use Rattle.std.proofs.Common.{◌≡◌, ◌≤◌, ◌<◌, ◌≢◌, inl, inr, ℕ, zero, suc, ◌+◌, Bool, true, false, ◌&&◌, eqb, cond, List, [], ◌∷◌, ◌++◌, Some, get_or, length, refl, sym, ap, ◌∙◌, arith}
use Rattle.std.specs.Prelude.{map, slice_get}
use Rattle.std.specs.List.{All, AllPairs, Any}
use Rattle.std.proofs.lemmas.Bool.Decides.{eqb_tells}
use Rattle.std.proofs.lemmas.List.Elements.{All-append}
use Rattle.sector_model.specs.History.{has_name, HasName, without, Write}
use Rattle.sector_model.specs.Marks.{AreMarks, IsMark}
use Rattle.sector_model.specs.declared.entry.FaultMark.{FaultMark}
use Rattle.io_core.specs.Closings.{IsEndOf, spoilt_from}
use Rattle.io_core.specs.Fragments.{IsWaiting}
use Rattle.io_core.specs.Laws.StateOf.{answer_to, before_others, state_of}
use Rattle.io_core.specs.Sound.{mark_of, marks_of_parts}
use Rattle.io_core.specs.declared.part.PartState.{PartState}
use Rattle.io_core.specs.declared.part.PartState.TheVariants.{Waiting, Stored, Spoilt}
use Rattle.io_core.specs.declared.prepared.Prepared.{Prepared}
use Rattle.io_core.proofs.OneMoreMark.{all_left, all_right, covering-append}

pub is_named : (caller number : ℕ) (w : Write) → HasName caller number w → has_name caller number w ≡ true
is_named caller number w named = go (eqb w.caller caller) (eqb w.number number) (elim (eqb_tells w.caller caller) [
  | inl (t, e) ↦ t
  | inr (f, no_) ↦ absurd (no_ named.0)
]) (elim (eqb_tells w.number number) [
  | inl (t, e) ↦ t
  | inr (f, no_) ↦ absurd (no_ named.1)
])
  where
    go : (x y : Bool) → x ≡ true → y ≡ true → (x && y) ≡ true
    go true y p q = q
    go false y p q = p

pub not_named : (caller number : ℕ) (w : Write) → ¬ HasName caller number w → has_name caller number w ≡ false
not_named caller number w other = elim (eqb_tells w.caller caller) [
  | inr (f, no_) ↦ first (eqb w.caller caller) (eqb w.number number) f
  | inl (t, e) ↦ elim (eqb_tells w.number number) [
    | inr (f, no_) ↦ second (eqb w.caller caller) (eqb w.number number) f
    | inl (u, d) ↦ absurd (other (e, d))
  ]
]
  where
    first : (x y : Bool) → x ≡ false → (x && y) ≡ false
    first true y p = cc
    first false y p = refl

    second : (x y : Bool) → y ≡ false → (x && y) ≡ false
    second true y p = p
    second false y p = refl

pub without_split : (caller number : ℕ) (xs ys : List Write) (w : Write) → All (λ x. ¬ HasName caller number x) xs → HasName caller number w
    → without caller number (xs ++ w ∷ ys) ≡ xs ++ ys
without_split caller number [] ys w none named =
    ap (λ (b : Bool). cond b ys (w ∷ without caller number ys)) (is_named caller number w named)
without_split caller number (x ∷ xs) ys w none named =
    ap (λ (b : Bool). cond b (xs ++ w ∷ ys) (x ∷ without caller number (xs ++ w ∷ ys))) (not_named caller number x (none 0 x (omega arith)))
    ∙ ap (λ l. x ∷ l) (without_split caller number xs ys w (λ k d within. none (suc k) d (omega arith)) named)

-- the same marks, with some of them moved
pub marks_moved : (a b : ℕ) (x y z w : List FaultMark) → AreMarks a b (x ++ (y ++ (z ++ w))) → AreMarks a b ((x ++ z) ++ (y ++ w))
marks_moved a b x y z w marks = record {
  each = All-append (IsMark a b) (x ++ z) (y ++ w)
      (All-append (IsMark a b) x z (all_left (IsMark a b) x (y ++ (z ++ w)) marks.each)
      (all_left (IsMark a b) z w (all_right (IsMark a b) y (z ++ w) (all_right (IsMark a b) x (y ++ (z ++ w)) marks.each))))
      (All-append (IsMark a b) y w (all_left (IsMark a b) y (z ++ w) (all_right (IsMark a b) x (y ++ (z ++ w)) marks.each))
      (all_right (IsMark a b) z w (all_right (IsMark a b) y (z ++ w) (all_right (IsMark a b) x (y ++ (z ++ w)) marks.each))));
  apart = λ t. omega (
    arith,
    marks.apart t,
    covering-append t x (y ++ (z ++ w)),
    covering-append t y (z ++ w),
    covering-append t z w,
    covering-append t (x ++ z) (y ++ w),
    covering-append t x z,
    covering-append t y w,
  );
}

-- what the states come to
pub one_by_one : (a b c : PartState) → before_others (before_others a b) c ≡ before_others a (before_others b c)
one_by_one Waiting b c = refl
one_by_one Stored b c = refl
one_by_one (Spoilt m) Waiting c = refl
one_by_one (Spoilt m) Stored c = refl
one_by_one (Spoilt m) (Spoilt n) Waiting = refl
one_by_one (Spoilt m) (Spoilt n) Stored = refl
one_by_one (Spoilt m) (Spoilt n) (Spoilt o) = refl

pub then_none : (a : PartState) → before_others a Stored ≡ a
then_none Waiting = refl
then_none Stored = refl
then_none (Spoilt m) = refl

none_waits : (x others : PartState) → before_others x others ≢ Waiting → (x ≢ Waiting) × (others ≢ Waiting)
none_waits Waiting others none = absurd (none refl)
none_waits Stored others none = ((λ e. cc), none)
none_waits (Spoilt m) Waiting none = absurd (none refl)
none_waits (Spoilt m) Stored none = ((λ e. cc), (λ e. cc))
none_waits (Spoilt m) (Spoilt n) none = ((λ e. cc), (λ e. cc))

all_stored : (x others : PartState) → before_others x others ≡ Stored → (x ≡ Stored) × (others ≡ Stored)
all_stored Waiting others is = cc
all_stored Stored others is = (refl, is)
all_stored (Spoilt m) Waiting is = cc
all_stored (Spoilt m) Stored is = cc
all_stored (Spoilt m) (Spoilt n) is = cc

pub stored_at : (xs : List PartState) → state_of xs ≡ Stored → (k : ℕ) → k < length xs → slice_get xs k ≡ Some Stored
stored_at [] is k within = absurd (omega arith)
stored_at (x ∷ xs) is zero within = ap Some ((all_stored x (state_of xs) is).0)
stored_at (x ∷ xs) is (suc k) within = stored_at xs (all_stored x (state_of xs) is).1 k (omega arith)

pub no_marks : (xs : List PartState) → state_of xs ≡ Stored → marks_of_parts xs ≡ []
no_marks [] is = refl
no_marks (x ∷ xs) is =
    ap (λ (y : PartState). mark_of y ++ marks_of_parts xs) ((all_stored x (state_of xs) is).0) ∙ no_marks xs (all_stored x (state_of xs) is).1

pub spoilt_marks : (k : ℕ) (xs : List PartState) → map (λ (f : ℕ × FaultMark). f.1) (spoilt_from k xs) ≡ marks_of_parts xs
spoilt_marks k [] = refl
spoilt_marks k (Waiting ∷ xs) = spoilt_marks (suc k) xs
spoilt_marks k (Stored ∷ xs) = spoilt_marks (suc k) xs
spoilt_marks k (Spoilt m ∷ xs) = ap (λ l. m ∷ l) (spoilt_marks (suc k) xs)

-- a fragment that didn't fail was stored, if none waits
pub stored_or_listed : (k : ℕ) (xs : List PartState) → state_of xs ≢ Waiting → (i : ℕ) → i < length xs
    → ¬ Any (λ (f : ℕ × FaultMark). f.0 ≡ k + i) (spoilt_from k xs) → slice_get xs i ≡ Some Stored
stored_or_listed k [] none i within other = absurd (omega arith)
stored_or_listed k (Waiting ∷ xs) none i within other = absurd (none refl)
stored_or_listed k (Stored ∷ xs) none zero within other = refl
stored_or_listed k (Stored ∷ xs) none (suc i) within other =
    stored_or_listed (suc k) xs none i (omega arith) (λ a. other (a.0, a.1, a.2, a.3, a.4 ∙ omega arith))
stored_or_listed k (Spoilt m ∷ xs) none zero within other = absurd (other (0, (k, m), omega arith, refl, omega arith))
stored_or_listed k (Spoilt m ∷ xs) none (suc i) within other =
    stored_or_listed (suc k) xs (none_waits (Spoilt m) (state_of xs) none).1 i (omega arith)
    (λ a. other (suc a.0, a.1, omega (arith, a.2), a.3, a.4 ∙ omega arith))

-- the failed fragments are listed by rising indices, each of them one of the fragments
pub spoilt_within : (k : ℕ) (xs : List PartState) → All (λ (f : ℕ × FaultMark). (k ≤ f.0) × (f.0 < k + length xs)) (spoilt_from k xs)
spoilt_within k [] i d within = absurd (omega arith)
spoilt_within k (Waiting ∷ xs) i d within = let r = spoilt_within (suc k) xs i d within in (omega (arith, r.0), omega (arith, r.1))
spoilt_within k (Stored ∷ xs) i d within = let r = spoilt_within (suc k) xs i d within in (omega (arith, r.0), omega (arith, r.1))
spoilt_within k (Spoilt m ∷ xs) zero d within = (omega arith, omega arith)
spoilt_within k (Spoilt m ∷ xs) (suc i) d within =
    let r = spoilt_within (suc k) xs i d (omega arith) in (omega (arith, r.0), omega (arith, r.1))

pub spoilt_rising : (k : ℕ) (xs : List PartState) → AllPairs (λ (f g : ℕ × FaultMark). f.0 < g.0) (spoilt_from k xs)
spoilt_rising k [] i j d less within = absurd (omega arith)
spoilt_rising k (Waiting ∷ xs) i j d less within = spoilt_rising (suc k) xs i j d less within
spoilt_rising k (Stored ∷ xs) i j d less within = spoilt_rising (suc k) xs i j d less within
spoilt_rising k (Spoilt m ∷ xs) i zero d less within = absurd (omega arith)
spoilt_rising k (Spoilt m ∷ xs) zero (suc j) d less within = omega (arith, (spoilt_within (suc k) xs j d (omega arith)).0)
spoilt_rising k (Spoilt m ∷ xs) (suc i) (suc j) d less within = spoilt_rising (suc k) xs i j d (omega arith) (omega arith)

pub some_spoilt : (k : ℕ) (xs : List PartState) (m : FaultMark) → state_of xs ≡ Spoilt m → 0 < length (spoilt_from k xs)
some_spoilt k [] m is = cc
some_spoilt k (Waiting ∷ xs) m is = cc
some_spoilt k (Stored ∷ xs) m is = some_spoilt (suc k) xs m is
some_spoilt k (Spoilt n ∷ xs) m is = omega arith

-- How the write ends, by what its fragments come to.
some_waits : (xs : List PartState) → state_of xs ≡ Waiting → Any IsWaiting xs
some_waits [] is = cc
some_waits (Waiting ∷ xs) is = (0, Waiting, omega arith, refl, refl)
some_waits (Stored ∷ xs) is = let a = some_waits xs is in (suc a.0, a.1, omega (arith, a.2), a.3, a.4)
some_waits (Spoilt m ∷ xs) is = let a = some_waits xs (then_waits (state_of xs) is) in (suc a.0, a.1, omega (arith, a.2), a.3, a.4)
  where
    then_waits : (x : PartState) → before_others (Spoilt m) x ≡ Waiting → x ≡ Waiting
    then_waits Waiting d = refl
    then_waits Stored d = cc
    then_waits (Spoilt n) d = cc

none_waits_at : (xs : List PartState) → state_of xs ≢ Waiting → (k : ℕ) (d : PartState) → k < length xs → get_or xs k d ≢ Waiting
none_waits_at [] none k d within = absurd (omega (arith, within))
none_waits_at (x ∷ xs) none zero d within = (none_waits x (state_of xs) none).0
none_waits_at (x ∷ xs) none (suc k) d within = none_waits_at xs (none_waits x (state_of xs) none).1 k d (omega arith)

each_stored : (xs : List PartState) → state_of xs ≡ Stored → All (λ x. x ≡ Stored) xs
each_stored [] is k d within = absurd (omega (arith, within))
each_stored (x ∷ xs) is zero d within = (all_stored x (state_of xs) is).0
each_stored (x ∷ xs) is (suc k) d within = each_stored xs (all_stored x (state_of xs) is).1 k d (omega arith)

-- the first failure is the first in the list of them
first_spoilt : (k : ℕ) (xs : List PartState) (m : FaultMark) → state_of xs ≡ Spoilt m
    → (j : ℕ) × (others : List (ℕ × FaultMark)) × (spoilt_from k xs ≡ (j, m) ∷ others)
first_spoilt k [] m is = cc
first_spoilt k (Waiting ∷ xs) m is = cc
first_spoilt k (Stored ∷ xs) m is = first_spoilt (suc k) xs m is
first_spoilt k (Spoilt a ∷ xs) m is =
    (k, spoilt_from (suc k) xs, ap (λ (y : FaultMark). (k, y) ∷ spoilt_from (suc k) xs) (same (state_of xs) is))
  where
    same : (x : PartState) → before_others (Spoilt a) x ≡ Spoilt m → a ≡ m
    same Waiting d = cc
    same Stored d = cc
    same (Spoilt b) d = cc

pub end_by_state : (w : Prepared) (x : PartState) → state_of w.parts.items ≡ x → IsEndOf w (answer_to x w)
end_by_state w Waiting is = some_waits w.parts.items is
end_by_state w Stored is = (refl, each_stored w.parts.items is)
end_by_state w (Spoilt m) is =
    let f = first_spoilt 0 w.parts.items m is in
    ((λ a. none_waits_at w.parts.items (λ e. let never : Spoilt m ≡ Waiting = sym is ∙ e in cc) a.0 a.1 a.2 (a.3 ∙ a.4)), f.0, f.1, f.2)
