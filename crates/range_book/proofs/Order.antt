-- Ranges that are apart rise in their first numbers and in their ends. They stay apart with a range that meets none
-- of them, if it is put where the ranges that end before it are over, and without any of them.
use Rattle.std.proofs.Common.{◌≡◌, ℕ, ◌+◌, ◌^◌, ◌<◌, ◌≤◌, List, length, get_or, take, drop, ◌∷◌, ◌++◌, suc, max, ap, sym, ◌∙◌, refl, add-one, take-append-drop, inl, inr, arith}
use Rattle.std.proofs.Math.Nat.{eq-or-lt_of_le}
use Rattle.std.proofs.lemmas.Bool.{cases_lt}
use Rattle.std.proofs.lemmas.List.{drop_more}
use Rattle.std.proofs.lemmas.List.Elements.{All-append, All-cons, All-take, All-drop}
use Rattle.std.proofs.lemmas.List.Quantifiers.{all_pairs_remove}
use Rattle.std.specs.List.{All, AllWithin, insert, remove}
use Rattle.std.specs.List.Sorted.{IsNonDecreasingBy}
use Rattle.range_book.specs.declared.reserved.Reserved.{Reserved}
use Rattle.range_book.specs.Book.{AreApart, HasName, IsAdded, Meets}
use Rattle.range_book.proofs.Pairs.{all_pairs_insert}

pub ends_rise : (rs : List Reserved) → AreApart rs → IsNonDecreasingBy (λ r. r.first + r.count) rs
ends_rise rs apart i j d le within =
    elim (eq-or-lt_of_le le) [
      | inl same ↦ let e = ap (λ (k : ℕ). (get_or rs k d).first + (get_or rs k d).count) same in omega (arith, e)
      | inr lt ↦ omega (arith, apart.in_order i j d lt within)
    ]

pub firsts_rise : (rs : List Reserved) → AreApart rs → IsNonDecreasingBy (λ r. r.first) rs
firsts_rise rs apart i j d le within =
    elim (eq-or-lt_of_le le) [
      | inl same ↦ let e = ap (λ (k : ℕ). (get_or rs k d).first) same in omega (arith, e)
      | inr lt ↦ omega (arith, apart.in_order i j d lt within)
    ]

-- a range that goes on past the start of the other meets it, unless it begins past the other's end
begins_past : (r other : Reserved) → 1 ≤ r.count → 1 ≤ other.count → r.first < other.first + other.count
    → (Meets r.first r.count other → ⊥) → r.first + r.count ≤ other.first
begins_past r other some others going misses =
    elim (cases_lt other.first (r.first + r.count)) [
      | inl lt ↦ absurd (misses (record {
        common = max r.first other.first;
        in_first = record { from = omega arith; below = omega arith };
        in_other = record { from = omega arith; below = omega arith };
      }))
      | inr le ↦ le
    ]

all_insert : (P : Reserved → Type 0) (rs : List Reserved) (i : ℕ) (r : Reserved) → All P rs → P r → All P (insert rs i r)
all_insert P rs i r all this =
    All-append P (take i rs) (r ∷ drop i rs) (All-take P i rs all) (All-cons P r (drop i rs) this (All-drop P i rs all))

all_remove : (P : Reserved → Type 0) (rs : List Reserved) (i : ℕ) → All P rs → All P (remove rs i)
all_remove P rs i all = All-append P (take i rs) (drop (suc i) rs) (All-take P i rs all) (All-drop P (suc i) rs all)

pub apart_with : (rs : List Reserved) (i : ℕ) (r : Reserved) → AreApart rs → i ≤ length rs
    → AllWithin (λ other. other.first + other.count ≤ r.first) rs 0 i
    → AllWithin (λ other. r.first < other.first + other.count) rs i (length rs)
    → All (λ other. Meets r.first r.count other → ⊥) rs → 1 ≤ r.count → r.first + r.count ≤ 2 ^ 55
    → All (λ other. HasName r.caller r.number other → ⊥) rs → AreApart (insert rs i r)
apart_with rs i r apart le over going free some within fresh = record {
  in_order = all_pairs_insert (λ a b. a.first + a.count ≤ b.first) rs i r apart.in_order le
      (λ k d below. over k d (omega arith) below)
      (λ k d from inside. begins_past r (get_or rs k d) some (apart.some k d inside) (going k d from inside) (free k d inside));
  some = all_insert (λ a. 1 ≤ a.count) rs i r apart.some some;
  within = all_insert (λ a. a.first + a.count ≤ 2 ^ 55) rs i r apart.within within;
  names_differ = all_pairs_insert (λ a b. HasName a.caller a.number b → ⊥) rs i r apart.names_differ le
      (λ k d below named. fresh k d (omega arith) (sym named.0, sym named.1))
      (λ k d from inside named. fresh k d inside named);
}

pub apart_without : (rs : List Reserved) (i : ℕ) → i < length rs → AreApart rs → AreApart (remove rs i)
apart_without rs i lt apart = record {
  in_order = all_pairs_remove (λ a b. a.first + a.count ≤ b.first) rs i lt apart.in_order;
  some = all_remove (λ a. 1 ≤ a.count) rs i apart.some;
  within = all_remove (λ a. a.first + a.count ≤ 2 ^ 55) rs i apart.within;
  names_differ = all_pairs_remove (λ a b. HasName a.caller a.number b → ⊥) rs i lt apart.names_differ;
}

-- a list is the list without its element at i, and that element
pub added_back : (rs : List Reserved) (i : ℕ) (r : Reserved) → i < length rs → r ≡ get_or rs i r
    → IsAdded r (remove rs i) rs
added_back rs i r lt is = record {
  below = take i rs;
  above = drop (suc i) rs;
  without = refl;
  with_it = sym (take-append-drop i rs) ∙ ap (λ t. take i rs ++ t)
      (drop_more rs i r lt ∙ ap (λ n. get_or rs i r ∷ drop n rs) (add-one i) ∙ ap (λ x. x ∷ drop (suc i) rs) (sym is));
}
