-- Of ranges that are apart let the first i end at `first` or before, and the others go on past it. Then none of the
-- first i has one of count numbers from `first` on. If a later range has one, so has the range at place i, which
-- begins no later and goes on past `first` too. So the range at place i is the first to meet them, or none does.
use Rattle.std.proofs.Common.{◌≡◌, ℕ, ◌+◌, ◌<◌, ◌≤◌, List, length, get_or, max, ap, sym, subst, inl, inr, arith}
use Rattle.std.proofs.lemmas.Bool.{cases_lt}
use Rattle.std.proofs.lemmas.List.{get_or_default, get_or_read}
use Rattle.std.specs.List.{All, AllWithin}
use Rattle.range_book.specs.declared.reserved.Reserved.{Reserved}
use Rattle.range_book.specs.Book.{AreApart, IsFirstToMeet, Meets}
use Rattle.range_book.proofs.Order.{firsts_rise}

over_misses : (r : Reserved) (first count : ℕ) → r.first + r.count ≤ first → Meets first count r → ⊥
over_misses r first count over met = omega arith

earlier_meets : (r later : Reserved) (first count : ℕ) → 1 ≤ r.count → first < r.first + r.count → r.first ≤ later.first
    → Meets first count later → Meets first count r
earlier_meets r later first count some going order met = record {
  common = max first r.first;
  in_first = record { from = omega arith; below = omega arith };
  in_other = record { from = omega arith; below = omega arith };
}

pub none_meets : (rs : List Reserved) (i first count : ℕ) (r : Reserved) → AreApart rs
    → AllWithin (λ other. other.first + other.count ≤ first) rs 0 i
    → AllWithin (λ other. first < other.first + other.count) rs i (length rs)
    → i < length rs → r ≡ get_or rs i r → (Meets first count r → ⊥)
    → All (λ other. Meets first count other → ⊥) rs
none_meets rs i first count r apart over going inside is misses k d within met =
    elim (cases_lt k i) [
      | inl below ↦ over_misses (get_or rs k d) first count (over k d (omega arith) below) met
      | inr from ↦ let earlier = earlier_meets (get_or rs i r) (get_or rs k r) first count (apart.some i r inside)
          (going i r (omega arith) inside) (firsts_rise rs apart i k r from within)
          (subst (Meets first count) (get_or_default rs k d r within) met) in
          misses (subst (Meets first count) (sym is) earlier)
    ]

pub first_meets : (rs : List Reserved) (i first count : ℕ) (r : Reserved) → AreApart rs
    → AllWithin (λ other. other.first + other.count ≤ first) rs 0 i → i < length rs → r ≡ get_or rs i r → Meets first count r
    → IsFirstToMeet first count rs r
first_meets rs i first count r apart over inside is met = record {
  reserved = (i, inside, sym is);
  meets = met;
  lowest = λ k d within other. elim (cases_lt k i) [
    | inl below ↦ absurd (over_misses (get_or rs k d) first count (over k d (omega arith) below) other)
    | inr from ↦ let same = ap (λ (x : Reserved). x.first) (get_or_read rs i r inside is d) in
        omega (arith, same, firsts_rise rs apart i k d from within)
  ];
}
