-- Marks of different failures: one more, and a later count.
--
-- All old marks end at the old count or before, and a new one begins there or after it. So no count is in an old
-- stretch and in the new one, wherever in the list the new one is put.
use Rattle.std.proofs.Common.{◌≡◌, ◌<◌, ◌≤◌, ◌⊎◌, inl, inr, ℕ, zero, suc, ◌+◌, ◌-◌, ◌^◌, Bool, true, false, leb, ltb, ◌&&◌, cond, List, [], ◌∷◌, ◌++◌, get_or, refl, sym, ap, ap₂, subst, ◌∙◌, append-nil, arith}
use Rattle.std.specs.List.{All}
use Rattle.std.proofs.lemmas.List.Sums.{sum_by-append}
use Rattle.std.proofs.lemmas.List.Elements.{All-append, All-push}
use Rattle.std.proofs.lemmas.Bool.Decides.{leb_tells}
use Rattle.vc_base.specs.Faults.{Rose}
use Rattle.sector_model.specs.Marks.{AreMarks, covering, IsMark, marks_in, marks_of}
use Rattle.sector_model.proofs.OneMore.{marks_in-push}
use Rattle.sector_model.specs.declared.entry.Entry.{Entry}
use Rattle.sector_model.specs.declared.entry.FaultMark.{FaultMark}

abbrev pub fault_mark : ℕ → ℕ → FaultMark
fault_mark before after = record { before = before; after = after }

-- a failed call gives a mark
pub mark_of_failure : (before now : ℕ) → before ≤ now → now < 2 ^ 64 → Rose before now
    → IsMark before now (fault_mark before now)
mark_of_failure before now later fits rose = record { from = omega arith; to = omega arith; rises = rises before now later fits rose }
  where
    rises : (b n : ℕ) → b ≤ n → n < 2 ^ 64 → Rose b n → (b < n) ⊎ ((b ≡ 2 ^ 64 - 1) × (n ≡ 2 ^ 64 - 1))
    rises b n later fits rose = elim (leb_tells (suc b) n) [
      | inl (yes_, less) ↦ inl less
      | inr (no_, not_less) ↦ inr (omega arith, omega arith)
    ]

-- the mark that the code makes, from the counts that it asked for
pub mark_of_call : (before now b n : ℕ) → b ≡ before → n ≡ now → before ≤ now → now < 2 ^ 64 → Rose before now
    → IsMark before now (fault_mark b n)
mark_of_call before now b n is_before is_now later fits rose =
    subst (IsMark before now) (ap₂ fault_mark (sym is_before) (sym is_now)) (mark_of_failure before now later fits rose)

-- a range of counts that is wider
pub wider : (a b c d : ℕ) (m : FaultMark) → c ≤ a → b ≤ d → IsMark a b m → IsMark c d m
wider a b c d m low high mark = record { from = omega (arith, mark.from); to = omega (arith, mark.to); rises = mark.rises }

pub all_wider : (a b d : ℕ) (ms : List FaultMark) → b ≤ d → All (IsMark a b) ms → All (IsMark a d) ms
all_wider a b d ms high each k x within = wider a b a d (get_or ms k x) (omega arith) high (each k x within)

-- the count t isn't in a stretch that ends before it, and not in one that begins after it
stretch_over : (t : ℕ) (m : FaultMark) → m.after ≤ t → covering t (m ∷ []) ≡ 0
stretch_over t m over = elim (leb_tells (suc t) m.after) [
  | inl (yes_, less) ↦ absurd (omega arith)
  | inr (no_, more) ↦ go (leb m.before t) (ltb t m.after) no_
]
  where
    go : (x y : Bool) → y ≡ false → 0 + cond (x && y) 1 0 ≡ 0
    go x true e = cc
    go true false e = refl
    go false false e = refl

pub none_over : (t : ℕ) (ms : List FaultMark) → All (λ m. m.after ≤ t) ms → covering t ms ≡ 0
none_over t [] each = refl
none_over t (m ∷ ms) each =
    sum_by-append (λ (x : FaultMark). cond (leb x.before t && ltb t x.after) 1 0) (m ∷ []) ms
    ∙ omega (arith, stretch_over t m (each 0 m (omega arith)), none_over t ms (λ k x within. each (suc k) x (omega arith)))

pub covering-append : (t : ℕ) (xs ys : List FaultMark) → covering t (xs ++ ys) ≡ covering t xs + covering t ys
covering-append t xs ys = sum_by-append (λ (x : FaultMark). cond (leb x.before t && ltb t x.after) 1 0) xs ys

one_at_most : (t : ℕ) (m : FaultMark) → covering t (m ∷ []) ≤ 1
one_at_most t m = go (leb m.before t && ltb t m.after)
  where
    go : (b : Bool) → 0 + cond b 1 0 ≤ 1
    go true = omega arith
    go false = omega arith

before_it : (t : ℕ) (m : FaultMark) → t < m.before → covering t (m ∷ []) ≡ 0
before_it t m before = elim (leb_tells m.before t) [
  | inl (yes_, from) ↦ absurd (omega arith)
  | inr (no_, more) ↦ go (leb m.before t) (ltb t m.after) no_
]
  where
    go : (x y : Bool) → x ≡ false → 0 + cond (x && y) 1 0 ≡ 0
    go true y e = cc
    go false y e = refl

-- the same marks at a later count
pub marks_later : (a b c : ℕ) (ms : List FaultMark) → b ≤ c → AreMarks a b ms → AreMarks a c ms
marks_later a b c ms later marks = record { each = all_wider a b c ms later marks.each; apart = marks.apart }

pub all_left : {X : Type 0} (P : X → Type 0) (xs ys : List X) → All P (xs ++ ys) → All P xs
all_left P [] ys each k d within = absurd (omega arith)
all_left P (x ∷ xs) ys each zero d within = each zero d (omega arith)
all_left P (x ∷ xs) ys each (suc k) d within = all_left P xs ys (λ j e below. each (suc j) e (omega arith)) k d (omega arith)

pub all_right : {X : Type 0} (P : X → Type 0) (xs ys : List X) → All P (xs ++ ys) → All P ys
all_right P [] ys each = each
all_right P (x ∷ xs) ys each = all_right P xs ys (λ j e below. each (suc j) e (omega arith))

-- one more mark, between the others
pub one_more_mark : (a b c : ℕ) (m : FaultMark) (xs ys : List FaultMark) → a ≤ b → b ≤ c → IsMark b c m
    → AreMarks a b (xs ++ ys) → AreMarks a c ((xs ++ m ∷ []) ++ ys)
one_more_mark a b c m xs ys low high mark marks = record {
  each = All-append (IsMark a c) (xs ++ m ∷ []) ys
      (All-push (IsMark a c) xs m (all_left (IsMark a c) xs ys (all_wider a b c (xs ++ ys) high marks.each)) (wider b c a c m low (omega arith) mark))
      (all_right (IsMark a c) xs ys (all_wider a b c (xs ++ ys) high marks.each));
  apart = λ t. elim (leb_tells m.before t) [
    | inl (yes_, from) ↦
        omega (
          arith,
          covering-append t (xs ++ m ∷ []) ys,
          covering-append t xs (m ∷ []),
          covering-append t xs ys,
          one_at_most t m,
          none_over t (xs ++ ys) (λ k d within. omega (arith, (marks.each k d within).to, mark.from)),
        )
    | inr (no_, before) ↦
        omega (arith, covering-append t (xs ++ m ∷ []) ys, covering-append t xs (m ∷ []), covering-append t xs ys, before_it t m before, marks.apart t)
  ];
}

-- the history's marks with an entry that has none, and with one that has one
pub marks_quiet : (a b c : ℕ) (h : List Entry) (e : Entry) (ms : List FaultMark) → marks_of e.event ≡ [] → b ≤ c
    → AreMarks a b (marks_in h ++ ms) → AreMarks a c (marks_in (h ++ e ∷ []) ++ ms)
marks_quiet a b c h e ms none later marks =
    subst (λ (l : List FaultMark). AreMarks a c (l ++ ms))
    (sym (marks_in-push h e ∙ ap (λ (l : List FaultMark). marks_in h ++ l) none ∙ append-nil (marks_in h)))
    (marks_later a b c (marks_in h ++ ms) later marks)

pub marks_failed : (a b c : ℕ) (h : List Entry) (e : Entry) (m : FaultMark) (ms : List FaultMark) → marks_of e.event ≡ m ∷ []
    → a ≤ b → b ≤ c → IsMark b c m → AreMarks a b (marks_in h ++ ms) → AreMarks a c (marks_in (h ++ e ∷ []) ++ ms)
marks_failed a b c h e m ms one low later mark marks =
    subst (λ (l : List FaultMark). AreMarks a c (l ++ ms))
    (sym (marks_in-push h e ∙ ap (λ (l : List FaultMark). marks_in h ++ l) one))
    (one_more_mark a b c m (marks_in h) ms low later mark marks)
