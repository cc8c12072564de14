-- A loop that writes a list piece by piece, from the front, leaves `in_pieces`.
--
-- After q pieces the prefix is what the pieces became, and the rest is as it was: `Done`. That starts at
-- q = 0, goes on by one write to the piece at n * q, and at the last piece it is `in_pieces`.
use Rattle.std.proofs.Common.{◌≡◌, ℕ, ◌+◌, ◌*◌, ◌/◌, ◌%◌, ◌<◌, ◌≤◌, List, ◌++◌, length, take, drop, refl, sym, ap, ap₂, subst, ◌∙◌, arith}
use Rattle.std.proofs.lemmas.Slice.{take-put_mid, drop-put_mid}
use Rattle.std.proofs.lemmas.List.{take_all, drop-drop, places}
use borrow.Rule.Slice.PartMut.{put_mid}
use Rattle.vc_base.specs.Bytes.{piece, joined, in_pieces}
use Rattle.vc_base.proofs.Pieces.{joined_none, joined_more}

-- the first q pieces of n elements of old have become what f makes of them, and now is the whole list
pub record Done {X : Type 0} (n q : ℕ) (f : ℕ → List X → List X) (old now : List X) : Type 0 where
  pub long : length now ≡ length old
  pub front : take (n * q) now ≡ joined (λ j. f j (piece n j old)) q
  pub rest : drop (n * q) now ≡ drop (n * q) old

pub starts : {X : Type 0} (n q : ℕ) (f : ℕ → List X → List X) (old : List X) → q ≡ 0 → Done n q f old old
starts n q f old e =
    let none : n * 0 ≡ 0 = omega arith in
    subst (λ i. Done n i f old old) (sym e)
    (record { long = refl; front = ap (λ i. take i old) none ∙ sym (joined_none (λ j. f j (piece n j old))); rest = refl })

pub length-put_mid : {X : Type 0} (a k : ℕ) (now new : List X) → a + k ≤ length now → length new ≡ k
    → length (put_mid a k now new) ≡ length now
length-put_mid a k now new within long = search (arith, places)

pub goes_on : {X : Type 0} (n q a k : ℕ) (f : ℕ → List X → List X) (old now new : List X)
    → Done n q f old now → a ≡ n * q → k ≡ n → n * (q + 1) ≤ length old
    → new ≡ f q (take k (drop a now)) → length new ≡ n → Done n (q + 1) f old (put_mid a k now new)
goes_on n q a k f old now new d ea ek within e long =
    let step : n * (q + 1) ≡ a + n = omega arith in
    let step' : n * (q + 1) ≡ n * q + n = omega arith in
    let same : drop a now ≡ drop (n * q) old = subst (λ i. drop i now ≡ drop (n * q) old) (sym ea) d.rest in
    let here : new ≡ f q (piece n q old) = e ∙ ap₂ (λ i xs. f q (take i xs)) ek same in
    let long_now = d.long in
    record {
      long = length-put_mid a k now new (omega arith) (long ∙ sym ek) ∙ d.long;
      front = take-put_mid a k now new (n * (q + 1)) (omega arith) (omega arith)
          ∙ ap₂ ◌++◌ (subst (λ i. take i now ≡ joined (λ j. f j (piece n j old)) q) (sym ea) d.front) here
          ∙ sym (joined_more (λ j. f j (piece n j old)) q);
      rest = drop-put_mid a k now new (n * (q + 1)) (omega arith) (omega arith) (long ∙ sym ek)
          ∙ ap (λ i. drop i now) step'
          ∙ sym (drop-drop n (n * q) now) ∙ ap (drop n) d.rest ∙ drop-drop n (n * q) old
          ∙ ap (λ i. drop i old) (sym step');
    }

pub ends : {X : Type 0} (n q : ℕ) (f : ℕ → List X → List X) (old now : List X)
    → Done n q f old now → 0 < n → length old / n ≤ q → q ≤ length old / n → length old % n ≡ 0
    → now ≡ in_pieces n f old
ends n q f old now d positive past within whole =
    let last : q ≡ length old / n = omega arith in
    let all : length now ≤ n * q = let l = d.long in let at_end = ap (λ i. n * i) last in omega arith in
    sym (take_all (n * q) now all) ∙ d.front ∙ ap (joined (λ j. f j (piece n j old))) last

-- ---- a list that is filled from its start, whatever it held

pub record Filled {X : Type 0} (n q : ℕ) (f : ℕ → List X) (now : List X) : Type 0 where
  pub front : take (n * q) now ≡ joined f q

pub filled_none : {X : Type 0} (n q : ℕ) (f : ℕ → List X) (now : List X) → q ≡ 0 → Filled n q f now
filled_none n q f now e =
    let none : n * 0 ≡ 0 = omega arith in
    subst (λ i. Filled n i f now) (sym e) (record { front = ap (λ i. take i now) none ∙ sym (joined_none f) })

pub filled_more : {X : Type 0} (n q a k : ℕ) (f : ℕ → List X) (now new : List X)
    → Filled n q f now → a ≡ n * q → k ≡ n → n * (q + 1) ≤ length now → new ≡ f q → length new ≡ n
    → Filled n (q + 1) f (put_mid a k now new)
filled_more n q a k f now new d ea ek within e long =
    let step : n * (q + 1) ≡ a + n = omega arith in
    record {
      front = take-put_mid a k now new (n * (q + 1)) (omega arith) (omega arith)
          ∙ ap₂ ◌++◌ (subst (λ i. take i now ≡ joined f q) (sym ea) d.front) e
          ∙ sym (joined_more f q);
    }

pub filled_front : {X : Type 0} (n q k : ℕ) (f : ℕ → List X) (now : List X) → Filled n q f now → k ≡ q
    → take (n * k) now ≡ joined f k
filled_front n q k f now d e = subst (λ i. take (n * i) now ≡ joined f i) (sym e) d.front

pub filled_all : {X : Type 0} (n q k : ℕ) (f : ℕ → List X) (now : List X) → Filled n q f now → k ≡ q → length now ≡ n * k
    → now ≡ joined f k
filled_all n q k f now d e long =
    let last : length now ≤ n * q = subst (λ i. length now ≤ n * i) e (omega arith) in
    sym (take_all (n * q) now last) ∙ d.front ∙ ap (joined f) (sym e)
