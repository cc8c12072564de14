-- What a write and a change of the length do to a list.
use Rattle.std.proofs.Common.{◌≡◌, ℕ, ◌+◌, ◌-◌, ◌≤◌, List, ◌++◌, length, take, drop, replicate, refl, sym, ◌∙◌, ap, inr, arith, append_assoc, length-append, length-take, length-drop, take-append-drop}
use Rattle.std.specs.Prelude.{slice_range}
use Rattle.std.proofs.lemmas.List.{take_at, drop_at, drop-drop, length-take-le, length-replicate, same_lists, places}
use Rattle.vc_outside.specs.Told.{written, resized, SameOutside}
use Rattle.vc_outside.specs.Crash.{Relength}

-- a write changes only its range
pub written-outside : (at : ℕ) (xs b : List ℕ) → at + length xs ≤ length b → SameOutside at (length xs) b (written at xs b)
written-outside at xs b le = record {
  as_long = grind (arith, length-append (take at b) (xs ++ drop (at + length xs) b), length-append xs (drop (at + length xs) b), length-take at b, length-drop (at + length xs) b);
  before = take_at (take at b) (xs ++ drop (at + length xs) b) at (length-take-le at b (omega arith));
  after = ap (drop (at + length xs)) (sym (append_assoc (take at b) xs (drop (at + length xs) b)))
      ∙ drop_at (take at b ++ xs) (drop (at + length xs) b) (at + length xs) (length-append (take at b) xs ∙ ap (λ n. n + length xs) (length-take-le at b (omega arith)));
}

-- a longer range holds a shorter one
pub outside-wider : (at k n : ℕ) (b c : List ℕ) → k ≤ n → SameOutside at k b c → SameOutside at n b c
outside-wider at k n b c le same = record {
  as_long = same.as_long;
  before = same.before;
  after = let add : (at + k) + (n - k) ≡ at + n = omega arith in
      ap (λ i. drop i c) (sym add) ∙ sym (drop-drop (n - k) (at + k) c) ∙ ap (drop (n - k)) same.after
      ∙ drop-drop (n - k) (at + k) b ∙ ap (λ i. drop i b) add;
}

-- what differs in a range alone is a write of what the range holds
pub outside-written : (at n : ℕ) (b c : List ℕ) → at + n ≤ length b → SameOutside at n b c → written at (slice_range c at (at + n)) b ≡ c
outside-written at n b c le same =
    let long : length (slice_range c at (at + n)) ≡ n = grind (arith, length-take (at + n - at) (drop at c), length-drop at c, same.as_long) in
    let count : at + n - at ≡ n = omega arith in
    ap (λ i. take at b ++ (slice_range c at (at + n) ++ drop (at + i) b)) long
    ∙ ap (λ (l : List ℕ). l ++ (slice_range c at (at + n) ++ drop (at + n) b)) (sym same.before)
    ∙ ap (λ (l : List ℕ). take at c ++ (slice_range c at (at + n) ++ l)) (sym same.after)
    ∙ ap (λ (l : List ℕ). take at c ++ (slice_range c at (at + n) ++ l)) (sym (drop-drop n at c))
    ∙ ap (λ i. take at c ++ (take i (drop at c) ++ drop n (drop at c))) count
    ∙ ap (λ (l : List ℕ). take at c ++ l) (take-append-drop n (drop at c))
    ∙ take-append-drop at c

-- a range that was written holds what was written
pub range-written : (at : ℕ) (xs b : List ℕ) → at + length xs ≤ length b → slice_range (written at xs b) at (at + length xs) ≡ xs
range-written at xs b le =
    let count : at + length xs - at ≡ length xs = omega arith in
    ap (λ (l : List ℕ). take (at + length xs - at) l) (drop_at (take at b) (xs ++ drop (at + length xs) b) at (length-take-le at b (omega arith)))
    ∙ ap (λ i. take i (xs ++ drop (at + length xs) b)) count ∙ take_at xs (drop (at + length xs) b) (length xs) refl

pub length-resized : (n : ℕ) (b : List ℕ) → length (resized n b) ≡ n
length-resized n b = grind (arith, length-append (take n b) (replicate (n - length b) 0), length-take n b, length-replicate {A = ℕ} (n - length b) 0)

-- a new length is one that the store may have after a crash
pub resized-outcome : (n : ℕ) (b : List ℕ) → Relength n b (resized n b)
resized-outcome n b = inr (record {
  as_long = length-resized n b;
  prefix = same_lists _ _ (grind (arith, length-take (length b) (resized n b), length-take n b, length-resized n b)) (λ k d h. grind (arith, places));
})

pub outside-same : (at n : ℕ) (b : List ℕ) → SameOutside at n b b
outside-same at n b = record { as_long = refl; before = refl; after = refl }
