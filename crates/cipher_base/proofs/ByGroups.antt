-- Blocks in groups of eight.
--
-- A list that was treated group by group, each group block by block, was treated block by block. So is one whose
-- rest after the last group was treated block by block.
use Rattle.std.proofs.Common.{◌≡◌, ◌<◌, ◌≤◌, ◌+◌, ◌-◌, ◌*◌, ◌/◌, ◌%◌, List, ◌++◌, ℕ, zero, suc, length, take, drop, refl, sym, ap, ap₂, subst, ◌∙◌, arith, length-take-le, length-drop}
use Rattle.std.proofs.lemmas.List.{take-take, drop-take, drop-drop, take_all, take-append-drop}
use Rattle.std.proofs.lemmas.Slice.{take-put_mid}
use Rattle.vc_base.specs.Bytes.{piece, joined, in_pieces}
use Rattle.vc_base.proofs.Chunks.{piece-take}
use Rattle.vc_base.proofs.Pieces.{joined-add, joined_suc, joined_none, joined_same, in_pieces-joined, in_pieces-append, length-piece}
use borrow.Rule.Slice.PartMut.{put_mid}
use Rattle.cipher_base.proofs.Loops.{Done, goes_on, length-put_mid}

-- block j of group i
piece-piece : (i j : ℕ) (xs : List ℕ) → j < 8 → piece 16 j (piece 128 i xs) ≡ piece 16 (8 * i + j) xs
piece-piece i j xs below =
    let ys : List ℕ = drop (128 * i) xs in
    let whole : 128 ≡ 16 * j + (128 - 16 * j) = omega arith in
    let inside : 16 ≤ 128 - 16 * j = omega arith in
    let place : 128 * i + 16 * j ≡ 16 * (8 * i + j) = omega arith in
    ap (λ (n : ℕ). take 16 (drop (16 * j) (take n ys))) whole
    ∙ ap (take 16) (drop-take (16 * j) (128 - 16 * j) ys)
    ∙ take-take 16 (128 - 16 * j) (drop (16 * j) ys) inside
    ∙ ap (take 16) (drop-drop (16 * j) (128 * i) xs ∙ ap (λ (n : ℕ). drop n xs) place)

by_groups : (f : List ℕ → List ℕ) (old : List ℕ) (i : ℕ) → 128 * i ≤ length old
    → joined (λ k. in_pieces 16 (λ _ b. f b) (piece 128 k old)) i ≡ joined (λ k. f (piece 16 k old)) (8 * i)
by_groups f old zero inside = joined_none _ ∙ sym (joined_none (λ k. f (piece 16 k old)))
by_groups f old (suc i) inside =
    let g : ℕ → List ℕ = λ k. f (piece 16 k old) in
    let next : 8 * i + 8 ≡ 8 * suc i = omega arith in
    let group : List ℕ = piece 128 i old in
    let long : length group ≡ 16 * 8 = length-piece 128 i old (omega arith) in
    joined_suc (λ k. in_pieces 16 (λ _ b. f b) (piece 128 k old)) i
    ∙ ap₂ ◌++◌ (by_groups f old i (omega arith))
    (in_pieces-joined 16 8 (λ j b. f b) group (omega arith) long
    ∙ joined_same (λ j. f (piece 16 j group)) (λ j. g (8 * i + j)) 8
    (λ j below. ap f (piece-piece i j old below)))
    ∙ sym (joined-add g (8 * i) 8)
    ∙ ap (joined g) next

-- i groups done are 8·i blocks done
pub regrouped : (i q : ℕ) (f : List ℕ → List ℕ) (old now : List ℕ) → q ≡ 8 * i → 128 * i ≤ length old
    → Done 128 i (λ _ p. in_pieces 16 (λ _ b. f b) p) old now → Done 16 q (λ _ b. f b) old now
regrouped i q f old now count inside done =
    let place : 128 * i ≡ 16 * q = omega arith in
    record {
      long = done.long;
      front = subst (λ (n : ℕ). take n now ≡ joined (λ j. f (piece 16 j old)) q) place
          (done.front ∙ by_groups f old i inside ∙ ap (joined (λ k. f (piece 16 k old))) (sym count));
      rest = subst (λ (n : ℕ). drop n now ≡ drop n old) place done.rest;
    }

-- one group more
pub group_more : (i k : ℕ) (f : List ℕ → List ℕ) (old now new : List ℕ)
    → Done 128 i (λ _ p. in_pieces 16 (λ _ b. f b) p) old now → k ≡ 128 → 128 * (i + 1) ≤ length old
    → new ≡ in_pieces 16 (λ _ b. f b) (take k (drop (128 * i) now))
    → length new ≡ length (take k (drop (128 * i) now))
    → Done 128 (i + 1) (λ _ p. in_pieces 16 (λ _ b. f b) p) old (put_mid (128 * i) k now new)
group_more i k f old now new done count inside made long =
    let same : length now ≡ length old = done.long in
    let group : length (take k (drop (128 * i) now)) ≡ k
    = length-take-le k (drop (128 * i) now) (omega (arith, length-drop (128 * i) now)) in
    goes_on 128 i (128 * i) k (λ _ p. in_pieces 16 (λ _ b. f b) p) old now new done refl count inside
    made (long ∙ group ∙ count)

-- the rest, which has no whole group
pub rest_done : (q a k : ℕ) (f : List ℕ → List ℕ) (old now new : List ℕ) → Done 16 q (λ _ b. f b) old now → a ≡ 16 * q
    → a + k ≡ length old → length old % 16 ≡ 0 → new ≡ in_pieces 16 (λ _ b. f b) (take k (drop a now)) → length new ≡ k
    → put_mid a k now new ≡ in_pieces 16 (λ _ b. f b) old
rest_done q a k f old now new done place whole blocks made long =
    let g : ℕ → List ℕ → List ℕ = λ _ b. f b in
    let same : length now ≡ length old = done.long in
    let left : List ℕ = take a old in
    let right : List ℕ = drop a old in
    let left_long : length left ≡ 16 * q = length-take-le a old (omega arith) ∙ place in
    let right_long : length right ≡ 16 * (k / 16) = omega (arith, length-drop a old) in
    let front : take a now ≡ in_pieces 16 g left
    = subst (λ (n : ℕ). take n now ≡ joined (λ j. f (piece 16 j old)) q) (sym place) done.front
    ∙ joined_same (λ j. f (piece 16 j old)) (λ j. f (piece 16 j left)) q (λ j below. ap f (sym (piece-take 16 j a old (omega arith))))
    ∙ sym (in_pieces-joined 16 q g left (omega arith) left_long) in
    let kept : drop a now ≡ right = subst (λ (n : ℕ). drop n now ≡ drop n old) (sym place) done.rest in
    let all : take k right ≡ right = take_all k right (omega (arith, length-drop a old)) in
    let back : new ≡ in_pieces 16 g right = made ∙ ap (in_pieces 16 g) (ap (take k) kept ∙ all) in
    sym (take_all (a + k) (put_mid a k now new) (omega (arith, length-put_mid a k now new (omega arith) long)))
    ∙ take-put_mid a k now new (a + k) (omega arith) (omega arith)
    ∙ ap₂ ◌++◌ front back
    ∙ sym (in_pieces-append 16 q (k / 16) g left right (omega arith) left_long right_long)
    ∙ ap (in_pieces 16 g) (take-append-drop a old)
