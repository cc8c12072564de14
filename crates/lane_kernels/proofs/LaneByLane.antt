-- Vectors of eight words, lane by lane.
--
-- An operation on vectors gives in each lane what it gives on the words of that lane. Four vectors
-- are eight states if each lane is one.
use Rattle.std.proofs.Common.{◌≡◌, ◌<◌, ◌^◌, List, [], ◌∷◌, ℕ, zero, suc, map, length, get_or, slice_index, slice_index_or, replicate, refl, sym, ap, ap₂, ◌∙◌, subst, arith, inl, inr}
use Rattle.std.specs.Int.Bits.{bit_xor}
use Rattle.std.specs.Simd.Lanes.{zip2}
use Rattle.std.proofs.lemmas.Nat.{xor_lt}
use Rattle.std.proofs.lemmas.Bool.{cases_lt}
use Rattle.std.proofs.lemmas.List.{get_or_past}
use Rattle.std.proofs.lemmas.Simd.{length-zip2, get_or-zip2, length-replicate, get_or-replicate}
use Rattle.vc_base.specs.Words.{AreWords}
use Rattle.lane_kernels.specs.SerpentRounds.{add_words}
use Rattle.lane_kernels.specs.Laws.Lanes.{lane, AreLanes, InEachLane}
use Rattle.vc_base.proofs.FourWords.{are_four}

-- eight words, of which that of lane j is f j
pub record Mapped (f : ℕ → ℕ) (xs : List ℕ) : Type 0 where
  pub long : length xs ≡ 8
  pub at : (j : ℕ) → j < 8 → get_or xs j 0 ≡ f j

pub zipped : (op : ℕ → ℕ → ℕ) (f g : ℕ → ℕ) (xs ys : List ℕ) → Mapped f xs → Mapped g ys
    → Mapped (λ j. op (f j) (g j)) (zip2 op xs ys)
zipped op f g xs ys left right = record {
  long = length-zip2 op xs ys (left.long ∙ sym right.long) ∙ left.long;
  at = λ j below.
      get_or-zip2 op xs ys j 0 0 0 (omega (arith, left.long)) (omega (arith, right.long))
      ∙ ap₂ op (left.at j below) (right.at j below);
}

pub zipped_splat : (op : ℕ → ℕ → ℕ) (k : ℕ) (f : ℕ → ℕ) (xs : List ℕ) → Mapped f xs
    → Mapped (λ j. op (f j) k) (zip2 op xs (replicate 8 k))
zipped_splat op k f xs left =
    zipped op f (λ j. k) xs (replicate 8 k) left (record {
      long = length-replicate 8 k;
      at = λ j below. get_or-replicate 8 j k 0 below;
    })

get_or-map : (op : ℕ → ℕ) (xs : List ℕ) (j : ℕ) → j < length xs
    → get_or (map op xs) j 0 ≡ op (get_or xs j 0)
get_or-map op [] j below = absurd (omega arith)
get_or-map op (x ∷ xs) zero below = refl
get_or-map op (x ∷ xs) (suc j) below = get_or-map op xs j (omega arith)

length-map : (op : ℕ → ℕ) (xs : List ℕ) → length (map op xs) ≡ length xs
length-map op [] = refl
length-map op (x ∷ xs) = ap suc (length-map op xs)

pub mapped : (op f : ℕ → ℕ) (xs : List ℕ) → Mapped f xs → Mapped (λ j. op (f j)) (map op xs)
mapped op f xs m = record {
  long = length-map op xs ∙ m.long;
  at = λ j below. get_or-map op xs j (omega (arith, m.long)) ∙ ap op (m.at j below);
}

-- ---- eight states

pub lane-words : (j : ℕ) (x : List (List ℕ)) → AreLanes x → AreWords 4 (lane j x)
lane-words j x lanes =
    are_four _ _ _ _ ((lanes.row 0 (omega arith)).each j) ((lanes.row 1 (omega arith)).each j)
    ((lanes.row 2 (omega arith)).each j) ((lanes.row 3 (omega arith)).each j)

-- a vector whose lanes are words
row_words : (xs : List ℕ) → length xs ≡ 8 → ((j : ℕ) → j < 8 → get_or xs j 0 < 2 ^ 32) → AreWords 8 xs
row_words xs long each = record {
  count = long;
  each = λ j. elim (cases_lt j 8) [
    | inl below ↦ each j below
    | inr past ↦ subst (λ (w : ℕ). w < 2 ^ 32) (sym (get_or_past xs j 0 (omega (arith, long)))) (omega arith)
  ];
}

-- what holds of each of four numbers
below_four : (P : ℕ → Type 0) → P 0 → P 1 → P 2 → P 3 → (r : ℕ) → r < 4 → P r
below_four P p0 p1 p2 p3 zero below = p0
below_four P p0 p1 p2 p3 (suc zero) below = p1
below_four P p0 p1 p2 p3 (suc (suc zero)) below = p2
below_four P p0 p1 p2 p3 (suc (suc (suc zero))) below = p3
below_four P p0 p1 p2 p3 (suc (suc (suc (suc r)))) below = absurd (omega arith)

-- four vectors are eight states if each lane is one
pub are_lanes : (a b c d : List ℕ) → length a ≡ 8 → length b ≡ 8 → length c ≡ 8 → length d ≡ 8
    → ((j : ℕ) → j < 8 → AreWords 4 (lane j (a ∷ b ∷ c ∷ d ∷ []))) → AreLanes (a ∷ b ∷ c ∷ d ∷ [])
are_lanes a b c d long_a long_b long_c long_d states =
    let x : List (List ℕ) = a ∷ b ∷ c ∷ d ∷ [] in
    let row : (r : ℕ) → r < 4 → AreWords 8 (slice_index_or x r []) = below_four (λ r. AreWords 8 (slice_index_or x r []))
    (row_words a long_a (λ j below. (states j below).each 0))
    (row_words b long_b (λ j below. (states j below).each 1))
    (row_words c long_c (λ j below. (states j below).each 2))
    (row_words d long_d (λ j below. (states j below).each 3)) in
    record { row = row }

-- four vectors whose lanes are what f makes of the states of x
pub words_from_lanes : (f : List ℕ → List ℕ) (x : List (List ℕ)) (ga gb gc gd : ℕ → ℕ)
    (a b c d : List ℕ) → Mapped ga a → Mapped gb b → Mapped gc c → Mapped gd d
    → ((j : ℕ) → j < 8 → AreWords 4 (ga j ∷ gb j ∷ gc j ∷ gd j ∷ []))
    → ((j : ℕ) → j < 8 → ga j ∷ gb j ∷ gc j ∷ gd j ∷ [] ≡ f (lane j x))
    → InEachLane f x (a ∷ b ∷ c ∷ d ∷ [])
words_from_lanes f x ga gb gc gd a b c d in_a in_b in_c in_d words same =
    let here : (j : ℕ) → j < 8 → lane j (a ∷ b ∷ c ∷ d ∷ []) ≡ ga j ∷ gb j ∷ gc j ∷ gd j ∷ []
    = λ j below. ap₂ ◌∷◌ (in_a.at j below) (ap₂ ◌∷◌ (in_b.at j below)
    (ap₂ ◌∷◌ (in_c.at j below) (ap₂ ◌∷◌ (in_d.at j below) refl))) in
    record {
      lanes = are_lanes a b c d in_a.long in_b.long in_c.long in_d.long
          (λ j below. subst (λ (s : List ℕ). AreWords 4 s) (sym (here j below)) (words j below));
      each = λ j below. here j below ∙ same j below;
    }

-- four words added to each state
pub words_added : (key : List ℕ) (x : List (List ℕ)) → AreWords 4 key → AreLanes x
    → InEachLane (add_words key) x
    (zip2 bit_xor (slice_index_or x 0 []) (replicate 8 (slice_index key 0))
    ∷ zip2 bit_xor (slice_index_or x 1 []) (replicate 8 (slice_index key 1))
    ∷ zip2 bit_xor (slice_index_or x 2 []) (replicate 8 (slice_index key 2))
    ∷ zip2 bit_xor (slice_index_or x 3 []) (replicate 8 (slice_index key 3)) ∷ [])
words_added key x words lanes =
    let row : (r : ℕ) → r < 4 → Mapped (slice_index (slice_index_or x r [])) (slice_index_or x r [])
    = λ r below. record { long = (lanes.row r below).count; at = λ j inside. refl } in
    let sum : (r : ℕ) → r < 4
    → Mapped (λ j. bit_xor (slice_index (slice_index_or x r []) j) (slice_index key r))
    (zip2 bit_xor (slice_index_or x r []) (replicate 8 (slice_index key r)))
    = λ r below. zipped_splat bit_xor (slice_index key r) _ _ (row r below) in
    let word : (j r : ℕ) → r < 4
    → bit_xor (slice_index (slice_index_or x r []) j) (slice_index key r) < 2 ^ 32
    = λ j r below. xor_lt 32 _ _ ((lanes.row r below).each j) (words.each r) in
    words_from_lanes (add_words key) x _ _ _ _ _ _ _ _ (sum 0 (omega arith)) (sum 1 (omega arith))
    (sum 2 (omega arith)) (sum 3 (omega arith))
    (λ j below. are_four _ _ _ _ (word j 0 (omega arith)) (word j 1 (omega arith))
    (word j 2 (omega arith)) (word j 3 (omega arith)))
    (λ j below. refl)
