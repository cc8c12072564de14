-- Lists of 4 and of 16 bytes, element by element.
--
-- A list of n elements is the list of its elements, so that steps on states compute.
use Rattle.std.proofs.Common.{◌≡◌, ◌<◌, ◌+◌, ◌*◌, List, [], ◌∷◌, ℕ, zero, suc, length, drop, get_or, slice_index, refl, ap, ap₂, ◌∙◌, arith, lit<}
use Rattle.std.proofs.Math.Seq.{drop-cons}
use Rattle.std.proofs.lemmas.List.{drop_all}
use Rattle.vc_base.specs.Bytes.{IsBytes}
use Rattle.aes_core.specs.Aes.{at, state}

-- n elements of xs, from i on
abbrev listed : ℕ → List ℕ → ℕ → List ℕ
listed zero xs i = []
listed (suc n) xs i = get_or xs i 0 ∷ listed n xs (suc i)

drop-listed : (n : ℕ) (xs : List ℕ) (i : ℕ) → length xs ≡ i + n → drop i xs ≡ listed n xs i
drop-listed zero xs i long = drop_all i xs (omega arith)
drop-listed (suc n) xs i long =
    drop-cons xs i 0 (omega arith) ∙ ap (λ (ys : List ℕ). get_or xs i 0 ∷ ys) (drop-listed n xs (suc i) (omega arith))

pub four : (t : List ℕ) → length t ≡ 4 → t ≡ get_or t 0 0 ∷ get_or t 1 0 ∷ get_or t 2 0 ∷ get_or t 3 0 ∷ []
four t long = drop-listed 4 t 0 long

pub of_state : (s : List ℕ) → length s ≡ 16 → s ≡ state (at s)
of_state s long = drop-listed 16 s 0 long

-- ---- states given by row and column

pub state-ext : (f g : ℕ → ℕ → ℕ) → ((r c : ℕ) → f r c ≡ g r c) → state f ≡ state g
state-ext f g same =
    let more : (r c : ℕ) (xs ys : List ℕ) → xs ≡ ys → f r c ∷ xs ≡ g r c ∷ ys = λ r c xs ys rest. ap₂ ◌∷◌ (same r c) rest in
    more 0 0 _ _ (more 1 0 _ _ (more 2 0 _ _ (more 3 0 _ _
    (more 0 1 _ _ (more 1 1 _ _ (more 2 1 _ _ (more 3 1 _ _
    (more 0 2 _ _ (more 1 2 _ _ (more 2 2 _ _ (more 3 2 _ _
    (more 0 3 _ _ (more 1 3 _ _ (more 2 3 _ _ (more 3 3 _ _ refl)))))))))))))))

-- by the place of each element
pub state_by_place : (f g : ℕ → ℕ) → ((l : ℕ) → l < 16 → f l ≡ g l) → state (λ r c. f (r + 4 * c)) ≡ state (λ r c. g (r + 4 * c))
state_by_place f g same =
    let more : (l : ℕ) → l < 16 → (xs ys : List ℕ) → xs ≡ ys → f l ∷ xs ≡ g l ∷ ys = λ l below xs ys rest. ap₂ ◌∷◌ (same l below) rest in
    more 0 (lit< tt) _ _ (more 1 (lit< tt) _ _ (more 2 (lit< tt) _ _ (more 3 (lit< tt) _ _
    (more 4 (lit< tt) _ _ (more 5 (lit< tt) _ _ (more 6 (lit< tt) _ _ (more 7 (lit< tt) _ _
    (more 8 (lit< tt) _ _ (more 9 (lit< tt) _ _ (more 10 (lit< tt) _ _ (more 11 (lit< tt) _ _
    (more 12 (lit< tt) _ _ (more 13 (lit< tt) _ _ (more 14 (lit< tt) _ _ (more 15 (lit< tt) _ _ refl)))))))))))))))

-- and by the lane that a plane has for it
pub state_by_lane : (f g : ℕ → ℕ) → ((l : ℕ) → l < 16 → f l ≡ g l) → state (λ r c. f (4 * r + c)) ≡ state (λ r c. g (4 * r + c))
state_by_lane f g same =
    let more : (l : ℕ) → l < 16 → (xs ys : List ℕ) → xs ≡ ys → f l ∷ xs ≡ g l ∷ ys = λ l below xs ys rest. ap₂ ◌∷◌ (same l below) rest in
    more 0 (lit< tt) _ _ (more 4 (lit< tt) _ _ (more 8 (lit< tt) _ _ (more 12 (lit< tt) _ _
    (more 1 (lit< tt) _ _ (more 5 (lit< tt) _ _ (more 9 (lit< tt) _ _ (more 13 (lit< tt) _ _
    (more 2 (lit< tt) _ _ (more 6 (lit< tt) _ _ (more 10 (lit< tt) _ _ (more 14 (lit< tt) _ _
    (more 3 (lit< tt) _ _ (more 7 (lit< tt) _ _ (more 11 (lit< tt) _ _ (more 15 (lit< tt) _ _ refl)))))))))))))))

-- each element is a byte
record EachByte (xs : List ℕ) : Type 0 where
  each : (i : ℕ) → slice_index xs i < 256

each_below : (x : ℕ) (xs : List ℕ) → x < 256 → ((i : ℕ) → slice_index xs i < 256) → (i : ℕ) → slice_index (x ∷ xs) i < 256
each_below x xs first rest zero = first
each_below x xs first rest (suc i) = rest i

each_none : EachByte []
each_none = record { each = λ i. lit< tt }

each_more : (x : ℕ) (xs : List ℕ) → x < 256 → EachByte xs → EachByte (x ∷ xs)
each_more x xs first rest = record { each = each_below x xs first rest.each }

pub is_state : (f : ℕ → ℕ → ℕ) → ((r c : ℕ) → f r c < 256) → IsBytes 16 (state f)
is_state f below =
    let more : (r c : ℕ) (xs : List ℕ) → EachByte xs → EachByte (f r c ∷ xs) = λ r c xs rest. each_more (f r c) xs (below r c) rest in
    let all : EachByte (state f) =
    more 0 0 _ (more 1 0 _ (more 2 0 _ (more 3 0 _
    (more 0 1 _ (more 1 1 _ (more 2 1 _ (more 3 1 _
    (more 0 2 _ (more 1 2 _ (more 2 2 _ (more 3 2 _
    (more 0 3 _ (more 1 3 _ (more 2 3 _ (more 3 3 _ each_none))))))))))))))) in
    record { count = refl; each = all.each }
