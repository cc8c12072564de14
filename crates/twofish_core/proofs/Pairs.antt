-- Blocks in pairs: a list that was treated up to a pair is treated up to the next one when both of its
-- blocks are written.
use Rattle.std.proofs.Common.{◌≡◌, ◌≤◌, ◌+◌, ◌*◌, List, ℕ, length, take, drop, sym, ap, ap₂, subst, ◌∙◌, arith}
use Rattle.std.proofs.lemmas.List.{drop-drop}
use borrow.Rule.Slice.PartMut.{put_mid}
use Rattle.vc_base.specs.Bytes.{piece}
use Rattle.cipher_base.proofs.Loops.{Done, goes_on}

-- what follows the first q + 1 blocks is as it was, so far as what follows the first q is
rest_after : (q : ℕ) (old now : List ℕ) → drop (16 * q) now ≡ drop (16 * q) old
    → drop (16 * (q + 1)) now ≡ drop (16 * (q + 1)) old
rest_after q old now rest =
    let step : 16 * q + 16 ≡ 16 * (q + 1) = omega arith in
    subst (λ (n : ℕ). drop n now ≡ drop n old) step
    (sym (drop-drop 16 (16 * q) now) ∙ ap (drop 16) rest ∙ drop-drop 16 (16 * q) old)

-- one block more
pub block_more : (j a k : ℕ) (f : List ℕ → List ℕ) (old now p : List ℕ)
    → Done 16 j (λ _ x. f x) old now → 16 * j + 16 ≤ length old → a ≡ 16 * j → k ≡ 16
    → p ≡ f (piece 16 j now) → length p ≡ 16
    → Done 16 (j + 1) (λ _ x. f x) old (put_mid a k now p)
block_more j a k f old now p done inside place count is long =
    goes_on 16 j a k (λ _ x. f x) old now p done place count (omega arith)
    (is ∙ ap₂ (λ (m n : ℕ). f (take m (drop n now))) (sym count) (sym place)) long

-- one pair more
pub pair_more : (i a k b l : ℕ) (f : List ℕ → List ℕ) (old now p q : List ℕ)
    → Done 16 (2 * i) (λ _ x. f x) old now → 32 * i + 32 ≤ length old
    → a ≡ 32 * i → k ≡ 16 → b ≡ 32 * i + 16 → l ≡ 16
    → p ≡ f (piece 16 (2 * i) now) → length p ≡ 16
    → q ≡ f (piece 16 (2 * i + 1) now) → length q ≡ 16
    → Done 16 (2 * (i + 1)) (λ _ x. f x) old (put_mid b l (put_mid a k now p) q)
pair_more i a k b l f old now p q done inside place count next_place next_count p_is p_long q_is q_long =
    let second : b ≡ 16 * (2 * i + 1) = omega arith in
    let last : 2 * i + 1 + 1 ≡ 2 * (i + 1) = omega arith in
    let half : List ℕ = put_mid a k now p in
    let first : Done 16 (2 * i + 1) (λ _ x. f x) old half
    = block_more (2 * i) a k f old now p done (omega arith) (omega arith) count p_is p_long in
    let unread : drop (16 * (2 * i + 1)) now ≡ drop (16 * (2 * i + 1)) half
    = rest_after (2 * i) old now done.rest ∙ sym first.rest in
    subst (λ (n : ℕ). Done 16 n (λ _ x. f x) old (put_mid b l half q)) last
    (block_more (2 * i + 1) b l f old half q first (omega arith) second next_count
    (q_is ∙ ap (λ (xs : List ℕ). f (take 16 xs)) unread) q_long)

-- after the last pair
pub pairs_end : (i q : ℕ) (f : List ℕ → List ℕ) (old now : List ℕ)
    → Done 16 (2 * i) (λ _ x. f x) old now → 2 * i ≡ q → Done 16 q (λ _ x. f x) old now
pairs_end i q f old now done all = subst (λ (n : ℕ). Done 16 n (λ _ x. f x) old now) all done
