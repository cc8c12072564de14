-- The key schedule, as the code fills it.
use Rattle.std.proofs.Common.{◌≡◌, ◌<◌, ◌≤◌, ◌+◌, ◌*◌, ◌-◌, ◌^◌, List, [], ◌∷◌, ◌++◌, ℕ, zero, suc, length, take, drop, get_or, slice_index, slice_index_or, refl, sym, ap, ap₂, ◌∙◌, subst, arith, lit<, bit_xor, w32, get_or-take, get_or-drop, length-drop}
use Rattle.std.specs.Int.{from_le_bytes, rotate_left}
use Rattle.std.proofs.lemmas.List.{take_all}
use Rattle.std.proofs.Math.ListN.{set}
use Rattle.std.proofs.Math.Seq.{take-append_seam, take-suc-set}
use Rattle.vc_base.specs.Bytes.{from_bytes, piece, joined}
use Rattle.vc_base.proofs.Pieces.{length-piece, joined_more}
use Rattle.vc_base.proofs.Words.{from_le_bytes_4}
use Rattle.vc_base.specs.Words.{word_of}
use Rattle.lane_kernels.specs.SerpentRounds.{entry, substituted, xor_three}
use Rattle.vc_base.proofs.FourWords.{four}
use Rattle.lane_kernels.proofs.Substituted.{substituted-words}
use Rattle.serpent_core.specs.Serpent.{golden, next_prekey, prekeys, round_key, round_keys}
use Rattle.serpent_core.specs.Laws.Undone.{AreRoundKeys}

-- four words from place 4r on
pub piece_of_four : (ks : List ℕ) (r : ℕ) → 4 * r + 4 ≤ length ks
    → piece 4 r ks ≡ get_or ks (4 * r) 0 ∷ get_or ks (4 * r + 1) 0 ∷ get_or ks (4 * r + 2) 0
    ∷ get_or ks (4 * r + 3) 0 ∷ []
piece_of_four ks r inside =
    let at : (j : ℕ) → j < 4 → get_or (piece 4 r ks) j 0 ≡ get_or ks (4 * r + j) 0
    = λ j below. get_or-take 4 (drop (4 * r) ks) j 0 below ∙ get_or-drop (4 * r) ks j 0 in
    let first : 4 * r + 0 ≡ 4 * r = omega arith in
    four (piece 4 r ks) (length-piece 4 r ks inside)
    ∙ ap₂ ◌∷◌ (at 0 (omega arith) ∙ ap (λ (i : ℕ). get_or ks i 0) first)
    (ap₂ ◌∷◌ (at 1 (omega arith)) (ap₂ ◌∷◌ (at 2 (omega arith))
    (ap₂ ◌∷◌ (at 3 (omega arith)) refl)))

-- word i of a key, from its four bytes
pub key_word_is : (key : List ℕ) (i w : ℕ) → 4 * i + 4 ≤ length key
    → w ≡ from_le_bytes w32 (get_or key (4 * i) 0 ∷ get_or key (4 * i + 1) 0
    ∷ get_or key (4 * i + 2) 0 ∷ get_or key (4 * i + 3) 0 ∷ [])
    → w ≡ word_of key i
key_word_is key i w inside is =
    is ∙ from_le_bytes_4 _ refl ∙ ap from_bytes (sym (piece_of_four key i inside))

-- the four words that round key i is made of
pub words_of_key : (w : List ℕ) (i : ℕ) → 4 * i + 12 ≤ length w
    → get_or w (4 * i + 8) 0 ∷ get_or w (4 * i + 8 + 1) 0
    ∷ get_or w (4 * i + 8 + 2) 0 ∷ get_or w (4 * i + 8 + 3) 0 ∷ [] ≡ piece 4 i (drop 8 w)
words_of_key w i inside =
    let at : (j : ℕ) → get_or (drop 8 w) (4 * i + j) 0 ≡ get_or w (4 * i + 8 + j) 0
    = λ j. let place : 8 + (4 * i + j) ≡ 4 * i + 8 + j = omega arith in
    get_or-drop 8 w (4 * i + j) 0 ∙ ap (λ (k : ℕ). get_or w k 0) place in
    let first : get_or (drop 8 w) (4 * i) 0 ≡ get_or w (4 * i + 8) 0
    = let place : 8 + 4 * i ≡ 4 * i + 8 = omega arith in
    get_or-drop 8 w (4 * i) 0 ∙ ap (λ (k : ℕ). get_or w k 0) place in
    sym (piece_of_four (drop 8 w) i (omega (arith, length-drop 8 w))
    ∙ ap₂ ◌∷◌ first (ap₂ ◌∷◌ (at 1) (ap₂ ◌∷◌ (at 2) (ap₂ ◌∷◌ (at 3) refl))))

-- ---- the prekeys

-- prekey i, made of the four words a, b, c and d
abbrev pub turned : ℕ → ℕ → ℕ → ℕ → ℕ → ℕ
turned i a b c d = rotate_left w32 (bit_xor (bit_xor (xor_three a b c) d) (bit_xor golden i)) 11

turned-ext : (i a b c d a' b' c' d' : ℕ) → a ≡ a' → b ≡ b' → c ≡ c' → d ≡ d'
    → turned i a b c d ≡ turned i a' b' c' d'
turned-ext i a b c d a' b' c' d' same_a same_b same_c same_d =
    ap (λ (x : ℕ). rotate_left w32 (bit_xor x (bit_xor golden i)) 11)
    (ap₂ bit_xor (ap₂ bit_xor (ap₂ bit_xor same_a same_b) same_c) same_d)

-- whatever the order of its sum
pub prekey_is : (w : List ℕ) (i sum r : ℕ) → r ≡ rotate_left w32 sum 11
    → sum ≡ bit_xor (bit_xor (xor_three (get_or w i 0) (get_or w (i + 3) 0) (get_or w (i + 5) 0))
    (get_or w (i + 7) 0)) (bit_xor golden i)
    → r ≡ next_prekey w i
unfolding next_prekey
prekey_is w i sum r is same =
    let first : i ≡ i + 0 = omega arith in
    is ∙ ap (λ (x : ℕ). rotate_left w32 x 11) same
    ∙ turned-ext i _ _ _ _ _ _ _ _ (ap (λ (k : ℕ). get_or w k 0) first) refl refl refl

-- prekey i rests on the words before it alone
next_prekey-take : (w : List ℕ) (i : ℕ) → next_prekey (take (i + 8) w) i ≡ next_prekey w i
unfolding next_prekey
next_prekey-take w i =
    let same : (j : ℕ) → j < 8 → get_or (take (i + 8) w) (i + j) 0 ≡ get_or w (i + j) 0
    = λ j below. get_or-take (i + 8) w (i + j) 0 (omega arith) in
    turned-ext i _ _ _ _ _ _ _ _ (same 0 (omega arith)) (same 3 (omega arith))
    (same 5 (omega arith)) (same 7 (omega arith))

one_more : (key : List ℕ) (i m : ℕ) → suc i ≡ m
    → prekeys key i ++ next_prekey (prekeys key i) i ∷ [] ≡ prekeys key m
unfolding prekeys
one_more key i m next =
    subst (λ (k : ℕ). prekeys key i ++ next_prekey (prekeys key i) i ∷ [] ≡ prekeys key k) next refl

eight : (key : List ℕ) → length (prekeys key 0) ≡ 8
unfolding prekeys
eight key = refl

pub prekeys_start : (key xs ys : List ℕ) → xs ≡ prekeys key 0 → take 8 (xs ++ ys) ≡ prekeys key 0
prekeys_start key xs ys is =
    let exact : 8 ≡ length xs = sym (ap length is ∙ eight key) in
    ap (λ (k : ℕ). take k (xs ++ ys)) exact ∙ take-append_seam xs ys ∙ is

pub prekeys_go_on : (key w : List ℕ) (i v : ℕ) → i + 8 < length w → take (i + 8) w ≡ prekeys key i
    → v ≡ next_prekey w i → take (i + 1 + 8) (set w (i + 8) v) ≡ prekeys key (i + 1)
prekeys_go_on key w i v inside so_far is =
    let place : i + 1 + 8 ≡ suc (i + 8) = omega arith in
    let next : v ≡ next_prekey (prekeys key i) i
    = is ∙ sym (next_prekey-take w i) ∙ ap (λ (u : List ℕ). next_prekey u i) so_far in
    ap (λ (n : ℕ). take n (set w (i + 8) v)) place
    ∙ take-suc-set w (i + 8) v inside
    ∙ ap₂ (λ (u : List ℕ) (x : ℕ). u ++ x ∷ []) so_far next
    ∙ one_more key i (i + 1) (omega arith)

-- ---- the round keys

is_round_key : (key w ys : List ℕ) (i : ℕ) → w ≡ prekeys key 132
    → ys ≡ substituted (entry (35 - i)) (piece 4 i (drop 8 w)) → ys ≡ round_key key i
unfolding round_key
is_round_key key w ys i is_w is =
    is ∙ ap (λ (u : List ℕ). substituted (entry (35 - i)) (piece 4 i (drop 8 u))) is_w

pub keys_start : (key : List ℕ) → [] ≡ joined (λ i. round_key key i ∷ []) 0
unfolding joined
keys_start key = refl

pub keys_go_on : (key w ys : List ℕ) (ks : List (List ℕ)) (i : ℕ) → i < length ks
    → take i ks ≡ joined (λ j. round_key key j ∷ []) i → w ≡ prekeys key 132
    → ys ≡ substituted (entry (35 - i)) (piece 4 i (drop 8 w))
    → take (i + 1) (set ks i ys) ≡ joined (λ j. round_key key j ∷ []) (i + 1)
keys_go_on key w ys ks i within so_far is_w is =
    let next : i + 1 ≡ suc i = omega arith in
    ap (λ (n : ℕ). take n (set ks i ys)) next
    ∙ take-suc-set ks i ys within
    ∙ ap₂ (λ (u : List (List ℕ)) (x : List ℕ). u ++ x ∷ []) so_far (is_round_key key w ys i is_w is)
    ∙ sym (joined_more (λ j. round_key key j ∷ []) i)

pub keys_end : (key : List ℕ) (ks : List (List ℕ)) (i : ℕ) → length ks ≡ 33 → i ≡ 33
    → take i ks ≡ joined (λ j. round_key key j ∷ []) i → ks ≡ round_keys key
keys_end key ks i long last so_far =
    sym (take_all i ks (omega arith)) ∙ so_far ∙ ap (joined (λ j. round_key key j ∷ [])) last

-- ---- they are words

one_more_row : (xs : List (List ℕ)) (y : List ℕ) (r j : ℕ)
    → ((i k : ℕ) → slice_index (slice_index_or xs i []) k < 2 ^ 32)
    → ((k : ℕ) → slice_index y k < 2 ^ 32) → slice_index (slice_index_or (xs ++ y ∷ []) r []) j < 2 ^ 32
one_more_row [] y zero j rows words = words j
one_more_row [] y (suc r) j rows words = lit< tt
one_more_row (x ∷ xs) y zero j rows words = rows 0 j
one_more_row (x ∷ xs) y (suc r) j rows words = one_more_row xs y r j (λ i k. rows (suc i) k) words

one_by_one : (f : ℕ → List ℕ) (n r : ℕ) → ((i j : ℕ) → slice_index (f i) j < 2 ^ 32) → (j : ℕ)
    → slice_index (slice_index_or (joined (λ i. f i ∷ []) n) r []) j < 2 ^ 32
unfolding joined
one_by_one f zero r words j = lit< tt
one_by_one f (suc n) r words j =
    one_more_row (joined (λ i. f i ∷ []) n) (f n) r j (λ i k. one_by_one f n i words k) (words n)

pub round_keys-words : (key : List ℕ) → AreRoundKeys (round_keys key)
unfolding round_key
round_keys-words key = record {
  each = λ r j.
      one_by_one (round_key key) 33 r
      (λ i k. (substituted-words (entry (35 - i)) (piece 4 i (drop 8 (prekeys key 132)))).each k) j;
}
