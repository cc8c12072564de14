-- Lists in pieces of one length.
--
-- KeepsLength n f      each f j makes n elements of n elements
--
-- What is joined from pieces of n elements has n·k of them, and its j-th piece is the j-th that was joined:
-- the pieces before it take n·j places. All on `in_pieces` follows: two lists of n·k elements whose k pieces
-- agree are one list.
use Rattle.std.proofs.Common.{◌≡◌, ◌<◌, ◌≤◌, ℕ, zero, suc, ◌+◌, ◌-◌, ◌*◌, ◌/◌, List, [], ◌++◌, length, take, drop, refl, sym, ap, ap₂, ◌∙◌, subst, arith, add-zero, add-suc, add-one, mul-zero, append_assoc, append-nil, take_at, drop_at, take-add, take_all, length-append, length-drop, length-take-le, div-mul-le_self, drop-drop, mul-le-mul_right, mul-le-mul_left}
use native.Mathlib.Nat.{mul-div_cancel_left}
use Rattle.std.proofs.lemmas.List.{take-append-le, drop-append-le}
use Rattle.vc_base.specs.Bytes.{piece, joined, in_pieces}

-- ---- joined lists

pub joined_suc : {X : Type 0} (f : ℕ → List X) (k : ℕ) → joined f (suc k) ≡ joined f k ++ f k
unfolding joined
joined_suc f k = refl

pub joined_more : {X : Type 0} (f : ℕ → List X) (k : ℕ) → joined f (k + 1) ≡ joined f k ++ f k
joined_more f k = ap (joined f) (add-one k) ∙ joined_suc f k

pub joined_none : {X : Type 0} (f : ℕ → List X) → joined f 0 ≡ []
unfolding joined
joined_none f = refl

pub length-joined : {X : Type 0} (f : ℕ → List X) (n k : ℕ) → ((j : ℕ) → j < k → length (f j) ≡ n)
    → length (joined f k) ≡ n * k
unfolding joined
length-joined f n zero each = sym (mul-zero n)
length-joined f n (suc k) each =
    let before : length (joined f k) ≡ n * k = length-joined f n k (λ j inside. each j (omega arith)) in
    let last : length (f k) ≡ n = each k (omega arith) in
    length-append (joined f k) (f k) ∙ omega arith

pub joined_same : {X : Type 0} (f g : ℕ → List X) (k : ℕ) → ((j : ℕ) → j < k → f j ≡ g j)
    → joined f k ≡ joined g k
unfolding joined
joined_same f g zero each = refl
joined_same f g (suc k) each = ap₂ ◌++◌ (joined_same f g k (λ j inside. each j (omega arith)))
    (each k (omega arith))

pub joined-add : {X : Type 0} (f : ℕ → List X) (i m : ℕ)
    → joined f (i + m) ≡ joined f i ++ joined (λ j. f (i + j)) m
unfolding joined
joined-add f i zero = ap (joined f) (add-zero i) ∙ sym (append-nil (joined f i))
joined-add f i (suc m) =
    ap (joined f) (add-suc i m)
    ∙ ap (λ x. x ++ f (i + m)) (joined-add f i m)
    ∙ append_assoc (joined f i) (joined (λ j. f (i + j)) m) (f (i + m))

-- the j-th piece is what was joined as the j-th
pub piece-joined : {X : Type 0} (f : ℕ → List X) (n k j : ℕ) → ((i : ℕ) → i < k → length (f i) ≡ n)
    → j < k → piece n j (joined f k) ≡ f j
piece-joined f n k j each inside =
    let rest = joined (λ i. f (suc j + i)) (k - suc j) in
    let before : length (joined f j) ≡ n * j
    = length-joined f n j (λ i i_inside. each i (omega arith)) in
    let count : k ≡ suc j + (k - suc j) = omega arith in
    let cut : joined f k ≡ joined f j ++ (f j ++ rest)
    = ap (joined f) count ∙ joined-add f (suc j) (k - suc j)
    ∙ ap (λ x. x ++ rest) (joined_suc f j) ∙ append_assoc (joined f j) (f j) rest in
    ap (λ x. take n (drop (n * j) x)) cut
    ∙ ap (take n) (drop_at (joined f j) (f j ++ rest) (n * j) before)
    ∙ take_at (f j) rest n (each j inside)

-- the first k pieces are the first n·k elements
pub joined-piece : {X : Type 0} (n k : ℕ) (xs : List X)
    → joined (λ j. piece n j xs) k ≡ take (n * k) xs
unfolding joined
joined-piece n zero xs = ap (λ (i : ℕ). take i xs) (sym (mul-zero n))
joined-piece n (suc k) xs =
    let next : n * k + n ≡ n * suc k = omega arith in
    ap (λ x. x ++ piece n k xs) (joined-piece n k xs)
    ∙ sym (take-add (n * k) n xs)
    ∙ ap (λ (i : ℕ). take i xs) next

-- ---- counting pieces

pub piece_inside : (n j l : ℕ) → j < l / n → n * j + n ≤ l
piece_inside n j l inside =
    let rows : l / n * n ≤ l = div-mul-le_self l n in
    let count : suc j * n ≤ l / n * n = mul-le-mul_right n inside in
    omega arith

pub piece_of_whole : (n j k l : ℕ) → l ≡ n * k → j < k → n * j + n ≤ l
piece_of_whole n j k l whole inside =
    let count : n * suc j ≤ n * k = mul-le-mul_left n inside in
    omega arith

pub count_of_pieces : (n k l : ℕ) → 0 < n → l ≡ n * k → l / n ≡ k
count_of_pieces n k l some whole = ap (λ (x : ℕ). x / n) whole ∙ mul-div_cancel_left k some

pub length-piece : {X : Type 0} (n j : ℕ) (xs : List X) → n * j + n ≤ length xs
    → length (piece n j xs) ≡ n
length-piece n j xs inside = length-take-le n (drop (n * j) xs) (omega (arith, length-drop (n * j) xs))

pub length-piece_of : {X : Type 0} (n j : ℕ) (xs : List X) → j < length xs / n
    → length (piece n j xs) ≡ n
length-piece_of n j xs inside = length-piece n j xs (piece_inside n j (length xs) inside)

-- ---- a list with each piece replaced

pub record KeepsLength {X : Type 0} (n : ℕ) (f : ℕ → List X → List X) : Type 0 where
  pub keeps : (j : ℕ) (p : List X) → length p ≡ n → length (f j p) ≡ n

pub in_pieces-joined : {X : Type 0} (n k : ℕ) (f : ℕ → List X → List X) (xs : List X) → 0 < n
    → length xs ≡ n * k
    → in_pieces n f xs ≡ joined (λ j. f j (piece n j xs)) k
in_pieces-joined n k f xs some whole
    = ap (joined (λ j. f j (piece n j xs))) (count_of_pieces n k (length xs) some whole)

replaced_length : {X : Type 0} (n : ℕ) (f : ℕ → List X → List X) (xs : List X) → KeepsLength n f
    → (j : ℕ) → j < length xs / n → length (f j (piece n j xs)) ≡ n
replaced_length n f xs kept j inside = kept.keeps j (piece n j xs) (length-piece_of n j xs inside)

pub length-in_pieces : {X : Type 0} (n : ℕ) (f : ℕ → List X → List X) (xs : List X)
    → KeepsLength n f
    → length (in_pieces n f xs) ≡ n * (length xs / n)
length-in_pieces n f xs kept = length-joined (λ j. f j (piece n j xs)) n (length xs / n)
    (replaced_length n f xs kept)

pub length-in_pieces_whole : {X : Type 0} (n k : ℕ) (f : ℕ → List X → List X) (xs : List X)
    → KeepsLength n f → 0 < n → length xs ≡ n * k
    → length (in_pieces n f xs) ≡ length xs
length-in_pieces_whole n k f xs kept some whole =
    length-in_pieces n f xs kept ∙ ap (λ (x : ℕ). n * x)
    (count_of_pieces n k (length xs) some whole) ∙ sym whole

-- piece j of it is f j of piece j
pub piece-in_pieces : {X : Type 0} (n j : ℕ) (f : ℕ → List X → List X) (xs : List X)
    → KeepsLength n f → j < length xs / n
    → piece n j (in_pieces n f xs) ≡ f j (piece n j xs)
piece-in_pieces n j f xs kept inside
    = piece-joined (λ i. f i (piece n i xs)) n (length xs / n) j (replaced_length n f xs kept) inside

pub piece-in_pieces_whole : {X : Type 0} (n k j : ℕ) (f : ℕ → List X → List X) (xs : List X)
    → KeepsLength n f → 0 < n → length xs ≡ n * k → j < k
    → piece n j (in_pieces n f xs) ≡ f j (piece n j xs)
piece-in_pieces_whole n k j f xs kept some whole inside =
    piece-in_pieces n j f xs kept (subst (λ (c : ℕ). j < c)
    (sym (count_of_pieces n k (length xs) some whole)) inside)

-- the same function of each piece
pub in_pieces_same : {X : Type 0} (n : ℕ) (f g : ℕ → List X → List X) (xs : List X)
    → ((j : ℕ) → j < length xs / n → f j (piece n j xs) ≡ g j (piece n j xs))
    → in_pieces n f xs ≡ in_pieces n g xs
in_pieces_same n f g xs each = joined_same (λ j. f j (piece n j xs)) (λ j. g j (piece n j xs))
    (length xs / n) each

-- a list of whole pieces is its pieces
pub in_pieces_identity : {X : Type 0} (n k : ℕ) (xs : List X) → 0 < n → length xs ≡ n * k
    → in_pieces n (λ j p. p) xs ≡ xs
in_pieces_identity n k xs some whole =
    in_pieces-joined n k (λ j p. p) xs some whole ∙ joined-piece n k xs
    ∙ take_all (n * k) xs (omega arith)

-- nothing else has those pieces
pub in_pieces_alone : {X : Type 0} (n k : ℕ) (f : ℕ → List X → List X) (xs ys : List X) → 0 < n
    → length xs ≡ n * k → length ys ≡ n * k
    → ((j : ℕ) → j < k → piece n j ys ≡ f j (piece n j xs)) → ys ≡ in_pieces n f xs
in_pieces_alone n k f xs ys some whole_xs whole_ys each =
    sym (in_pieces_identity n k ys some whole_ys)
    ∙ in_pieces-joined n k (λ j p. p) ys some whole_ys
    ∙ joined_same (λ j. piece n j ys) (λ j. f j (piece n j xs)) k each
    ∙ sym (in_pieces-joined n k f xs some whole_xs)

-- one replacement after another
pub in_pieces-in_pieces : {X : Type 0} (n : ℕ) (f g : ℕ → List X → List X) (xs : List X)
    → KeepsLength n f → 0 < n
    → in_pieces n g (in_pieces n f xs) ≡ in_pieces n (λ j p. g j (f j p)) xs
in_pieces-in_pieces n f g xs kept some =
    in_pieces-joined n (length xs / n) g (in_pieces n f xs) some (length-in_pieces n f xs kept)
    ∙ joined_same (λ j. g j (piece n j (in_pieces n f xs))) (λ j. g j (f j (piece n j xs)))
    (length xs / n)
    (λ j inside. ap (g j) (piece-in_pieces n j f xs kept inside))

-- if each g j undoes f j, so does the whole
pub in_pieces_undone : {X : Type 0} (n k : ℕ) (f g : ℕ → List X → List X) (xs : List X)
    → KeepsLength n f → 0 < n → length xs ≡ n * k
    → ((j : ℕ) → j < k → g j (f j (piece n j xs)) ≡ piece n j xs)
    → in_pieces n g (in_pieces n f xs) ≡ xs
in_pieces_undone n k f g xs kept some whole undone =
    in_pieces-in_pieces n f g xs kept some
    ∙ sym (in_pieces_alone n k (λ j p. g j (f j p)) xs xs some whole whole
    (λ j inside. sym (undone j inside)))

-- ---- pieces of joined lists

pub piece-append_left : {X : Type 0} (n j : ℕ) (xs ys : List X) → n * j + n ≤ length xs
    → piece n j (xs ++ ys) ≡ piece n j xs
piece-append_left n j xs ys inside =
    ap (take n) (drop-append-le (n * j) xs ys (omega arith))
    ∙ take-append-le n (drop (n * j) xs) ys (omega (arith, length-drop (n * j) xs))

pub piece-append_right : {X : Type 0} (n i j : ℕ) (xs ys : List X) → length xs ≡ n * i
    → piece n (i + j) (xs ++ ys) ≡ piece n j ys
piece-append_right n i j xs ys whole =
    let place : n * (i + j) ≡ n * i + n * j = omega arith in
    ap (λ (x : ℕ). take n (drop x (xs ++ ys))) place
    ∙ ap (take n) (sym (drop-drop (n * j) (n * i) (xs ++ ys)))
    ∙ ap (λ x. take n (drop (n * j) x)) (drop_at xs ys (n * i) whole)

pub in_pieces-append : {X : Type 0} (n i m : ℕ) (f : ℕ → List X → List X) (xs ys : List X) → 0 < n
    → length xs ≡ n * i → length ys ≡ n * m
    → in_pieces n f (xs ++ ys) ≡ in_pieces n f xs ++ in_pieces n (λ j. f (i + j)) ys
in_pieces-append n i m f xs ys some whole_xs whole_ys =
    let whole : length (xs ++ ys) ≡ n * (i + m) = length-append xs ys ∙ omega arith in
    in_pieces-joined n (i + m) f (xs ++ ys) some whole
    ∙ joined-add (λ j. f j (piece n j (xs ++ ys))) i m
    ∙ ap₂ ◌++◌
    (joined_same (λ j. f j (piece n j (xs ++ ys))) (λ j. f j (piece n j xs)) i
    (λ j inside. ap (f j) (piece-append_left n j xs ys
    (piece_of_whole n j i (length xs) whole_xs inside)))
    ∙ sym (in_pieces-joined n i f xs some whole_xs))
    (joined_same (λ j. f (i + j) (piece n (i + j) (xs ++ ys))) (λ j. f (i + j) (piece n j ys)) m
    (λ j inside. ap (f (i + j)) (piece-append_right n i j xs ys whole_xs))
    ∙ sym (in_pieces-joined n m (λ j. f (i + j)) ys some whole_ys))

-- a list of one piece
pub in_pieces_one : {X : Type 0} (n : ℕ) (f : ℕ → List X → List X) (xs : List X) → 0 < n
    → length xs ≡ n → in_pieces n f xs ≡ f 0 xs
unfolding joined
in_pieces_one n f xs some whole =
    let one : length xs ≡ n * 1 = omega arith in
    let start : n * 0 ≡ 0 = mul-zero n in
    in_pieces-joined n 1 f xs some one
    ∙ ap (λ (i : ℕ). f 0 (take n (drop i xs))) start
    ∙ ap (f 0) (take_all n xs (omega arith))
