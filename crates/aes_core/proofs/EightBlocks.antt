-- Groups of eight blocks, as bytes and as rows.
use Rattle.std.proofs.Common.{◌≡◌, ◌<◌, ◌≤◌, ◌*◌, List, [], ◌∷◌, ◌++◌, ◌/◌, ◌%◌, ℕ, length, take, slice_index_or, refl, sym, ap, ap₂, ◌∙◌, arith, lit<}
use Rattle.std.proofs.lemmas.List.{take_at}
use Rattle.std.specs.Simd.{first_chunks}
use Rattle.vc_base.specs.Bytes.{IsBytes, piece, joined, in_pieces}
use Rattle.vc_base.proofs.Bytes.{IsBytes-piece, length-xor_bytes}
use Rattle.vc_base.proofs.Chunks.{chunk_is_piece}
use Rattle.vc_base.proofs.Pieces.{joined_same, in_pieces-joined, in_pieces-append, length-in_pieces_whole, length-piece}
use Rattle.aes_core.specs.Aes.{cipher, inverse_cipher, add_round_key, shift_rows, inverse_sub_bytes}
use Rattle.aes_core.specs.Laws.Planes.{plane, block_of, rows, ArePlanes, by_rows, Transposed}
use Rattle.aes_core.proofs.Moves.{turned_twice}
use Rattle.aes_core.proofs.OnPlanes.{below_eight}

pub rows_of_chunks : (n : ℕ) (g : List ℕ) (cs : List (List ℕ)) → cs ≡ first_chunks 16 n g → 8 ≤ n
    → slice_index_or cs 0 [] ∷ slice_index_or cs 1 [] ∷ slice_index_or cs 2 [] ∷ slice_index_or cs 3 []
    ∷ slice_index_or cs 4 [] ∷ slice_index_or cs 5 [] ∷ slice_index_or cs 6 [] ∷ slice_index_or cs 7 [] ∷ []
    ≡ rows g
rows_of_chunks n g cs are enough =
    let one : (i : ℕ) → i < 8 → (xs ys : List (List ℕ)) → xs ≡ ys → slice_index_or cs i [] ∷ xs ≡ piece 16 i g ∷ ys
    = λ i below xs ys rest. ap₂ ◌∷◌ (ap (λ (c : List (List ℕ)). slice_index_or c i []) are ∙ chunk_is_piece 16 n g i (omega arith)) rest in
    one 0 (lit< tt) _ _ (one 1 (lit< tt) _ _ (one 2 (lit< tt) _ _ (one 3 (lit< tt) _ _
    (one 4 (lit< tt) _ _ (one 5 (lit< tt) _ _ (one 6 (lit< tt) _ _ (one 7 (lit< tt) _ _ refl)))))))

pub rows_are_planes : (g : List ℕ) → IsBytes 128 g → ArePlanes (rows g)
rows_are_planes g bytes =
    let one : (i : ℕ) → i < 8 → IsBytes 16 (piece 16 i g) = λ i below. IsBytes-piece 128 16 i g bytes (omega arith) in
    record {
      each = below_eight (λ i. IsBytes 16 (plane (rows g) i)) (one 0 (lit< tt)) (one 1 (lit< tt)) (one 2 (lit< tt)) (one 3 (lit< tt))
          (one 4 (lit< tt)) (one 5 (lit< tt)) (one 6 (lit< tt)) (one 7 (lit< tt));
    }

-- block k of the planes that are made of a group
pub start_of : (g : List ℕ) (x t y : List (List ℕ)) → length g ≡ 128 → x ≡ rows g
    → ((k : ℕ) → k < 8 → plane t k ≡ by_rows (plane x k)) → Transposed t y → (k : ℕ) → k < 8 → block_of y k ≡ piece 16 k g
start_of g x t y long is turns transposed k below =
    transposed.blocks k below
    ∙ ap by_rows (turns k below ∙ ap (λ (p : List (List ℕ)). by_rows (plane p k)) is
    ∙ ap by_rows (below_eight (λ k. plane (rows g) k ≡ piece 16 k g) refl refl refl refl refl refl refl refl k below))
    ∙ turned_twice (piece 16 k g) (length-piece 16 k g (omega arith))

block_turned : (x : List (List ℕ)) (k : ℕ) → by_rows (by_rows (block_of x k)) ≡ block_of x k
unfolding by_rows
block_turned x k = refl

-- and the group that is made of planes, each block of which is what f makes
pub eight_written : (f : List ℕ → List ℕ) (x y t : List (List ℕ)) (old now : List ℕ) → length old ≡ 128 → Transposed x y
    → ((k : ℕ) → k < 8 → plane t k ≡ by_rows (plane y k)) → now ≡ joined (plane t) 8
    → ((k : ℕ) → k < 8 → block_of x k ≡ f (piece 16 k old)) → now ≡ in_pieces 16 (λ _ b. f b) old
eight_written f x y t old now long transposed turns written each =
    written
    ∙ joined_same (plane t) (λ k. f (piece 16 k old)) 8
    (λ k below. turns k below ∙ ap by_rows (transposed.rows k below) ∙ block_turned x k ∙ each k below)
    ∙ sym (in_pieces-joined 16 8 (λ _ b. f b) old (omega arith) long)

-- the first blocks of a group that is filled up with others
pub front_of : (f : List ℕ → List ℕ) (n : ℕ) (xs ys zs group : List ℕ) → ((b : List ℕ) → length (f b) ≡ 16) → n ≡ length xs
    → n % 16 ≡ 0 → length zs % 16 ≡ 0 → ys ≡ xs → group ≡ in_pieces 16 (λ _ b. f b) (ys ++ zs)
    → take n group ≡ in_pieces 16 (λ _ b. f b) xs
front_of f n xs ys zs group keeps exact whole rest same made =
    let g : ℕ → List ℕ → List ℕ = λ _ b. f b in
    let count : length xs ≡ 16 * (n / 16) = omega arith in
    let front : length (in_pieces 16 g xs) ≡ length xs
    = length-in_pieces_whole 16 (n / 16) g xs (record { keeps = λ j p _. keeps p }) (omega arith) count in
    ap (take n) (made ∙ ap (λ (b : List ℕ). in_pieces 16 g (b ++ zs)) same
    ∙ in_pieces-append 16 (n / 16) (length zs / 16) g xs zs (omega arith) count (omega arith))
    ∙ take_at (in_pieces 16 g xs) (in_pieces 16 g zs) n (front ∙ sym exact)

pub none_of : (f : List ℕ → List ℕ) (xs : List ℕ) → length xs ≡ 0 → xs ≡ in_pieces 16 (λ _ b. f b) xs
unfolding joined
none_of f [] none = refl
none_of f (x ∷ xs) none = absurd (omega arith)

-- what the cipher and its inverse make has 16 bytes
pub cipher_length : (w b : List ℕ) → length w ≡ 240 → length (cipher w b) ≡ 16
unfolding cipher add_round_key shift_rows
cipher_length w b long = length-xor_bytes 16 _ (piece 16 14 w) refl (length-piece 16 14 w (omega arith))

pub inverse_cipher_length : (w b : List ℕ) → length w ≡ 240 → length (inverse_cipher w b) ≡ 16
unfolding inverse_cipher add_round_key inverse_sub_bytes
inverse_cipher_length w b long = length-xor_bytes 16 _ (piece 16 0 w) refl (length-piece 16 0 w (omega arith))
