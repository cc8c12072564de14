-- XTS keeps stretches of m whole blocks, and its two directions undo each other.
--
-- What the cipher makes of blocks is blocks, and so is a tweak. So block j of what `xts` makes is the whitened block j,
-- and whitening it the other way cancels each mask and leaves the block.
use Rattle.std.proofs.Common.{◌≡◌, ℕ, ◌+◌, ◌*◌, ◌/◌, ◌%◌, ◌^◌, ◌<◌, List, refl, sym, ap, subst, ◌∙◌, arith}
use Rattle.std.proofs.Math.Nat.{zero-lt-suc, le_of_eq}
use Rattle.vc_base.specs.Bytes.{IsBytes, from_bytes, to_bytes, xor_bytes, piece}
use Rattle.vc_base.specs.Polynomial.{coefficients, remainder}
use Rattle.vc_base.proofs.Pieces.{piece-joined, piece_of_whole, in_pieces-joined, in_pieces_alone}
use Rattle.vc_base.proofs.Bytes.{IsBytes-to_bytes, IsBytes-xor, IsBytes-piece, IsBytes-in_pieces, xor_bytes_cancel}
use Rattle.cipher_base.specs.Field.{xts_polynomial}
use Rattle.cipher_base.specs.Xts.{tweak, whitened, xts}

pub IsBytes-tweak : (tweak_of : List ℕ → List ℕ) (n j : ℕ) → IsBytes 16 (tweak tweak_of n j)
IsBytes-tweak tweak_of n j =
    IsBytes-to_bytes 16 (remainder 128 xts_polynomial (coefficients (j + 128) (2 ^ j * from_bytes (tweak_of (to_bytes 16 n)))))

pub IsBytes-whitened : (main : List ℕ → List ℕ) (t p : List ℕ) → ((b : List ℕ) → IsBytes 16 b → IsBytes 16 (main b))
    → IsBytes 16 t → IsBytes 16 p → IsBytes 16 (whitened main t p)
IsBytes-whitened main t p keeps tb pb = IsBytes-xor 16 (main (xor_bytes p t)) t (keeps (xor_bytes p t) (IsBytes-xor 16 p t pb tb)) tb

pub IsBytes-xts : (m : ℕ) (main tweak_of : List ℕ → List ℕ) (n : ℕ) (u : List ℕ)
    → ((b : List ℕ) → IsBytes 16 b → IsBytes 16 (main b)) → IsBytes (16 * m) u
    → IsBytes (16 * m) (xts main tweak_of n u)
IsBytes-xts m main tweak_of n u keeps bytes =
    IsBytes-in_pieces 16 m (λ j p. whitened main (tweak tweak_of n j) p) u (zero-lt-suc 15) bytes
    (λ j p h pb. IsBytes-whitened main (tweak tweak_of n j) p keeps (IsBytes-tweak tweak_of n j) pb)

-- a mask of the same length cancels itself
cancelled : (p t : List ℕ) → IsBytes 16 p → IsBytes 16 t → xor_bytes (xor_bytes p t) t ≡ p
cancelled p t pb tb = xor_bytes_cancel p t (le_of_eq (pb.count ∙ sym tb.count))

whitened_undone : (main back : List ℕ → List ℕ) (t p : List ℕ) → ((b : List ℕ) → IsBytes 16 b → IsBytes 16 (main b))
    → ((b : List ℕ) → IsBytes 16 b → back (main b) ≡ b) → IsBytes 16 t → IsBytes 16 p
    → whitened back t (whitened main t p) ≡ p
whitened_undone main back t p keeps undoes tb pb =
    let masked = IsBytes-xor 16 p t pb tb in
    ap (λ x. xor_bytes (back x) t) (cancelled (main (xor_bytes p t)) t (keeps (xor_bytes p t) masked) tb)
    ∙ ap (λ x. xor_bytes x t) (undoes (xor_bytes p t) masked)
    ∙ cancelled p t pb tb

-- block j of what xts made
piece-xts : (m : ℕ) (main tweak_of : List ℕ → List ℕ) (n j : ℕ) (u : List ℕ)
    → ((b : List ℕ) → IsBytes 16 b → IsBytes 16 (main b)) → IsBytes (16 * m) u → j < m
    → piece 16 j (xts main tweak_of n u) ≡ whitened main (tweak tweak_of n j) (piece 16 j u)
piece-xts m main tweak_of n j u keeps bytes within =
    let f : ℕ → List ℕ → List ℕ = λ i p. whitened main (tweak tweak_of n i) p in
    ap (piece 16 j) (in_pieces-joined 16 m f u (zero-lt-suc 15) bytes.count)
    ∙ piece-joined (λ i. f i (piece 16 i u)) 16 m j
    (λ i h. (IsBytes-whitened main (tweak tweak_of n i) (piece 16 i u) keeps (IsBytes-tweak tweak_of n i)
    (IsBytes-piece (16 * m) 16 i u bytes (piece_of_whole 16 i m (16 * m) refl h))).count)
    within

pub xts_undone : (m : ℕ) (main back tweak_of : List ℕ → List ℕ) (n : ℕ) (u : List ℕ)
    → ((b : List ℕ) → IsBytes 16 b → IsBytes 16 (main b)) → ((b : List ℕ) → IsBytes 16 b → back (main b) ≡ b)
    → IsBytes (16 * m) u → xts back tweak_of n (xts main tweak_of n u) ≡ u
xts_undone m main back tweak_of n u keeps undoes bytes =
    sym (in_pieces_alone 16 m (λ j p. whitened back (tweak tweak_of n j) p) (xts main tweak_of n u) u (zero-lt-suc 15)
    (IsBytes-xts m main tweak_of n u keeps bytes).count bytes.count
    (λ j h. sym (ap (whitened back (tweak tweak_of n j)) (piece-xts m main tweak_of n j u keeps bytes h)
    ∙ whitened_undone main back (tweak tweak_of n j) (piece 16 j u) keeps undoes (IsBytes-tweak tweak_of n j)
    (IsBytes-piece (16 * m) 16 j u bytes (piece_of_whole 16 j m (16 * m) refl h)))))

-- the same for a stretch of l bytes
pub xts_undone_whole : (l : ℕ) (main back tweak_of : List ℕ → List ℕ) (n : ℕ) (u : List ℕ)
    → ((b : List ℕ) → IsBytes 16 b → IsBytes 16 (main b)) → ((b : List ℕ) → IsBytes 16 b → back (main b) ≡ b)
    → l % 16 ≡ 0 → IsBytes l u → xts back tweak_of n (xts main tweak_of n u) ≡ u
xts_undone_whole l main back tweak_of n u keeps undoes whole bytes =
    let blocks : l ≡ 16 * (l / 16) = omega arith in
    xts_undone (l / 16) main back tweak_of n u keeps undoes (subst (λ k. IsBytes k u) blocks bytes)
