-- What is stored of a fragment deciphers to it.
use Rattle.std.proofs.Common.{◌≡◌, ◌<◌, ◌≤◌, ℕ, ◌+◌, ◌*◌, ◌^◌, List, Option, Some, None, length, refl, sym, ap, subst, ◌∙◌, arith, lit<}
use Rattle.std.specs.Prelude.{IfSome}
use Rattle.vc_base.specs.Bytes.{IsBytes, in_pieces, piece}
use Rattle.vc_base.proofs.Bytes.{IsBytes-in_pieces, IsBytes-piece}
use Rattle.vc_base.proofs.Pieces.{in_pieces-joined, piece-joined, piece_of_whole}
use Rattle.vc_outside.specs.Told.{Both, SameOutside, written}
use Rattle.vc_outside.proofs.Writes.{written-outside}
use Rattle.sector_model.proofs.Overwritten.{piece_within}
use Rattle.io_core.specs.Laws.Sealed.{Deciphers}

module _ (enc dec : ℕ → List ℕ → List ℕ) (first k : ℕ) (within : first + k ≤ 2 ^ 55) (xs : List ℕ) (bytes : IsBytes (512 * k) xs)
    (is_unit : (n : ℕ) (u : List ℕ) → n < 2 ^ 64 → IsBytes 512 u → IsBytes 512 (enc n u))
    (undone : (n : ℕ) (u : List ℕ) → n < 2 ^ 64 → IsBytes 512 u → dec n (enc n u) ≡ u) where
  abbrev pub sealed : List ℕ
  sealed = in_pieces 512 (λ i u. enc (first + i) u) xs

  piece_bytes : (j : ℕ) → j < k → IsBytes 512 (piece 512 j xs)
  piece_bytes j below = IsBytes-piece (512 * k) 512 j xs bytes (piece_of_whole 512 j k (512 * k) refl below)

  sealed_bytes : IsBytes (512 * k) sealed
  sealed_bytes = IsBytes-in_pieces 512 k (λ i u. enc (first + i) u) xs (lit< tt) bytes
      (λ j p below is. is_unit (first + j) p (omega arith) is)

  pub length-sealed : length sealed ≡ length xs
  length-sealed = sealed_bytes.count ∙ sym bytes.count

  pub piece-sealed : (j : ℕ) → j < k → piece 512 j sealed ≡ enc (first + j) (piece 512 j xs)
  piece-sealed j below =
      ap (piece 512 j) (in_pieces-joined 512 k (λ i u. enc (first + i) u) xs (lit< tt) bytes.count)
      ∙ piece-joined (λ i. enc (first + i) (piece 512 i xs)) 512 k j
      (λ i inside. (is_unit (first + i) (piece 512 i xs) (omega arith) (piece_bytes i inside)).count) below

  pub deciphers : (b : List ℕ) → 512 * first + 512 * k ≤ length b → Deciphers dec first xs (written (512 * first) sealed b)
  deciphers b inside j below =
      let small : j < k = omega (arith, bytes.count) in
      ap (dec (first + j)) (piece_within 512 first k sealed b inside sealed_bytes.count j small ∙ piece-sealed j small)
      ∙ undone (first + j) (piece 512 j xs) (omega arith) (piece_bytes j small)

  pub stored : (x y : Option (List ℕ)) (size : ℕ) → 512 * first + length xs ≤ size → IfSome x (λ b. length b ≡ size)
      → (ys : List ℕ) → ys ≡ sealed → Both x y (λ b c. c ≡ written (512 * first) ys b) → Both x y (λ _ c. Deciphers dec first xs c)
  stored None y size inside whole ys is h = tt
  stored (Some b) None size inside whole ys is h = h
  stored (Some b) (Some c) size inside whole ys is h =
      subst (Deciphers dec first xs) (sym (h ∙ ap (λ l. written (512 * first) l b) is)) (deciphers b (omega (arith, bytes.count)))

  pub outside : (x y : Option (List ℕ)) (size : ℕ) → 512 * first + length xs ≤ size → IfSome x (λ b. length b ≡ size)
      → (ys : List ℕ) → ys ≡ sealed → Both x y (λ b c. c ≡ written (512 * first) ys b) → Both x y (SameOutside (512 * first) (length xs))
  outside None y size inside whole ys is h = tt
  outside (Some b) None size inside whole ys is h = h
  outside (Some b) (Some c) size inside whole ys is h =
      let long : length ys ≡ length xs = ap length is ∙ length-sealed in
      subst (λ (n : ℕ). SameOutside (512 * first) n b c) long
      (subst (SameOutside (512 * first) (length ys) b) (sym h) (written-outside (512 * first) ys b (omega arith)))
