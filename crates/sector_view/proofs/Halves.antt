-- Deciphering the first n units of a list and, from the number n later on, the others gives what deciphering all of
-- them gives: a unit's number is that of the first one and its own place, in whichever half it is.
use Rattle.std.proofs.Common.{◌≡◌, ℕ, ◌+◌, ◌*◌, ◌/◌, ◌%◌, List, ◌++◌, length, ap, ap₂, sym, ◌∙◌, add_assoc, arith, length-append}
use Rattle.std.proofs.Math.Nat.{zero-lt-suc}
use Rattle.vc_base.specs.Bytes.{in_pieces, piece}
use Rattle.vc_base.proofs.Pieces.{in_pieces-append, in_pieces_same}

pub halves_joined : (dec : ℕ → List ℕ → List ℕ) (unit n : ℕ) (xs front back front' back' : List ℕ)
    → xs ≡ front ++ back → length front ≡ 512 * n → length xs % 512 ≡ 0
    → front' ≡ in_pieces 512 (λ i u. dec (unit + i) u) front
    → back' ≡ in_pieces 512 (λ i u. dec (unit + n + i) u) back
    → front' ++ back' ≡ in_pieces 512 (λ i u. dec (unit + i) u) xs
halves_joined dec unit n xs front back front' back' parts front_whole whole is_front is_back =
    let m : ℕ = length back / 512 in
    let back_whole : length back ≡ 512 * m = omega (arith, ap length parts, length-append front back) in
    ap₂ ◌++◌ is_front
    (is_back ∙ in_pieces_same 512 (λ i u. dec (unit + n + i) u) (λ i u. dec (unit + (n + i)) u) back
    (λ j within. ap (λ (k : ℕ). dec k (piece 512 j back)) (add_assoc unit n j)))
    ∙ sym (in_pieces-append 512 n m (λ i u. dec (unit + i) u) front back (zero-lt-suc 511) front_whole back_whole)
    ∙ ap (in_pieces 512 (λ i u. dec (unit + i) u)) (sym parts)
