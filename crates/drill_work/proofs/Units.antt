-- Data units that were copied and deciphered are units of the plain volume, and runs of units join.
--
-- Piece j of what was copied from unit u on is piece u + j of the image. So what deciphering makes of it, piece by piece,
-- is the plain units from u on, and those are the ones that come after the first i.
use Rattle.std.proofs.Common.{◌≡◌, ℕ, ◌+◌, ◌-◌, ◌*◌, ◌/◌, ◌≤◌, List, ◌++◌, length, take, drop, sym, ap, ◌∙◌, arith, add_assoc}
use Rattle.std.specs.Prelude.{slice_range}
use Rattle.std.proofs.lemmas.List.{drop-take, take-take, drop-drop}
use Rattle.vc_base.specs.Bytes.{joined, piece, in_pieces}
use Rattle.vc_base.proofs.Pieces.{joined_same, joined-add}
use Rattle.cascade_set.specs.Volume.{plain_units}

-- a part of a part
inner : (s a n : ℕ) (b : List ℕ) (m : ℕ) → s + m ≡ n → 512 ≤ m → take 512 (drop s (take n (drop a b))) ≡ take 512 (drop (a + s) b)
inner s a n b m e fits =
    ap (λ (k : ℕ). take 512 (drop s (take k (drop a b)))) (sym e)
    ∙ ap (λ (l : List ℕ). take 512 l) (drop-take s m (drop a b))
    ∙ take-take 512 m (drop s (drop a b)) fits
    ∙ ap (λ (l : List ℕ). take 512 l) (drop-drop s a b)

-- piece j of what was copied from unit u on
piece_read : (b xs : List ℕ) (u from to n j : ℕ) → xs ≡ slice_range b from to → from ≡ 512 * u → to ≡ from + n → 512 * j + 512 ≤ n
    → piece 512 j xs ≡ piece 512 (u + j) b
piece_read b xs u from to n j e start end fits =
    let width : to - from ≡ n = omega (arith, end) in
    let place : from + 512 * j ≡ 512 * (u + j) = omega (arith, start) in
    let rest : 512 * j + (n - 512 * j) ≡ n = omega (arith, fits) in
    ap (λ (l : List ℕ). piece 512 j l) e
    ∙ ap (λ (k : ℕ). take 512 (drop (512 * j) (take k (drop from b)))) width
    ∙ inner (512 * j) from n b (n - 512 * j) rest (omega (arith, fits))
    ∙ ap (λ (k : ℕ). take 512 (drop k b)) place

-- all of what was copied, deciphered
pub units_read : (dec : ℕ → List ℕ → List ℕ) (b xs : List ℕ) (u from to n : ℕ) → xs ≡ slice_range b from to → from ≡ 512 * u
    → to ≡ from + n → length xs ≡ n → n ≡ 512 * (n / 512) → in_pieces 512 (λ i x. dec (u + i) x) xs ≡ plain_units dec b u (n / 512)
units_read dec b xs u from to n e start end long whole =
    ap (λ (k : ℕ). joined (λ j. dec (u + j) (piece 512 j xs)) (k / 512)) long
    ∙ joined_same (λ j. dec (u + j) (piece 512 j xs)) (λ j. dec (u + j) (piece 512 (u + j) b)) (n / 512)
    (λ j below. ap (dec (u + j)) (piece_read b xs u from to n j e start end (omega (arith, below, whole))))

-- runs of units join
units-add : (dec : ℕ → List ℕ → List ℕ) (b : List ℕ) (u i m : ℕ) → plain_units dec b u (i + m) ≡ plain_units dec b u i ++ plain_units dec b (u + i) m
units-add dec b u i m =
    joined-add (λ k. dec (u + k) (piece 512 (u + k) b)) i m
    ∙ ap (λ (l : List ℕ). plain_units dec b u i ++ l)
    (joined_same (λ j. dec (u + (i + j)) (piece 512 (u + (i + j)) b)) (λ j. dec (u + i + j) (piece 512 (u + i + j) b)) m
    (λ j below. ap (λ (k : ℕ). dec k (piece 512 k b)) (sym (add_assoc u i j))))

-- the units of the next piece
pub next_units : (dec : ℕ → List ℕ → List ℕ) (b made : List ℕ) (i u n : ℕ) → u ≡ 256 + 512 * i → n ≡ 512
    → made ≡ plain_units dec b u n → plain_units dec b 256 (512 * i) ++ made ≡ plain_units dec b 256 (512 * (i + 1))
next_units dec b made i u n is many deciphered =
    ap (λ (l : List ℕ). plain_units dec b 256 (512 * i) ++ l)
    (deciphered ∙ ap (λ (k : ℕ). plain_units dec b k n) is ∙ ap (plain_units dec b (256 + 512 * i)) many)
    ∙ sym (units-add dec b 256 (512 * i) 512)
    ∙ ap (plain_units dec b 256) (omega arith)
