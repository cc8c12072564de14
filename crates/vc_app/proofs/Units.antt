-- Data units that were read and deciphered are units of the plain volume; runs of units join.
--
-- What is read from byte 512u on is the image's pieces from u on: piece j of it is piece u + j of the image. So what
-- deciphering makes of it, piece by piece, is the plain units from u on. And the units from u on are the first i of
-- them and then those from u + i on.
use Rattle.std.proofs.Common.{◌≡◌, ℕ, ◌+◌, ◌-◌, ◌*◌, ◌/◌, ◌≤◌, List, ◌++◌, length, take, drop, Option, Some, None, sym, ap, ◌∙◌, subst, arith, add_assoc}
use Rattle.std.specs.Prelude.{IfSome, slice_range}
use Rattle.std.proofs.lemmas.List.{drop-take, take-take, drop-drop}
use Rattle.vc_base.specs.Bytes.{piece, in_pieces}
use Rattle.vc_base.proofs.Pieces.{joined_same, joined-add}
use Rattle.cascade_set.specs.Volume.{plain_units}
use Rattle.vc_app.specs.Laws.Units.{AreUnits}

-- a part of a part
inner : (s a n : ℕ) (b : List ℕ) (m : ℕ) → s + m ≡ n → 512 ≤ m → take 512 (drop s (take n (drop a b))) ≡ take 512 (drop (a + s) b)
inner s a n b m e fits =
    ap (λ (k : ℕ). take 512 (drop s (take k (drop a b)))) (sym e)
    ∙ ap (λ (l : List ℕ). take 512 l) (drop-take s m (drop a b))
    ∙ take-take 512 m (drop s (drop a b)) fits
    ∙ ap (λ (l : List ℕ). take 512 l) (drop-drop s a b)

-- piece j of what was read from unit u on
piece_read : (b xs : List ℕ) (u n j : ℕ) → xs ≡ slice_range b (u * 512) (u * 512 + n) → 512 * j + 512 ≤ n → piece 512 j xs ≡ piece 512 (u + j) b
piece_read b xs u n j e fits =
    let width : (u * 512 + n) - u * 512 ≡ n = omega arith in
    let place : u * 512 + 512 * j ≡ 512 * (u + j) = omega arith in
    let rest : 512 * j + (n - 512 * j) ≡ n = omega arith in
    ap (λ (l : List ℕ). piece 512 j l) e
    ∙ ap (λ (k : ℕ). take 512 (drop (512 * j) (take k (drop (u * 512) b)))) width
    ∙ inner (512 * j) (u * 512) n b (n - 512 * j) rest (omega arith)
    ∙ ap (λ (k : ℕ). take 512 (drop k b)) place

units_read : (dec : ℕ → List ℕ → List ℕ) (b xs : List ℕ) (u : ℕ) → xs ≡ slice_range b (u * 512) (u * 512 + length xs)
    → in_pieces 512 (λ i x. dec (u + i) x) xs ≡ plain_units dec b u (length xs / 512)
units_read dec b xs u e =
    joined_same (λ j. dec (u + j) (piece 512 j xs)) (λ j. dec (u + j) (piece 512 (u + j) b)) (length xs / 512)
    (λ j below. ap (dec (u + j)) (piece_read b xs u (length xs) j e (omega arith)))

-- what holds of the bytes that deciphering makes of units holds of the plain units
pub plain_of_units : (image : Option (List ℕ)) (dec : ℕ → List ℕ → List ℕ) (xs made : List ℕ) (u : ℕ) (P : List ℕ → Type 0)
    → AreUnits image u xs → made ≡ in_pieces 512 (λ i x. dec (u + i) x) xs → P made
    → IfSome image (λ b. P (plain_units dec b u (length xs / 512)))
plain_of_units None dec xs made u P are m holds = tt
plain_of_units (Some b) dec xs made u P are m holds = subst P (m ∙ units_read dec b xs u are) holds

-- what a read leaves
pub units_read_whole : (image : Option (List ℕ)) (u n : ℕ) (out : List ℕ) → length out ≡ n
    → IfSome image (λ b. out ≡ slice_range b (u * 512) (u * 512 + n)) → AreUnits image u out
units_read_whole image u n out long read =
    subst (λ (k : ℕ). IfSome image (λ b. out ≡ slice_range b (u * 512) (u * 512 + k))) (sym long) read

-- equal bytes of an equal image
pub same_units : (image image' : Option (List ℕ)) (u u' : ℕ) (xs ys : List ℕ) → image' ≡ image → u' ≡ u → ys ≡ xs
    → AreUnits image u xs → AreUnits image' u' ys
same_units image image' u u' xs ys same place equal are =
    subst (λ (i : Option (List ℕ)). AreUnits i u' ys) (sym same)
    (subst (λ (k : ℕ). AreUnits image k ys) (sym place) (subst (λ (l : List ℕ). AreUnits image u l) (sym equal) are))

-- runs of units join
pub units-add : (dec : ℕ → List ℕ → List ℕ) (b : List ℕ) (u i m : ℕ) → plain_units dec b u (i + m) ≡ plain_units dec b u i ++ plain_units dec b (u + i) m
units-add dec b u i m =
    joined-add (λ k. dec (u + k) (piece 512 (u + k) b)) i m
    ∙ ap (λ (l : List ℕ). plain_units dec b u i ++ l)
    (joined_same (λ j. dec (u + (i + j)) (piece 512 (u + (i + j)) b)) (λ j. dec (u + i + j) (piece 512 (u + i + j) b)) m
    (λ j below. ap (λ (k : ℕ). dec k (piece 512 k b)) (sym (add_assoc u i j))))
