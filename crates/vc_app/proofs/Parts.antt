-- The plain units that were written, part by part.
--
-- u is the first unit, `at` the next one and n the units of a part. What was written before `at` and what the part
-- adds is what was to be written before at + n. If the part was not written whole, it is a prefix of all.
use Rattle.std.proofs.Common.{◌≡◌, ℕ, ◌+◌, ◌-◌, ◌≤◌, List, [], ◌++◌, Option, Some, None, sym, ap, ◌∙◌, subst, arith}
use Rattle.std.specs.Prelude.{IfSome}
use Rattle.std.proofs.lemmas.List.{append-nil}
use Rattle.vc_base.proofs.Pieces.{joined_none}
use Rattle.vc_base.specs.Bytes.{piece}
use Rattle.vc_outside.specs.Told.{Grows, GrowsByFront}
use Rattle.cascade_set.specs.Volume.{plain_units}
use Rattle.vc_app.proofs.Growth.{grows_twice, front_after}
use Rattle.vc_app.proofs.Units.{units-add}

grows_none : (a : Option (List ℕ)) → Grows a a []
grows_none None = tt
grows_none (Some a) = sym (append-nil a)

-- before the first part
pub written_none : (image : Option (List ℕ)) (a : Option (List ℕ)) (dec : ℕ → List ℕ → List ℕ) (u : ℕ)
    → IfSome image (λ b. Grows a a (plain_units dec b u (u - u)))
written_none None a dec u = tt
written_none (Some b) a dec u =
    let none : u - u ≡ 0 = omega arith in
    subst (λ (l : List ℕ). Grows a a l)
    (sym (ap (λ (k : ℕ). plain_units dec b u k) none ∙ joined_none (λ i. dec (u + i) (piece 512 (u + i) b))))
    (grows_none a)

-- the units before `at`, and n from there on
joined_units : (dec : ℕ → List ℕ → List ℕ) (b : List ℕ) (u at n : ℕ) → u ≤ at
    → plain_units dec b u ((at + n) - u) ≡ plain_units dec b u (at - u) ++ plain_units dec b at n
joined_units dec b u at n begun =
    let count : (at + n) - u ≡ (at - u) + n = omega arith in
    let place : u + (at - u) ≡ at = omega arith in
    ap (λ (k : ℕ). plain_units dec b u k) count
    ∙ units-add dec b u (at - u) n
    ∙ ap (λ (k : ℕ). plain_units dec b u (at - u) ++ plain_units dec b k n) place

-- a part more
pub written_more : (image image' : Option (List ℕ)) (a b c : Option (List ℕ)) (dec : ℕ → List ℕ → List ℕ) (u at n m : ℕ)
    → u ≤ at → image' ≡ image → m ≡ n
    → IfSome image (λ x. Grows a b (plain_units dec x u (at - u)))
    → IfSome image' (λ x. Grows b c (plain_units dec x at m))
    → IfSome image (λ x. Grows a c (plain_units dec x u ((at + n) - u)))
written_more None image' a b c dec u at n m begun same size before part = tt
written_more (Some x) image' a b c dec u at n m begun same size before part =
    let here : Grows b c (plain_units dec x at m) = subst (λ (i : Option (List ℕ)). IfSome i (λ x. Grows b c (plain_units dec x at m))) same part in
    subst (λ (l : List ℕ). Grows a c l) (sym (joined_units dec x u at n begun))
    (grows_twice a b c (plain_units dec x u (at - u)) (plain_units dec x at n) before
    (subst (λ (k : ℕ). Grows b c (plain_units dec x at k)) size here))

-- all the units, as those before `at`, n more, and the rest
split_units : (dec : ℕ → List ℕ → List ℕ) (b : List ℕ) (u at n left count : ℕ) → u ≤ at → n ≤ left → at + left ≡ u + count
    → plain_units dec b u (at - u) ++ (plain_units dec b at n ++ plain_units dec b (at + n) (left - n)) ≡ plain_units dec b u count
split_units dec b u at n left count begun fits end =
    let all : (at + left) - u ≡ count = omega arith in
    let parts : n + (left - n) ≡ left = omega arith in
    ap (λ (l : List ℕ). plain_units dec b u (at - u) ++ l) (sym (units-add dec b at n (left - n)))
    ∙ ap (λ (k : ℕ). plain_units dec b u (at - u) ++ plain_units dec b at k) parts
    ∙ sym (joined_units dec b u at left begun)
    ∙ ap (λ (k : ℕ). plain_units dec b u k) all

-- a part that was not written whole
pub stopped : (image image' : Option (List ℕ)) (a b c : Option (List ℕ)) (dec : ℕ → List ℕ → List ℕ) (u at n m left count : ℕ)
    → u ≤ at → n ≤ left → at + left ≡ u + count → image' ≡ image → m ≡ n
    → IfSome image (λ x. Grows a b (plain_units dec x u (at - u)))
    → IfSome image' (λ x. GrowsByFront b c (plain_units dec x at m))
    → IfSome image (λ x. GrowsByFront a c (plain_units dec x u count))
stopped None image' a b c dec u at n m left count begun fits end same size before part = tt
stopped (Some x) image' a b c dec u at n m left count begun fits end same size before part =
    let here : GrowsByFront b c (plain_units dec x at m) =
    subst (λ (i : Option (List ℕ)). IfSome i (λ x. GrowsByFront b c (plain_units dec x at m))) same part in
    subst (λ (l : List ℕ). GrowsByFront a c l) (split_units dec x u at n left count begun fits end)
    (front_after a b c (plain_units dec x u (at - u)) (plain_units dec x at n) (plain_units dec x (at + n) (left - n)) before
    (subst (λ (k : ℕ). GrowsByFront b c (plain_units dec x at k)) size here))

-- after the last part
pub written_all : (image : Option (List ℕ)) (a b : Option (List ℕ)) (dec : ℕ → List ℕ → List ℕ) (u at count : ℕ) → at ≡ u + count
    → IfSome image (λ x. Grows a b (plain_units dec x u (at - u)))
    → IfSome image (λ x. Grows a b (plain_units dec x u count))
written_all None a b dec u at count end before = tt
written_all (Some x) a b dec u at count end before =
    let all : at - u ≡ count = omega arith in
    subst (λ (k : ℕ). Grows a b (plain_units dec x u k)) all before
