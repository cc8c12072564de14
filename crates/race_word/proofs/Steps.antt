-- Each step on the word keeps the rule.
--
-- A step changes the word to itself or to a lesser named number, and the view of one runner, whose bound is then
-- the new word. The others' bounds were no less than the old word, so they are no less than the new one.
use Rattle.std.proofs.Common.{◌≡◌, ◌≢◌, ℕ, ◌<◌, ◌≤◌, true, false, List, [], ◌∷◌, ◌++◌, get_or, set, refl, sym, ap, ◌∙◌, subst, ⊎_elim, arith}
use Rattle.std.specs.Prelude.{Some, min, unwrap_or}
use mathlib.Core.Logic.{dite}
use native.Mathlib.Decide.{dec_le}
use mathlib.Core.Option.{none, some}
use lib.ListN.{get_elem?}
use Rattle.atomic_table.specs.Table.{Me, step, keeps, Allows, Splits, Joins}
use Rattle.atomic_table.proofs.Lists.{at_set, at_snoc}
use Rattle.race_word.specs.declared.view.Key.{Key}
use Rattle.race_word.specs.declared.view.View.{View}
use Rattle.race_word.specs.Laws.Rule.{Knows, Kept}
use Rattle.race_word.specs.Laws.Steps.{told, Told, looked, offered, spent}

some_same : {X : Type 0} {x y : X} → Some x ≡ Some y → x ≡ y
some_same {X} {x} {y} e = ap (λ r. unwrap_or r x) e

module _ {R : Type 0} where
  -- what holds of the new view, and of the views before, holds of the views after
  at_change : (P : View R → Type 0) (vs : List (View R)) (i : ℕ) (w : View R) → (w.live ≡ true → P w)
      → ((j : ℕ) (u : View R) → get_elem? vs j ≡ some u → u.live ≡ true → P u)
      → (j : ℕ) (u : View R) → get_elem? (set vs i w) j ≡ some u → u.live ≡ true → P u
  at_change P vs i w mine others j u e = ⊎_elim
      (λ (t : (j ≡ i) × (w ≡ u)). subst (λ (z : View R). z.live ≡ true → P z) t.1 mine)
      (λ (t : (j ≢ i) × (get_elem? vs j ≡ some u)). others j u t.1)
      (at_set vs i j w u e)

  at_end : (P : View R → Type 0) (vs : List (View R)) (w : View R) → (w.live ≡ true → P w)
      → ((j : ℕ) (u : View R) → get_elem? vs j ≡ some u → u.live ≡ true → P u)
      → (j : ℕ) (u : View R) → get_elem? (vs ++ w ∷ []) j ≡ some u → u.live ≡ true → P u
  at_end P vs w mine others j u e = ⊎_elim
      (λ (t : get_elem? vs j ≡ some u). others j u t)
      (λ (t : w ≡ u). subst (λ (z : View R). z.live ≡ true → P z) t mine)
      (at_snoc vs w u j e)

module _ {R : Type 0} (names : R → ℕ → Type 0) (key : Key R) where
  -- the runner's view after a step
  knows : (word bound : ℕ) (v : View R) (n : ℕ) → word ≤ bound → Knows key n v → Knows key word (told n bound v)
  knows word bound v n le k = record { names = k.names; limit = k.limit; bound = le }

  lesser : (word word' : ℕ) (v : View R) → word' ≤ word → Knows key word v → Knows key word' v
  lesser word word' v le k = let b = k.bound in record { names = k.names; limit = k.limit; bound = omega (arith, b, le) }

  is_told : (v : View R) (n : ℕ) → Knows key n v → (n ≢ key.limit → names key.names n) → Told names v n
  is_told v n k named = record {
    never_rises = k.bound;
    named = λ r is other. subst (λ (x : R). names x n) (some_same (sym k.names ∙ is))
        (named (λ e. other (e ∙ sym k.limit)));
  }

  -- the lesser of two named numbers
  lesser_named : (x k limit : ℕ) → k < limit → (x ≢ limit → names key.names x) → names key.names k
      → (min x k ≢ limit → names key.names (min x k))
  lesser_named x k limit low is is' other = dite (dec_le x k)
      (λ le. let e : min x k ≡ x = omega (arith, le) in
      subst (λ (n : ℕ). names key.names n) (sym e) (is (λ at. other (e ∙ at))))
      (λ gt. let e : min x k ≡ k = omega (arith, gt) in subst (λ (n : ℕ). names key.names n) (sym e) is')

module _ {S R : Type 0} (names : R → ℕ → Type 0) (key : Key R) where
  pub looks : (slots id : ℕ) (m : Me S (View R)) → m.0.live ≡ true
      → Allows (Kept {R = R} {S = S} names key) slots id m 0 (λ n. n) (looked names (step slots 0 0 0 none) m)
  looks slots id m live s r _ at _ =
      let x : ℕ = get_or s.words 0 0 in let v : View R = m.0 in let bound : ℕ = min v.bound x in
      let here : x ≡ r.word = ap (λ ws. get_or ws 0 0) r.words in
      let k : Knows key r.word v = r.each id v at live in
      let kx : Knows key x v = subst (λ (n : ℕ). Knows key n v) (sym here) k in
      let low : r.word ≤ v.bound = k.bound in (
        told x bound v,
        keeps,
        tt,
        record {
          word = x;
          words = ap (λ ws. set ws 0 (get_or ws 0 0)) r.words ∙ ap (λ (n : ℕ). n ∷ []) (sym here);
          named = λ other. subst (λ (n : ℕ). names key.names n) (sym here) (r.named (λ e. other (here ∙ e)));
          each = at_change (Knows key x) s.views id (told x bound v)
              (λ _. knows names key x bound v x (omega (arith, low, here)) kx)
              (λ j u e l. subst (λ (n : ℕ). Knows key n u) (sym here) (r.each j u e l));
        },
        (refl, is_told names key v x kx (λ other. subst (λ (n : ℕ). names key.names n) (sym here) (r.named (λ e. other (here ∙ e))))),
      )

  pub offers : (slots id k : ℕ) (m : Me S (View R)) → m.0.live ≡ true → k < key.limit → names key.names k
      → Allows (Kept {R = R} {S = S} names key) slots id m 0 (λ n. min n k) (offered names (step slots 0 k 0 none) m)
  offers slots id k m live small is s r _ at _ =
      let x : ℕ = get_or s.words 0 0 in let v : View R = m.0 in let bound : ℕ = min (min v.bound x) k in
      let here : x ≡ r.word = ap (λ ws. get_or ws 0 0) r.words in
      let known : Knows key r.word v = r.each id v at live in
      let kx : Knows key x v = subst (λ (n : ℕ). Knows key n v) (sym here) known in
      let low : r.word ≤ v.bound = known.bound in
      let named : x ≢ key.limit → names key.names x
      = λ other. subst (λ (n : ℕ). names key.names n) (sym here) (r.named (λ e. other (here ∙ e))) in
      let le : min x k ≤ x = omega arith in (
        told x bound v,
        keeps,
        tt,
        record {
          word = min x k;
          words = ap (λ ws. set ws 0 (min (get_or ws 0 0) k)) r.words ∙ ap (λ (n : ℕ). min n k ∷ []) (sym here);
          named = lesser_named names key x k key.limit small named is;
          each = at_change (Knows key (min x k)) s.views id (told x bound v)
              (λ _. knows names key (min x k) bound v x (omega (arith, low, here)) kx)
              (λ j u e l. lesser names key x (min x k) u le (subst (λ (n : ℕ). Knows key n u) (sym here) (r.each j u e l)));
        },
        (refl, is_told names key v x kx named),
      )

  pub splits : (id : ℕ) (v : View R) → v.live ≡ true → Splits (Kept {R = R} {S = S} names key) id v v v
  splits id v live s r at = record {
    word = r.word;
    words = r.words;
    named = r.named;
    each = at_end (Knows key r.word) (set s.views id v) v (λ _. r.each id v at live)
        (at_change (Knows key r.word) s.views id v (λ _. r.each id v at live) r.each);
  }

  pub joins : (id : ℕ) (v : View R) (other : ℕ) (w : View R) → v.live ≡ true
      → Joins (Kept {R = R} {S = S} names key) id v other w v spent
  joins id v other w live s r at _ _ = record {
    word = r.word;
    words = r.words;
    named = r.named;
    each = at_change (Knows key r.word) (set s.views id v) other spent (λ (l : false ≡ true). cc)
        (at_change (Knows key r.word) s.views id v (λ _. r.each id v at live) r.each);
  }
