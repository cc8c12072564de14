-- Histories, which grow at the end.
use Rattle.std.proofs.Common.{◌≡◌, ◌≢◌, ◌⊎◌, ℕ, zero, suc, ◌+◌, ◌<◌, ◌≤◌, ◌==◌, nat_lt, if◌then◌else◌, true, false, cond, List, [], ◌∷◌, ◌++◌, length, filter, refl, sym, ap, ◌∙◌, subst, All, Contains, arith, eq-eqb, ne_eqb, append_assoc, append-nil, length-append}
use mathlib.Core.Logic.{dite}
use native.Mathlib.Decide.{ℕ_discrete, dec_lt}
use Rattle.std.proofs.lemmas.List.Elements.{filter-append, All-head, All-tail}
use Rattle.std.proofs.lemmas.Bool.Decides.{nat_tests}
use Rattle.hist_lock.specs.History.{StartsWith, entries, SameUnder}
use Rattle.hist_lock.specs.Known.{longer}

module _ {E : Type 0} where
  pub starts : (seen : List E) → StartsWith seen seen
  starts seen = ([], sym (append-nil seen))

  pub starts_later : (log more seen : List E) → StartsWith log seen → StartsWith (log ++ more) seen
  starts_later log more seen h = (h.0 ++ more, ap (λ l. l ++ more) h.1 ∙ append_assoc seen h.0 more)

  -- of two prefixes of one list, the shorter is a prefix of the longer
  pub between : (a b r q : List E) → a ++ r ≡ b ++ q → length a ≤ length b → (m : List E) × (b ≡ a ++ m) × (r ≡ m ++ q)
  between [] b r q e le = (b, refl, e)
  between (x ∷ a) [] r q e le = absurd (omega arith)
  between (x ∷ a) (y ∷ b) r q e le =
      let s : a ++ r ≡ b ++ q = cc in
      let h : x ≡ y = cc in
      let t = between a b r q s (omega arith) in
      (t.0, ap (λ l. y ∷ l) t.1 ∙ ap (λ z. z ∷ (a ++ t.0)) (sym h), t.2)

  pub longer_first : (a b : List E) → length b ≤ length a → longer a b ≡ a
  longer_first a b le = grind (arith, nat_tests)

  pub longer_second : (a b : List E) → length a < length b → longer a b ≡ b
  longer_second a b lt = grind (arith, nat_tests)

module _ {E : Type 0} (number : E → ℕ) where
  pub entries-append : (n : ℕ) (es fs : List E) → entries number n (es ++ fs) ≡ entries number n es ++ entries number n fs
  entries-append n es fs = filter-append (λ e. number e == n) es fs

  -- entries under one number, all and none
  pub entries-all : (n : ℕ) (es : List E) → All (λ e. number e ≡ n) es → entries number n es ≡ es
  entries-all n [] all = refl
  entries-all n (e ∷ es) all = let P : E → Type 0 = λ e. number e ≡ n in
      rw (eq-eqb (number e) n (All-head P e es all)) (ap (λ l. e ∷ l) (entries-all n es (All-tail P e es all)))

  pub entries-none : (n m : ℕ) (es : List E) → n ≢ m → All (λ e. number e ≡ m) es → entries number n es ≡ []
  entries-none n m [] ne all = refl
  entries-none n m (e ∷ es) ne all = let P : E → Type 0 = λ e. number e ≡ m in
      rw (ne_eqb (number e) n (λ h. ne (sym h ∙ All-head P e es all))) (entries-none n m es ne (All-tail P e es all))

  pub entries-fresh : (n : ℕ) (es : List E) → All (λ e. number e < n) es → entries number n es ≡ []
  entries-fresh n [] all = refl
  entries-fresh n (e ∷ es) all = let P : E → Type 0 = λ e. number e < n in let lt : number e < n = All-head P e es all in
      rw (ne_eqb (number e) n (λ h. omega arith)) (entries-fresh n es (All-tail P e es all))

  -- what comes after has none: the prefix has them all
  pub entries_before : (n : ℕ) (log seen rest : List E) → log ≡ seen ++ rest → entries number n rest ≡ [] → entries number n log ≡ entries number n seen
  entries_before n log seen rest e none = ap (entries number n) e ∙ (entries-append n seen rest ∙ (ap (λ l. entries number n seen ++ l) none ∙ append-nil (entries number n seen)))

  nothing_after : (xs ys : List E) → xs ++ ys ≡ [] → ys ≡ []
  nothing_after [] ys e = e
  nothing_after (x ∷ xs) ys e = cc

  nothing : (xs ys : List E) → xs ++ ys ≡ [] → xs ≡ []
  nothing [] ys e = refl
  nothing (x ∷ xs) ys e = cc

  -- a list between two prefixes has none if what comes after the first has none
  pub entries_between : (n : ℕ) (r m q : List E) → r ≡ m ++ q → entries number n r ≡ [] → entries number n m ≡ []
  entries_between n r m q e none = nothing (entries number n m) (entries number n q) (sym (entries-append n m q) ∙ (ap (entries number n) (sym e) ∙ none))

  -- a suffix has none if the list has none
  pub entries_after : (n : ℕ) (log seen rest : List E) → log ≡ seen ++ rest → entries number n log ≡ [] → entries number n rest ≡ []
  entries_after n log seen rest e none = nothing_after (entries number n seen) (entries number n rest) (sym (entries-append n seen rest) ∙ (ap (entries number n) (sym e) ∙ none))
