-- A turn and a join, seen from the pass: its own entries, and those of the passes that ended in it.
use Rattle.std.proofs.Common.{◌≡◌, ◌≢◌, ℕ, zero, suc, ◌<◌, List, [], ◌∷◌, ◌++◌, refl, sym, ap, ◌∙◌, subst, All, AllPairs, Contains, length, arith, append-nil}
use Rattle.std.specs.Prelude.{Option, Some}
use Rattle.hist_lock.specs.declared.view.View.{View}
use Rattle.hist_lock.specs.History.{entries, SameUnder}
use Rattle.hist_lock.specs.Laws.Rule.{Joined}
use Rattle.hist_lock.specs.Laws.Steps.{both}
use Rattle.hist_lock.proofs.Sums.{other_number}
use Rattle.hist_lock.proofs.Entries.{entries-append, entries-all, entries-none}

-- what was taken out of the slot is what was known to be in it
pub taken : {X : Type 0} (found : Option X) (a b : X) (more : List (ℕ × Option X)) → (0, found) ∷ more ≡ (0, Some a) ∷ [] → found ≡ Some b → b ≡ a
taken {X} found a b more e is =
    let head : ◌≡◌ {A = ℕ × Option X} (0, found) (0, Some a) = cc in
    let value : found ≡ Some a = ap (λ (z : ℕ × Option X). z.1) head in cc

module _ {E : Type 0} (number : E → ℕ) (me : ℕ) (under : List ℕ) (seen log es : List E)
    (same : (n : ℕ) → Contains (me ∷ under) n → entries number n log ≡ entries number n seen)
    (own : All (λ e. number e ≡ me) es) where
  -- the pass's own entries grow by those of its turn
  pub own_grow : (mine : List E) → entries number me seen ≡ mine → entries number me (log ++ es) ≡ mine ++ es
  own_grow mine before = entries-append number me log es
      ∙ ((λ i. (same me (0, omega arith, refl) ∙ before) i ++ entries number me es) ∙ ap (λ l. mine ++ l) (entries-all number me es own))

  -- those of the passes that ended in it stay as they are
  pub others_stay : AllPairs (λ a b. a ≢ b) (me ∷ under) → SameUnder number under (log ++ es) seen
  others_stay apart n c = let lt : c.0 < length under = c.1 in entries-append number n log es
      ∙ ((λ i. entries number n log ++ entries-none number n me es (other_number me under n apart c) own i)
      ∙ (append-nil (entries number n log) ∙ same n (suc c.0, omega arith, c.2)))

-- A number of a list is one of the longer list.
later_number : (m : ℕ) (ns : List ℕ) (n : ℕ) → Contains ns n → Contains (m ∷ ns) n
later_number m ns n c = let lt : c.0 < length ns = c.1 in (suc c.0, omega arith, c.2)

-- What a join tells, of the two passes that met.
module _ {T E : Type 0} (number : E → ℕ) (v w : View T E) (seen : List E) (j : Joined number seen (both v w).met) where
  pub joined_own : entries number v.number v.seen ≡ v.mine → entries number v.number seen ≡ v.mine
  joined_own own = j.left_same v.number (0, omega arith, refl) ∙ own

  pub joined_other : entries number w.number w.seen ≡ w.mine → entries number w.number seen ≡ w.mine
  joined_other own = j.right_same w.number (0, omega arith, refl) ∙ own

  pub joined_under : SameUnder number v.under seen v.seen
  joined_under n c = j.left_same n (later_number v.number v.under n c)

  pub joined_other_under : SameUnder number w.under seen w.seen
  joined_other_under n c = j.right_same n (later_number w.number w.under n c)
