-- The rule of the table. There is one history, in proofs alone, and each live pass has seen a prefix of it.
--
-- total f xs              f of each element of xs, added up
-- below h n               h of each number below n, added up
-- share top v             the share of v in units of 1 / 2^top; 0 where v isn't live
-- named h v               the numbers of v, and the spare one, each weighed by h; 0 where v isn't live
-- Knows .. v              what holds of each live pass
-- Kept .. s               the rule
use Rattle.std.specs.Prelude.{◌≡◌, ◌⊎◌, ℕ, zero, suc, ◌+◌, ◌-◌, ◌*◌, ◌^◌, ◌<◌, ◌≤◌, if◌then◌else◌, true, false, List, [], ◌∷◌, ◌++◌, All, Contains, Option, Some}
use mathlib.Core.Option.{none, some}
use mathlib.Core.Option as maybe
use lib.ListN.{get_elem?}
use Rattle.atomic_table.specs.Table.{State}
use Rattle.hist_lock.specs.declared.view.View.{View}
use Rattle.hist_lock.specs.declared.view.Met.{Met}
use Rattle.hist_lock.specs.History.{StartsWith, entries, SameUnder}
use Rattle.hist_lock.specs.Known.{numbers_of}

abbrev pub total : {X : Type 0} → (X → ℕ) → List X → ℕ
total f [] = 0
total f (x ∷ xs) = f x + total f xs

abbrev pub below : (ℕ → ℕ) → ℕ → ℕ
below h zero = 0
below h (suc n) = below h n + h n

-- What a join found is still true: a turn of the joined pass forgets it.
pub record Joined {E : Type 0} (number : E → ℕ) (seen : List E) (met : Met E) : Type 0 where
  pub left : StartsWith seen met.seen
  pub right : StartsWith seen met.other_seen
  pub left_same : SameUnder number met.numbers seen met.seen
  pub right_same : SameUnder number met.other_numbers seen met.other_seen

module _ {T E : Type 0} where
  abbrev pub share : ℕ → View T E → ℕ
  share top v = if v.live then v.part * 2 ^ (top - v.halvings) else 0

  abbrev pub named : (ℕ → ℕ) → View T E → ℕ
  named h v = if v.live then total h (numbers_of v) + total h v.spare else 0

  pub record Knows (number : E → ℕ) (base : T) (log : List E) (top tickets serving given : ℕ) (v : View T E) : Type 0 where
    pub based : v.base ≡ Some base
    -- what it hasn't seen of the history, in which none of its numbers has an entry
    pub rest : List E
    pub prefix : log ≡ v.seen ++ rest
    pub ended : (n : ℕ) → Contains (numbers_of v) n → entries number n rest ≡ []
    pub unused : (n : ℕ) → Contains v.spare n → entries number n log ≡ []
    pub some_share : 0 < v.part
    pub cut : v.halvings ≤ top
    pub knows_given : v.given ≤ given
    pub numbers : All (λ n. n < v.given) (numbers_of v)
    pub spare_known : All (λ n. n < v.given) v.spare
    pub waits : v.drawn ≡ true → (serving ≤ v.ticket) × (v.ticket < tickets)
    pub holder : v.holds ≡ true → (v.drawn ≡ true) × (v.ticket ≡ serving) × (v.seen ≡ log)
    pub joined : Joined number v.seen v.met

  -- The value is in the slot, and stands for the history.
  pub record Home (stands : T → List E → T → Type 0) (base : T) (log : List E) (homes : List (maybe.Option (Option T))) (views : List (View T E)) : Type 0 where
    pub value : T
    pub home : homes ≡ some (Some value) ∷ []
    pub stood : stands base log value
    pub nobody : (i : ℕ) (v : View T E) → get_elem? views i ≡ some v → v.live ≡ true → v.holds ≡ false

  -- The holder of a turn has it.
  pub record Away (homes : List (maybe.Option (Option T))) (views : List (View T E)) : Type 0 where
    pub seat : ℕ
    pub known : View T E
    pub away : homes ≡ none ∷ []
    pub at : get_elem? views seat ≡ some known
    pub live : known.live ≡ true
    pub holds : known.holds ≡ true

  pub record Kept (stands : T → List E → T → Type 0) (number : E → ℕ) (s : State (Option T) (View T E)) : Type 0 where
    pub base : T
    pub log : List E
    pub top : ℕ
    pub tickets : ℕ
    pub serving : ℕ
    pub given : ℕ
    pub words : s.words ≡ tickets ∷ serving ∷ given ∷ []
    pub fits : tickets < 2 ^ 64
    pub order : serving ≤ tickets
    pub shares : total (share top) s.views ≡ 2 ^ top
    -- each number that was given has one live pass that names it, and no other number has one
    pub names : (h : ℕ → ℕ) → total (named h) s.views ≡ below h given
    pub callers : All (λ e. number e < given) log
    pub last : (i : ℕ) × (v : View T E) × (get_elem? s.views i ≡ some v) × (v.live ≡ true) × (v.seen ≡ log)
    -- no two passes have one ticket
    pub apart : (i j : ℕ) (v w : View T E) → get_elem? s.views i ≡ some v → get_elem? s.views j ≡ some w → v.live ≡ true → w.live ≡ true
        → v.drawn ≡ true → w.drawn ≡ true → v.ticket ≡ w.ticket → i ≡ j
    pub each : (i : ℕ) (v : View T E) → get_elem? s.views i ≡ some v → v.live ≡ true → Knows number base log top tickets serving given v
    pub place : Home stands base log s.homes s.views ⊎ Away s.homes s.views
