-- What each step tells the pass that takes it: of the step, the seat before, the number found and the seat after.
--
-- drew                    the draw of a ticket
-- looked                  a look at the ticket that is served; where it is the pass's own, the value is taken
-- passed es               the turn is passed on, with the value home and the entries es added
-- gave                    a number is given
-- met                     the load after a join
-- closing                 the load that decides whether the lock can be closed
use Rattle.std.specs.Prelude.{◌≡◌, ◌≢◌, ◌↔◌, ℕ, ◌+◌, ◌*◌, ◌^◌, ◌≤◌, max, true, false, List, [], ◌∷◌, ◌++◌, length, AllPairs, Option, Some, None}
use Rattle.atomic_table.specs.Table.{Me, Step}
use Rattle.hist_lock.specs.declared.view.View.{View}
use Rattle.hist_lock.specs.History.{StartsWith, entries, SameUnder}
use Rattle.hist_lock.specs.Known.{numbers_of, IsWhole, met_nobody, longer}
use Rattle.hist_lock.specs.Laws.Rule.{Joined}

abbrev pub Sat : Type 0 → Type 0 → Type 0
Sat T E = Me (Option T) (View T E)

abbrev pub first_of : List ℕ → ℕ
first_of [] = 0
first_of (n ∷ ns) = n

module _ {T E : Type 0} where
  -- a pass that isn't in a turn, and one that has drawn a ticket and waits for its turn
  abbrev pub Idle : Sat T E → Type 0
  Idle m = (m.1 ≡ []) × (m.0.live ≡ true) × (m.0.drawn ≡ false) × (m.0.holds ≡ false)

  abbrev pub Waits : ℕ → Sat T E → Type 0
  Waits ticket m = (m.1 ≡ []) × (m.0.live ≡ true) × (m.0.drawn ≡ true) × (m.0.holds ≡ false) × (m.0.ticket ≡ ticket)

  abbrev pub queued : ℕ → View T E → View T E
  queued ticket v = record v { drawn = true; ticket = ticket }

  abbrev pub drew : Step (Option T) → Sat T E → ℕ → Sat T E → Type 0
  drew st m n m' = (n ≡ st.first → m' ≡ (queued n m.0, m.1)) × (n ≢ st.first → m' ≡ m)

  -- it has seen the whole history, and has the value
  abbrev pub holding : List E → View T E → View T E
  holding log v = record v { seen = log; holds = true; met = met_nobody }

  pub record Holds (stands : T → List E → T → Type 0) (number : E → ℕ) (m m' : Sat T E) : Type 0 where
    pub log : List E
    pub value : T
    pub base : T
    pub based : m.0.base ≡ Some base
    pub seat : m' ≡ (holding log m.0, (0, Some value) ∷ [])
    pub stood : stands base log value
    pub later : StartsWith log m.0.seen
    pub same : SameUnder number (numbers_of m.0) log m.0.seen

  abbrev pub looked : (T → List E → T → Type 0) → (E → ℕ) → Step (Option T) → Sat T E → ℕ → Sat T E → Type 0
  looked stands number st m n m' = (n ≡ m.0.ticket → Holds stands number m m') × (n ≢ m.0.ticket → m' ≡ m)

  abbrev pub done : List E → View T E → View T E
  done es v = record v { seen = v.seen ++ es; mine = v.mine ++ es; drawn = false; holds = false; met = met_nobody }

  abbrev pub passed : List E → Step (Option T) → Sat T E → ℕ → Sat T E → Type 0
  passed es st m n m' = m' ≡ (done es m.0, [])

  abbrev pub numbered : ℕ → View T E → View T E
  numbered n v = record v { spare = n ∷ []; given = n + 1 }

  abbrev pub gave : (E → ℕ) → Step (Option T) → Sat T E → ℕ → Sat T E → Type 0
  gave number st m n m' = (n ≡ st.first → (m' ≡ (numbered n m.0, m.1)) × (m.0.given ≤ n) × (entries number n m.0.seen ≡ [])) × (n ≢ st.first → m' ≡ m)

  abbrev pub met : (E → ℕ) → Step (Option T) → Sat T E → ℕ → Sat T E → Type 0
  met number st m n m' = (m' ≡ m) × Joined number m.0.seen m.0.met × (length (numbers_of m.0) ≤ n) × AllPairs (λ a b. a ≢ b) (numbers_of m.0)

  abbrev pub closing : Step (Option T) → Sat T E → ℕ → Sat T E → Type 0
  closing st m n m' = (m' ≡ m) × (length (numbers_of m.0) ≤ n) × (IsWhole m.0 ↔ n ≡ length (numbers_of m.0))

  -- the two passes after a split
  abbrev pub kept_half : View T E → View T E
  kept_half v = record v { halvings = v.halvings + 1; spare = [] }

  abbrev pub new_half : View T E → View T E
  new_half v = record v { halvings = v.halvings + 1; spare = []; mine = []; number = first_of v.spare; under = []; met = met_nobody }

  abbrev pub both : View T E → View T E → View T E
  both v w = record v {
    part = v.part * 2 ^ w.halvings + w.part * 2 ^ v.halvings;
    halvings = v.halvings + w.halvings;
    seen = longer v.seen w.seen;
    under = v.under ++ w.number ∷ w.under;
    given = max v.given w.given;
    met = record { seen = v.seen; other_seen = w.seen; numbers = numbers_of v; other_numbers = numbers_of w };
  }

  abbrev pub spent : View T E
  spent = record {
    live = false;
    part = 0;
    halvings = 0;
    base = None;
    seen = [];
    mine = [];
    number = 0;
    under = [];
    given = 0;
    spare = [];
    drawn = false;
    ticket = 0;
    holds = false;
    met = met_nobody;
  }
