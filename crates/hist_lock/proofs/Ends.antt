-- How a lock begins and ends.
--
-- A pass with the whole share is alone: every other live pass would have a positive share of its own. It
-- names every number that was given, so the count of numbers tells by one load whether a pass is alone,
-- and it has seen the whole history, since some live pass has.
use Rattle.std.proofs.Common.{◌≡◌, ◌≢◌, ◌⊎◌, ℕ, zero, suc, ◌+◌, ◌-◌, ◌*◌, ◌^◌, ◌<◌, ◌≤◌, if◌then◌else◌, Bool, true, false, cond, List, [], ◌∷◌, ◌++◌, length, get_or, set, refl, sym, ap, ◌∙◌, subst, inl, inr, ⊎_elim, All, Contains, arith, map}
use Rattle.std.specs.Prelude.{Option, Some, None}
use mathlib.Core.Logic.{dite, ◌↔◌}
use mathlib.Core.Option.{none, some, some-injective, some-ne-none}
use native.Mathlib.Decide.{ℕ_discrete}
use lib.ListN.{get_elem?}
use Rattle.atomic_table.specs.Table.{State, step, keeps, stepped, opening, Allows, Splits, Final, Seen}
use Rattle.atomic_table.proofs.Lists.{at_snoc, at_longer, set_again}
use Rattle.std.proofs.lemmas.List.Elements.{All-weaker}
use Rattle.std.proofs.lemmas.Nat.{pow-add, pow_pos}
use Rattle.std.proofs.Math.Nat.{mul-pos, eq_of_mul-eq-mul_right}
use Rattle.hist_lock.specs.declared.view.View.{View}
use Rattle.hist_lock.specs.History.{StartsWith, entries, SameUnder}
use Rattle.hist_lock.specs.Known.{numbers_of, newcomer, IsWhole, closed}
use Rattle.hist_lock.specs.Laws.Rule.{total, below, share, named, Joined, Knows, Home, Away, Kept}
use Rattle.hist_lock.specs.Laws.Steps.{Sat, closing}
use Rattle.hist_lock.proofs.Sums.{total-append, total-alone, total-length, two_at_most, at_most, below_one, below_there, is, contains}
use Rattle.hist_lock.proofs.Changes.{share_live, named_live, unmoved}
use Rattle.hist_lock.proofs.Turns.{met_nothing, elsewhere}
use Rattle.hist_lock.proofs.Splitting.{one_below}

module _ {T E : Type 0} where
  unnamed_at : (h : ℕ → ℕ) (u : View T E) (b : Bool) → u.live ≡ b → (u.live ≡ true → ⊥) → named h u ≡ 0
  unnamed_at h u true live dead = absurd (dead live)
  unnamed_at h u false gone dead = ap (λ b. if b then total h (numbers_of u) + total h u.spare else 0) gone

  -- who isn't live has no name and no share
  unnamed : (h : ℕ → ℕ) (u : View T E) → (u.live ≡ true → ⊥) → named h u ≡ 0
  unnamed h u dead = unnamed_at h u u.live refl dead

  unshared_at : (top : ℕ) (u : View T E) (b : Bool) → u.live ≡ b → (u.live ≡ true → ⊥) → share top u ≡ 0
  unshared_at top u true live dead = absurd (dead live)
  unshared_at top u false gone dead = ap (λ b. if b then u.part * 2 ^ (top - u.halvings) else 0) gone

  unshared : (top : ℕ) (u : View T E) → (u.live ≡ true → ⊥) → share top u ≡ 0
  unshared top u dead = unshared_at top u u.live refl dead

module _ {T E : Type 0} (stands : T → List E → T → Type 0) (number : E → ℕ) where
  abbrev V : Type 0
  V = View T E

  abbrev St : Type 0
  St = State (Option T) (View T E)

  -- at one place there is one element
  alone_there : (v : V) (i : ℕ) (u : V) → get_elem? (v ∷ []) i ≡ some u → (i ≡ 0) × (v ≡ u)
  alone_there v zero u e = (refl, some-injective v u e)
  alone_there v (suc i) u e = absurd (some-ne-none u (sym e))

  pub opens : (base : T) → stands base [] base → Kept stands number (opening (0 ∷ 0 ∷ 1 ∷ []) (Some base ∷ []) (newcomer {E = E} base))
  opens base stood = let v : V = newcomer base in record {
    base = base;
    log = [];
    top = 0;
    tickets = 0;
    serving = 0;
    given = 1;
    words = refl;
    fits = omega arith;
    order = omega arith;
    shares = refl;
    names = λ h. omega arith;
    callers = λ i d lt. absurd (omega arith);
    last = (0, v, refl, refl, refl);
    apart = λ i j x y e d _ _ _ _ _. (alone_there v i x e).0 ∙ sym (alone_there v j y d).0;
    each = λ i u e _. subst (λ (x : V). Knows number base [] 0 0 0 1 x) (alone_there v i u e).1 record {
      based = refl;
      rest = [];
      prefix = refl;
      ended = λ n c. refl;
      unused = λ n c. refl;
      some_share = omega arith;
      cut = omega arith;
      knows_given = omega arith;
      numbers = λ i d lt. one_below 0 i d lt;
      spare_known = λ i d lt. absurd (omega arith);
      waits = λ (z : false ≡ true). cc;
      holder = λ (z : false ≡ true). cc;
      joined = met_nothing stands number [];
    };
    place = inl record {
      value = base;
      home = refl;
      stood = stood;
      nobody = λ i u e _. sym (ap (λ (z : V). z.holds) (alone_there v i u e).1);
    };
  }

  module _ (s : St) (r : Kept stands number s) (id : ℕ) (v : V) (at : get_elem? s.views id ≡ some v) (live : v.live ≡ true) where
    -- a share of 1 is all units there are
    whole_share : IsWhole v → share r.top v ≡ 2 ^ r.top
    whole_share whole = let k = r.each id v at live in let cut : v.halvings ≤ r.top = k.cut in
        let e : v.halvings + (r.top - v.halvings) ≡ r.top = omega arith in
        share_live r.top v live ∙ (ap (λ z. z * 2 ^ (r.top - v.halvings)) whole ∙ (sym (pow-add 2 v.halvings (r.top - v.halvings)) ∙ ap (λ z. 2 ^ z) e))

    -- and nobody else is live
    pub alone : IsWhole v → (j : ℕ) (u : V) → j ≢ id → get_elem? s.views j ≡ some u → u.live ≡ true → ⊥
    alone whole j u ne there lu = let most = two_at_most (share r.top) s.views j id u v ne there at in let all = r.shares in let mine = whole_share whole in
        let other = share_live r.top u lu in let some_share = mul-pos (r.each j u there lu).some_share (pow_pos (r.top - u.halvings)) in omega arith

    pub named_alone : IsWhole v → (h : ℕ → ℕ) → named h v ≡ below h r.given
    named_alone whole h = sym (total-alone (named h) s.views id v at (λ j u ne e. unnamed h u (λ lu. alone whole j u ne e lu))) ∙ r.names h

    pub counted : IsWhole v → v.spare ≡ [] → r.given ≡ length (numbers_of v)
    counted whole spare = let all = named_alone whole (λ _. 1) in let one = below_one r.given in let mine = named_live (λ _. 1) v live in
        let none : total (λ _. 1) v.spare ≡ 0 = ap (total (λ _. 1)) spare in let len = total-length (numbers_of v) in omega arith

    -- if the pass names all numbers, no other is live
    no_other : v.spare ≡ [] → r.given ≡ length (numbers_of v) → (j : ℕ) (u : V) → j ≢ id → get_elem? s.views j ≡ some u → u.live ≡ true → ⊥
    no_other spare all j u ne there lu = let most = two_at_most (named (λ _. 1)) s.views j id u v ne there at in let sum = r.names (λ _. 1) in let one = below_one r.given in
        let mine = named_live (λ _. 1) v live in let len = total-length (numbers_of v) in let theirs = named_live (λ _. 1) u lu in omega arith

    pub is_whole : v.spare ≡ [] → r.given ≡ length (numbers_of v) → IsWhole v
    is_whole spare all = let k = r.each id v at live in let cut : v.halvings ≤ r.top = k.cut in
        let e : v.halvings + (r.top - v.halvings) ≡ r.top = omega arith in
        let sum = total-alone (share r.top) s.views id v at (λ j u ne there. unshared r.top u (λ lu. no_other spare all j u ne there lu)) in
        let mine = share_live r.top v live in
        let p : v.part * 2 ^ (r.top - v.halvings) ≡ 2 ^ v.halvings * 2 ^ (r.top - v.halvings) = sym mine ∙ (sym sum ∙ (r.shares ∙ (sym (ap (λ z. 2 ^ z) e) ∙ pow-add 2 v.halvings (r.top - v.halvings)))) in
        eq_of_mul-eq-mul_right (2 ^ (r.top - v.halvings)) (pow_pos (r.top - v.halvings)) v.part (2 ^ v.halvings) p

    -- alone, it has seen everything
    pub whole_seen : IsWhole v → v.seen ≡ r.log
    whole_seen whole = let l = r.last in dite (ℕ_discrete l.0 id)
        (λ e. ap (λ (z : V). z.seen) (some-injective v l.1 (sym at ∙ (sym (ap (λ i. get_elem? s.views i) e) ∙ l.2))) ∙ l.4)
        (λ ne. absurd (alone whole l.0 l.1 ne l.2 l.3))

    -- and each entry is under a number that it names
    pub whole_named : IsWhole v → v.spare ≡ [] → All (λ e. Contains (numbers_of v) (number e)) v.seen
    whole_named whole spare = subst (λ es. All (λ e. Contains (numbers_of v) (number e)) es) (sym (whole_seen whole))
        (All-weaker (λ e. number e < r.given) (λ e. Contains (numbers_of v) (number e)) (λ e lt.
        let all = named_alone whole (is (number e)) in let one = below_there (number e) r.given lt in let mine = named_live (is (number e)) v live in
        let none : total (is (number e)) v.spare ≡ 0 = ap (total (is (number e))) spare in contains (numbers_of v) (number e) (omega arith)) r.log r.callers)

  -- the load that decides whether the lock can be closed
  pub closes : (slots id : ℕ) (m : Sat T E) → m.0.live ≡ true → m.0.spare ≡ [] → Allows (Kept stands number) slots id m 2 (λ n. n) (closing (step slots 2 0 0 none) m)
  closes slots id m live spare s r _ at _ = let x : ℕ = get_or s.words 2 0 in let v : V = m.0 in
      let here : x ≡ r.given = ap (λ ws. get_or ws 2 0) r.words in
      let most = at_most (named (λ _. 1)) s.views id v at in let all = r.names (λ _. 1) in let count = below_one r.given in
      let mine = named_live (λ _. 1) v live in let one = total-length (numbers_of v) in
      (v, keeps, tt, unmoved stands number s r 2 id m at, (refl, omega arith, ((λ whole. here ∙ counted s r id v at live whole spare), λ count. is_whole s r id v at live spare (sym here ∙ count))))

  -- a view that asks nothing can be added at any time
  pub remembers : (id : ℕ) (v : V) → Splits (Kept stands number) id v v (closed v)
  remembers id v s r at = let c : V = closed v in
      let dead : (u : V) → c ≡ u → u.live ≡ true → ⊥ = λ u e live. (let f : false ≡ true = ap (λ (z : V). z.live) e ∙ live in cc) in
      let old : (j : ℕ) (u : V) → get_elem? (s.views ++ c ∷ []) j ≡ some u → u.live ≡ true → get_elem? s.views j ≡ some u = λ j u e live. ⊎_elim
      (λ (h : get_elem? s.views j ≡ some u). h) (λ (h : c ≡ u). absurd (dead u h live)) (at_snoc s.views c u j e) in
      subst (λ vs. Kept stands number record { words = s.words; homes = s.homes; views = vs ++ c ∷ [] }) (sym (set_again s.views id v at)) record {
        base = r.base;
        log = r.log;
        top = r.top;
        tickets = r.tickets;
        serving = r.serving;
        given = r.given;
        words = r.words;
        fits = r.fits;
        order = r.order;
        shares = let p = total-append (share r.top) s.views (c ∷ []) in let q : share r.top c ≡ 0 = refl in let all = r.shares in omega arith;
        names = λ h. let p = total-append (named h) s.views (c ∷ []) in let q : named h c ≡ 0 = refl in let all = r.names h in omega arith;
        callers = r.callers;
        last = let l = r.last in (l.0, l.1, at_longer s.views (c ∷ []) l.0 l.1 l.2, l.3, l.4);
        apart = λ i j x y e d lx ly dx dy same. r.apart i j x y (old i x e lx) (old j y d ly) lx ly dx dy same;
        each = λ j u e lu. r.each j u (old j u e lu) lu;
        place = ⊎_elim
            (λ (h : Home stands r.base r.log s.homes s.views). inl record {
              value = h.value;
              home = h.home;
              stood = h.stood;
              nobody = λ j u e lu. h.nobody j u (old j u e lu) lu;
            })
            (λ (a : Away s.homes s.views). inr record {
              seat = a.seat;
              known = a.known;
              away = a.away;
              at = at_longer s.views (c ∷ []) a.seat a.known a.at;
              live = a.live;
              holds = a.holds;
            })
            r.place;
      }

  -- what the last state says of the slot, if one pass has the whole share
  pub record Last (v : V) (slots : List (Option T)) : Type 0 where
    pub value : T
    pub base : T
    pub slot : get_elem? slots 0 ≡ some (Some value)
    pub based : v.base ≡ Some base
    pub stood : stands base v.seen value
    pub named_all : All (λ e. Contains (numbers_of v) (number e)) v.seen

  pub ends : (id : ℕ) (v : V) (ws : List ℕ) (xs : List (Option T)) → v.live ≡ true → v.holds ≡ false → v.spare ≡ [] → IsWhole v → Final (Seen (Kept stands number) id v) ws xs → Last v xs
  ends id v ws xs live empty spare whole f = let s : St = f.0 in let r = f.1.0 in let at = f.1.1 in let seen = whole_seen s r id v at live whole in let k = r.each id v at live in ⊎_elim
      (λ (h : Home stands r.base r.log s.homes s.views). record {
        value = h.value;
        base = r.base;
        slot = f.4 0 (Some h.value) (ap (λ hs. get_elem? hs 0) h.home);
        based = k.based;
        stood = subst (λ l. stands r.base l h.value) (sym seen) h.stood;
        named_all = whole_named s r id v at live whole spare;
      })
      (λ (a : Away s.homes s.views). dite (ℕ_discrete a.seat id)
      (λ e. absurd (elsewhere stands number s r id v a at empty e))
      (λ ne. absurd (alone s r id v at live whole a.seat a.known ne a.at a.live)))
      r.place

-- What the slot holds is read once.
module _ {X : Type 0} where
  pub same_slot : (slots : List (Option X)) (a b : X) → get_elem? slots 0 ≡ some (Some a) → get_elem? slots 0 ≡ some (Some b) → a ≡ b
  same_slot slots a b e d = let both : Some a ≡ Some b = some-injective (Some a) (Some b) (sym e ∙ d) in cc

  pub not_empty : (slots : List (Option X)) (a : X) → get_elem? slots 0 ≡ some None → get_elem? slots 0 ≡ some (Some a) → ⊥
  not_empty slots a e d = let both : None ≡ Some a = some-injective None (Some a) (sym e ∙ d) in cc
