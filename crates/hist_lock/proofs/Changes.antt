-- One step changes the view of one seat, the words and perhaps the slot.
--
-- `Change` says what has to hold of such a step, and `changed` that the rule holds after it. The sums of
-- shares and names change by that one view; each other pass must know its facts of the new state.
use Rattle.std.proofs.Common.{◌≡◌, ◌≢◌, ◌⊎◌, ℕ, zero, suc, ◌+◌, ◌-◌, ◌*◌, ◌^◌, ◌<◌, ◌≤◌, if◌then◌else◌, Bool, true, false, cond, mul-zero, List, [], ◌∷◌, ◌++◌, length, get_or, set, refl, sym, ap, ◌∙◌, subst, inl, inr, ⊎_elim, All, Contains, arith}
use Rattle.std.specs.Prelude.{Option, Some}
use mathlib.Core.Logic.{dite}
use mathlib.Core.Option.{none, some, some-injective}
use mathlib.Core.Option as maybe
use native.Mathlib.Decide.{ℕ_discrete}
use lib.ListN.{get_elem?}
use lib.Seq.{set-get_or}
use Rattle.atomic_table.specs.Table.{State, keeps, stepped}
use Rattle.atomic_table.proofs.Lists.{at_set, set_again, set_here, set_else}
use Rattle.std.proofs.lemmas.Nat.{pow-add}
use Rattle.hist_lock.specs.declared.view.View.{View}
use Rattle.hist_lock.specs.History.{StartsWith, entries, SameUnder}
use Rattle.hist_lock.specs.Known.{numbers_of}
use Rattle.hist_lock.specs.Laws.Rule.{total, below, share, named, Joined, Knows, Home, Away, Kept}
use Rattle.hist_lock.specs.Laws.Steps.{Sat}
use Rattle.hist_lock.proofs.Sums.{total-set, two_at_most, is, below_once, contained}

crossed : (a b c : ℕ) → a * (b * c) ≡ b * (a * c)
crossed a b c = omega arith

module _ {T E : Type 0} where
  pub share_live : (top : ℕ) (v : View T E) → v.live ≡ true → share top v ≡ v.part * 2 ^ (top - v.halvings)
  share_live top v live = ap (λ b. if b then v.part * 2 ^ (top - v.halvings) else 0) live

  pub named_live : (h : ℕ → ℕ) (v : View T E) → v.live ≡ true → named h v ≡ total h (numbers_of v) + total h v.spare
  named_live h v live = ap (λ b. if b then total h (numbers_of v) + total h v.spare else 0) live

  -- what holds of the new view at its place, and of the others at theirs, holds at each place
  pub at_change : (P : ℕ → View T E → Type 0) (vs : List (View T E)) (i : ℕ) (w : View T E) → P i w
      → ((j : ℕ) (u : View T E) → j ≢ i → get_elem? vs j ≡ some u → P j u)
      → (j : ℕ) (u : View T E) → get_elem? (set vs i w) j ≡ some u → P j u
  at_change P vs i w mine others j u e = ⊎_elim
      (λ (t : (j ≡ i) × (w ≡ u)). subst (λ (z : ℕ × View T E). P z.0 z.1) (λ k. (sym t.0 k, t.1 k)) mine)
      (λ (t : (j ≢ i) × (get_elem? vs j ≡ some u)). others j u t.0 t.1)
      (at_set vs i j w u e)

  pub in_range : (vs : List (View T E)) (i : ℕ) (v w : View T E) → get_elem? vs i ≡ some v → get_elem? (set vs i w) i ≡ some w
  in_range [] i v w e = absurd (maybe.some-ne-none v (sym e))
  in_range (x ∷ xs) zero v w e = refl
  in_range (x ∷ xs) (suc i) v w e = in_range xs i v w e

module _ {T E : Type 0} (number : E → ℕ) where
  -- more tickets and more numbers change nothing that a pass knows
  pub later : (base : T) (log : List E) (top t g n t' n' : ℕ) (u : View T E) → t ≤ t' → n ≤ n' → Knows number base log top t g n u → Knows number base log top t' g n' u
  later base log top t g n t' n' u more_tickets more_numbers k = let known : u.given ≤ n = k.knows_given in record {
    based = k.based;
    rest = k.rest;
    prefix = k.prefix;
    ended = k.ended;
    unused = k.unused;
    some_share = k.some_share;
    cut = k.cut;
    knows_given = omega arith;
    numbers = k.numbers;
    spare_known = k.spare_known;
    waits = λ d. let q = k.waits d in (q.0, omega arith);
    holder = k.holder;
    joined = k.joined;
  }

module _ {T E : Type 0} (stands : T → List E → T → Type 0) (number : E → ℕ) where
  abbrev V : Type 0
  V = View T E

  abbrev St : Type 0
  St = State (Option T) (View T E)

  abbrev pub Rule : State (Option T) (View T E) → Type 0
  Rule = Kept stands number

  pub record Change (s : State (Option T) (View T E)) (r : Kept stands number s) (id : ℕ) (v w : View T E) (ws : List ℕ) (hs : List (maybe.Option (Option T))) (log : List E) (tickets serving given : ℕ) : Type 0 where
    pub words : ws ≡ tickets ∷ serving ∷ given ∷ []
    pub fits : tickets < 2 ^ 64
    pub order : serving ≤ tickets
    pub live : w.live ≡ true
    pub same_share : share r.top w ≡ share r.top v
    pub names : (h : ℕ → ℕ) → named h w + below h r.given ≡ named h v + below h given
    pub callers : All (λ e. number e < given) log
    pub last : (i : ℕ) × (u : View T E) × (get_elem? (set s.views id w) i ≡ some u) × (u.live ≡ true) × (u.seen ≡ log)
    pub apart : (j : ℕ) (u : View T E) → j ≢ id → get_elem? s.views j ≡ some u → u.live ≡ true → w.drawn ≡ true → u.drawn ≡ true → w.ticket ≡ u.ticket → ⊥
    pub mine : Knows number r.base log r.top tickets serving given w
    pub others : (j : ℕ) (u : View T E) → j ≢ id → get_elem? s.views j ≡ some u → u.live ≡ true
        → Knows number r.base r.log r.top r.tickets r.serving r.given u → Knows number r.base log r.top tickets serving given u
    pub place : Home stands r.base log hs (set s.views id w) ⊎ Away hs (set s.views id w)

  -- passes at two places have two tickets
  module _ (s : State (Option T) (View T E)) (r : Kept stands number s) (id : ℕ) (w : View T E)
      (far : (j : ℕ) (u : View T E) → j ≢ id → get_elem? s.views j ≡ some u → u.live ≡ true → w.drawn ≡ true → u.drawn ≡ true → w.ticket ≡ u.ticket → ⊥) where
    pub two_tickets : (i j : ℕ) (x y : View T E) → get_elem? (set s.views id w) i ≡ some x → get_elem? (set s.views id w) j ≡ some y
        → x.live ≡ true → y.live ≡ true → x.drawn ≡ true → y.drawn ≡ true → x.ticket ≡ y.ticket → i ≢ j → ⊥
    two_tickets i j x y e d lx ly dx dy same ne = ⊎_elim
        (λ (a : (i ≡ id) × (w ≡ x)). ⊎_elim
        (λ (b : (j ≡ id) × (w ≡ y)). ne (a.0 ∙ sym b.0))
        (λ (b : (j ≢ id) × (get_elem? s.views j ≡ some y)). far j y b.0 b.1 ly (ap (λ (z : V). z.drawn) a.1 ∙ dx) dy (ap (λ (z : V). z.ticket) a.1 ∙ same))
        (at_set s.views id j w y d))
        (λ (a : (i ≢ id) × (get_elem? s.views i ≡ some x)). ⊎_elim
        (λ (b : (j ≡ id) × (w ≡ y)). far i x a.0 a.1 lx (ap (λ (z : V). z.drawn) b.1 ∙ dy) dx (ap (λ (z : V). z.ticket) b.1 ∙ sym same))
        (λ (b : (j ≢ id) × (get_elem? s.views j ≡ some y)). ne (r.apart i j x y a.1 b.1 lx ly dx dy same))
        (at_set s.views id j w y d))
        (at_set s.views id i w x e)

  pub changed : (s : State (Option T) (View T E)) (r : Kept stands number s) (id : ℕ) (v w : View T E) (ws : List ℕ) (hs : List (maybe.Option (Option T))) (log : List E) (tickets serving given : ℕ)
      → get_elem? s.views id ≡ some v → Change s r id v w ws hs log tickets serving given → Kept stands number record { words = ws; homes = hs; views = set s.views id w }
  changed s r id v w ws hs log tickets serving given at c = record {
    base = r.base;
    log = log;
    top = r.top;
    tickets = tickets;
    serving = serving;
    given = given;
    words = c.words;
    fits = c.fits;
    order = c.order;
    shares = let a = total-set (share r.top) s.views id v w at in let b = r.shares in let d = c.same_share in omega arith;
    names = λ h. let a = total-set (named h) s.views id v w at in let b = r.names h in let d = c.names h in omega arith;
    callers = c.callers;
    last = c.last;
    apart = λ i j x y e d lx ly dx dy same. dite (ℕ_discrete i j) (λ is. is) (λ ne. absurd (two_tickets s r id w c.apart i j x y e d lx ly dx dy same ne));
    each = at_change (λ i x. x.live ≡ true → Knows number r.base log r.top tickets serving given x) s.views id w (λ _. c.mine)
        (λ j u ne e live. c.others j u ne e live (r.each j u e live));
    place = c.place;
  }

  -- a step that changes nothing
  pub unmoved : (s : State (Option T) (View T E)) → Kept stands number s → (i id : ℕ) (m : Sat T E) → get_elem? s.views id ≡ some m.0 → Kept stands number (stepped s i (get_or s.words i 0) id m.1 m.0 keeps)
  unmoved s r i id m at = subst (λ (z : List ℕ × List V). Kept stands number record { words = z.0; homes = s.homes; views = z.1 })
      (λ k. (sym (set-get_or s.words i 0) k, sym (set_again s.views id m.0 at) k)) r

  -- no two passes have one number
  pub foreign : (s : State (Option T) (View T E)) (r : Kept stands number s) (i j : ℕ) (v u : View T E) (n : ℕ) → i ≢ j → get_elem? s.views i ≡ some v → get_elem? s.views j ≡ some u
      → v.live ≡ true → u.live ≡ true → 1 ≤ total (is n) (numbers_of v) + total (is n) v.spare → 1 ≤ total (is n) (numbers_of u) + total (is n) u.spare → ⊥
  foreign s r i j v u n ne at there lv lu a b =
      let most = two_at_most (named (is n)) s.views i j v u ne at there in
      let p = named_live (is n) v lv in let q = named_live (is n) u lu in let all = r.names (is n) in let once = below_once n r.given in omega arith

-- Shares in smaller units.
module _ {T E : Type 0} where
  share_dead : (top : ℕ) (v : View T E) → v.live ≡ false → share top v ≡ 0
  share_dead top v dead = ap (λ b. if b then v.part * 2 ^ (top - v.halvings) else 0) dead

  finer_at : (b : Bool) (k top : ℕ) (u : View T E) → u.live ≡ b → (u.live ≡ true → u.halvings ≤ top) → share (k + top) u ≡ 2 ^ k * share top u
  finer_at true k top u live cut = let c : u.halvings ≤ top = cut live in
      let d : (k + top) - u.halvings ≡ k + (top - u.halvings) = omega arith in
      let e : 2 ^ ((k + top) - u.halvings) ≡ 2 ^ k * 2 ^ (top - u.halvings) = ap (λ z. 2 ^ z) d ∙ pow-add 2 k (top - u.halvings) in
      share_live (k + top) u live ∙ (ap (λ z. u.part * z) e ∙ (crossed u.part (2 ^ k) (2 ^ (top - u.halvings)) ∙ ap (λ z. 2 ^ k * z) (sym (share_live top u live))))
  finer_at false k top u dead cut = let p = share_dead (k + top) u dead in let q = share_dead top u dead in
      p ∙ (sym (mul-zero (2 ^ k)) ∙ ap (λ z. 2 ^ k * z) (sym q))

  -- in units 2^k times as small a share is 2^k times as many
  pub finer : (k top : ℕ) (u : View T E) → (u.live ≡ true → u.halvings ≤ top) → share (k + top) u ≡ 2 ^ k * share top u
  finer k top u cut = finer_at u.live k top u refl cut

module _ {T E : Type 0} (number : E → ℕ) where
  pub raised : (base : T) (log : List E) (k top t g n : ℕ) (u : View T E) → Knows number base log top t g n u → Knows number base log (k + top) t g n u
  raised base log k top t g n u known = let cut : u.halvings ≤ top = known.cut in record {
    based = known.based;
    rest = known.rest;
    prefix = known.prefix;
    ended = known.ended;
    unused = known.unused;
    some_share = known.some_share;
    cut = omega arith;
    knows_given = known.knows_given;
    numbers = known.numbers;
    spare_known = known.spare_known;
    waits = known.waits;
    holder = known.holder;
    joined = known.joined;
  }
