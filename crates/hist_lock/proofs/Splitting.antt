-- A split: a number is given to the splitting pass, and then its view is cut in two.
--
-- The number is fresh, since all entries and all names are below it. The shares are counted in units half
-- as large afterwards: then every other share is twice as many units, and the two halves are as many
-- units each as the whole was.
use Rattle.std.proofs.Common.{◌≡◌, ◌≢◌, ◌⊎◌, ℕ, zero, suc, ◌+◌, ◌-◌, ◌*◌, ◌^◌, ◌<◌, ◌≤◌, if◌then◌else◌, Bool, true, false, cond, eqb, List, [], ◌∷◌, ◌++◌, length, get_or, set, refl, sym, ap, ◌∙◌, subst, inl, inr, ⊎_elim, All, Contains, arith, eq-eqb, ne_eqb, append_assoc, append-nil}
use Rattle.std.specs.Prelude.{Option, Some}
use mathlib.Core.Logic.{dite}
use mathlib.Core.Option.{none, some, some-injective}
use native.Mathlib.Decide.{ℕ_discrete}
use lib.ListN.{get_elem?}
use prog.Atomic.{either}
use Rattle.atomic_table.specs.Table.{State, Act, step, keeps, stepped, Allows, Splits}
use Rattle.atomic_table.proofs.Lists.{at_set, at_snoc, at_longer, set_again, set_else}
use Rattle.std.proofs.lemmas.List.Elements.{All-weaker, Contains-append_cases}
use Rattle.std.proofs.lemmas.Nat.{pow-add, pow_pos}
use Rattle.hist_lock.specs.declared.view.View.{View}
use Rattle.hist_lock.specs.History.{StartsWith, entries, SameUnder}
use Rattle.hist_lock.specs.Known.{numbers_of, met_nobody}
use Rattle.hist_lock.specs.Laws.Rule.{total, below, share, named, Joined, Knows, Home, Away, Kept}
use Rattle.hist_lock.specs.Laws.Steps.{Sat, numbered, gave, first_of, kept_half, new_half}
use Rattle.hist_lock.proofs.Sums.{total-append, total-set, total-scaled, is, contained, is_same}
use Rattle.hist_lock.proofs.Entries.{entries-fresh, entries_between, entries_after}
use Rattle.hist_lock.proofs.Changes.{share_live, named_live, finer, at_change, in_range, later, raised, Change, changed, unmoved}
use Rattle.hist_lock.proofs.Turns.{same_last, same_place, met_nothing, elsewhere}

only_at : (x n k : ℕ) → k < 1 → get_or (x ∷ []) k n ≡ n → x ≡ n
only_at x n zero lt e = e
only_at x n (suc k) lt e = absurd (omega arith)

-- a list of one number has that number alone
pub only : (x n : ℕ) → Contains (x ∷ []) n → x ≡ n
only x n c = only_at x n c.0 c.1 c.2

pub one_below : (x i d : ℕ) → i < 1 → get_or (x ∷ []) i d < x + 1
one_below x zero d lt = omega arith
one_below x (suc i) d lt = absurd (omega arith)

one_under : (x g i d : ℕ) → x < g → i < 1 → get_or (x ∷ []) i d < g
one_under x g zero d below lt = below
one_under x g (suc i) d below lt = absurd (omega arith)

module _ {T E : Type 0} (stands : T → List E → T → Type 0) (number : E → ℕ) where
  abbrev V : Type 0
  V = View T E

  abbrev St : Type 0
  St = State (Option T) (View T E)

  pub names : (slots id : ℕ) (m : Sat T E) (old new : ℕ) → m.0.live ≡ true → m.0.drawn ≡ false → m.0.holds ≡ false → m.0.spare ≡ [] → new ≡ old + 1
      → Allows (Kept stands number) slots id m 2 (λ n. either (eqb n old) new n) (gave number (step slots 2 old new none) m)
  names slots id m old new live free empty spare up s r _ at _ = let x : ℕ = get_or s.words 2 0 in let v : V = m.0 in
      let here : x ≡ r.given = ap (λ ws. get_or ws 2 0) r.words in let k = r.each id v at live in let known : v.given ≤ r.given = k.knows_given in
      dite (ℕ_discrete x old)
      (λ hit. let w : V = numbered x v in let next : new ≡ suc r.given = omega arith in
      let fresh : entries number x r.log ≡ [] = entries-fresh number x r.log (subst (λ z. All (λ e. number e < z) r.log) (sym here) r.callers) in (
        w,
        keeps,
        tt,
        subst (λ b. Kept stands number (stepped s 2 (either b new x) id m.1 w keeps)) (sym (eq-eqb x old hit))
            (changed stands number s r id v w (set s.words 2 new) s.homes r.log r.tickets r.serving (suc r.given) at record {
              words = ap (λ n. set s.words 2 n) next ∙ ap (λ ws. set ws 2 (suc r.given)) r.words;
              fits = r.fits;
              order = r.order;
              live = live;
              same_share = refl;
              names = λ h. let a = named_live h w live in let b = named_live h v live in let c : total h v.spare ≡ 0 = ap (total h) spare in let d : h x ≡ h r.given = ap h here in omega arith;
              callers = All-weaker (λ e. number e < r.given) (λ e. number e < suc r.given) (λ e lt. let z : number e < r.given = lt in omega arith) r.log r.callers;
              last = same_last stands number s r id v w at live refl;
              apart = λ j u _ _ _ (d : v.drawn ≡ true) _ _. let f : false ≡ true = sym free ∙ d in cc;
              mine = record {
                based = k.based;
                rest = k.rest;
                prefix = k.prefix;
                ended = k.ended;
                unused = λ n c. subst (λ z. entries number z r.log ≡ []) (only x n c) fresh;
                some_share = k.some_share;
                cut = k.cut;
                knows_given = omega arith;
                numbers = All-weaker (λ n. n < v.given) (λ n. n < x + 1) (λ n lt. let z : n < v.given = lt in omega arith) (numbers_of v) k.numbers;
                spare_known = λ i d lt. one_below x i d lt;
                waits = λ (d : v.drawn ≡ true). let f : false ≡ true = sym free ∙ d in cc;
                holder = λ (d : v.holds ≡ true). let f : false ≡ true = sym empty ∙ d in cc;
                joined = k.joined;
              };
              others = λ j u _ _ _ known. later number r.base r.log r.top r.tickets r.serving r.given r.tickets (suc r.given) u (omega arith) (omega arith) known;
              place = same_place stands number s r id v w at live empty empty;
            }),
        ((λ _. (refl, omega arith, entries_between number x r.log v.seen k.rest k.prefix fresh)), λ miss. absurd (miss hit)),
      ))
      (λ miss. (
        v,
        keeps,
        tt,
        subst (λ b. Kept stands number (stepped s 2 (either b new x) id m.1 v keeps)) (sym (ne_eqb x old miss)) (unmoved stands number s r 2 id m at),
        ((λ hit. absurd (miss hit)), λ _. refl),
      ))

  -- a pass that waits after a split waited before
  drawn_before : (s : St) (id : ℕ) (v a b : V) → a.drawn ≡ false → b.drawn ≡ false → (j : ℕ) (u : V)
      → get_elem? (set s.views id a ++ b ∷ []) j ≡ some u → u.drawn ≡ true → get_elem? s.views j ≡ some u
  drawn_before s id v a b free free' j u e d = ⊎_elim
      (λ (old : get_elem? (set s.views id a) j ≡ some u). at_change (λ i x. x.drawn ≡ true → get_elem? s.views i ≡ some x) s.views id a
      (λ dx. let f : false ≡ true = sym free ∙ dx in cc) (λ i x _ at _. at) j u old d)
      (λ (new : b ≡ u). let f : false ≡ true = sym free' ∙ (ap (λ (z : V). z.drawn) new ∙ d) in cc)
      (at_snoc (set s.views id a) b u j e)

  -- the two halves, and a number that nobody else has: a split keeps the rule
  pub splits : (id n : ℕ) (v : V) → v.live ≡ true → v.drawn ≡ false → v.holds ≡ false → v.spare ≡ n ∷ []
      → Splits (Kept stands number) id v (kept_half v) (new_half v)
  splits id n v live free empty spare s r at =
      let a : V = kept_half v in let b : V = new_half v in let vs : List V = set s.views id a in
      let k = r.each id v at live in
      let first : first_of v.spare ≡ n = ap first_of spare in
      let cut : v.halvings ≤ r.top = k.cut in
      let unit : 2 ^ ((1 + r.top) - (v.halvings + 1)) ≡ 2 ^ (r.top - v.halvings) = (let e : (1 + r.top) - (v.halvings + 1) ≡ r.top - v.halvings = omega arith in ap (λ z. 2 ^ z) e) in
      let half : share (1 + r.top) a ≡ share r.top v = share_live (1 + r.top) a live ∙ (ap (λ z. v.part * z) unit ∙ sym (share_live r.top v live)) in
      let other_half : share (1 + r.top) b ≡ share r.top v = share_live (1 + r.top) b live ∙ (ap (λ z. v.part * z) unit ∙ sym (share_live r.top v live)) in
      record {
        base = r.base;
        log = r.log;
        top = 1 + r.top;
        tickets = r.tickets;
        serving = r.serving;
        given = r.given;
        words = r.words;
        fits = r.fits;
        order = r.order;
        shares =
            let p = total-append (share (1 + r.top)) vs (b ∷ []) in
            let q = total-set (share (1 + r.top)) s.views id v a at in
            let z : total (share (1 + r.top)) s.views ≡ 2 * total (share r.top) s.views = total-scaled (share (1 + r.top)) (share r.top) 2 s.views
            (λ j u e. finer 1 r.top u (λ lu. (r.each j u e lu).cut)) in
            let y : share (1 + r.top) v ≡ 2 * share r.top v = finer 1 r.top v (λ _. cut) in
            let all = r.shares in
            let power : 2 ^ (1 + r.top) ≡ 2 * 2 ^ r.top = pow-add 2 1 r.top in omega arith;
        names = λ h.
            let p = total-append (named h) vs (b ∷ []) in
            let q = total-set (named h) s.views id v a at in
            let x = named_live h a live in let y = named_live h b live in let z = named_live h v live in
            let c : total h v.spare ≡ h n + 0 = ap (total h) spare in let d : h (first_of v.spare) ≡ h n = ap h first in
            let all = r.names h in omega arith;
        callers = r.callers;
        last = let l = same_last stands number s r id v a at live refl in (l.0, l.1, at_longer vs (b ∷ []) l.0 l.1 l.2, l.3, l.4);
        apart = λ i j x y e d lx ly dx dy same.
            r.apart i j x y (drawn_before s id v a b free free i x e dx) (drawn_before s id v a b free free j y d dy) lx ly dx dy same;
        each = λ j u e lu. ⊎_elim
            (λ (old : get_elem? vs j ≡ some u). at_change (λ _ x. x.live ≡ true → Knows number r.base r.log (1 + r.top) r.tickets r.serving r.given x) s.views id a
            (λ _. record {
              based = k.based;
              rest = k.rest;
              prefix = k.prefix;
              ended = k.ended;
              unused = λ m c. let z : c.0 < 0 = c.1 in absurd (omega arith);
              some_share = k.some_share;
              cut = omega arith;
              knows_given = k.knows_given;
              numbers = k.numbers;
              spare_known = λ i d lt. absurd (omega arith);
              waits = k.waits;
              holder = k.holder;
              joined = k.joined;
            })
            (λ i x _ at_x lx. raised number r.base r.log 1 r.top r.tickets r.serving r.given x (r.each i x at_x lx)) j u old lu)
            (λ (new : b ≡ u). subst (λ (x : V). Knows number r.base r.log (1 + r.top) r.tickets r.serving r.given x) new record {
              based = k.based;
              rest = k.rest;
              prefix = k.prefix;
              ended = λ m c. entries_after number m r.log v.seen k.rest k.prefix (k.unused m (subst (λ l. Contains l m) (sym spare) (subst (λ z. Contains (z ∷ []) m) first c)));
              unused = λ m c. let z : c.0 < 0 = c.1 in absurd (omega arith);
              some_share = k.some_share;
              cut = omega arith;
              knows_given = k.knows_given;
              numbers = let known : n < v.given = subst (λ l. 0 < length l → get_or l 0 0 < v.given) spare (k.spare_known 0 0) (omega arith) in
                  λ i d lt. one_under (first_of v.spare) v.given i d (omega arith) lt;
              spare_known = λ i d lt. absurd (omega arith);
              waits = k.waits;
              holder = k.holder;
              joined = met_nothing stands number v.seen;
            })
            (at_snoc vs b u j e);
        place = ⊎_elim
            (λ (h : Home stands r.base r.log s.homes vs). inl record {
              value = h.value;
              home = h.home;
              stood = h.stood;
              nobody = λ j u e lu. ⊎_elim (λ (old : get_elem? vs j ≡ some u). h.nobody j u old lu) (λ (new : b ≡ u). sym (ap (λ (z : V). z.holds) new) ∙ empty) (at_snoc vs b u j e);
            })
            (λ (w : Away s.homes vs). inr record {
              seat = w.seat;
              known = w.known;
              away = w.away;
              at = at_longer vs (b ∷ []) w.seat w.known w.at;
              live = w.live;
              holds = w.holds;
            })
            (same_place stands number s r id v a at live empty empty);
      }
