-- A join: one pass takes in what another knows, and the other is spent.
--
-- Both have seen prefixes of one history, so the shorter is a prefix of the longer. What lies between has
-- no entry of the one that had seen less, nor of passes that ended in it. The shares are counted in units
-- so small that both are whole numbers of them: 2^(c + d) times as small, where c and d are their halvings.
use Rattle.std.proofs.Common.{◌≡◌, ◌≢◌, ◌⊎◌, ℕ, zero, suc, ◌+◌, ◌-◌, ◌*◌, ◌^◌, ◌<◌, ◌≤◌, max, if◌then◌else◌, Bool, true, false, cond, List, [], ◌∷◌, ◌++◌, length, get_or, set, refl, sym, ap, ◌∙◌, subst, inl, inr, ⊎_elim, All, Contains, arith, append_assoc, append-nil, length-append}
use Rattle.std.specs.Prelude.{Option, Some}
use mathlib.Core.Logic.{dite}
use mathlib.Core.Option.{none, some, some-injective}
use native.Mathlib.Decide.{ℕ_discrete, dec_lt}
use lib.ListN.{get_elem?}
use Rattle.atomic_table.specs.Table.{State, Act, step, keeps, stepped, Allows, Joins}
use Rattle.atomic_table.proofs.Lists.{at_set, set_else}
use Rattle.std.proofs.lemmas.List.Elements.{All-weaker, All-append, Contains-append_cases}
use Rattle.std.proofs.lemmas.Nat.{pow-add, pow_pos}
use Rattle.std.proofs.Math.Nat.{mul-pos}
use Rattle.hist_lock.specs.declared.view.View.{View}
use Rattle.hist_lock.specs.declared.view.Met.{Met}
use Rattle.hist_lock.specs.History.{StartsWith, entries, SameUnder}
use Rattle.hist_lock.specs.Known.{numbers_of, longer}
use Rattle.hist_lock.specs.Laws.Rule.{total, below, share, named, Joined, Knows, Home, Away, Kept}
use Rattle.hist_lock.specs.Laws.Steps.{Sat, both, spent, met}
use Rattle.hist_lock.proofs.Sums.{total-append, total-set, total-scaled, total-length, at_most, below_one, below_once, is, distinct}
use Rattle.hist_lock.proofs.Entries.{starts, between, longer_first, longer_second, entries_before, entries_between, entries_after}
use Rattle.hist_lock.proofs.Changes.{share_live, named_live, finer, at_change, in_range, raised, unmoved}
use Rattle.hist_lock.proofs.Turns.{elsewhere}

-- What two passes know together. a and b are what they had seen, ns and ms their numbers.
pub record Meeting {E : Type 0} (number : E → ℕ) (log a b : List E) (ns ms : List ℕ) (seen : List E) : Type 0 where
  pub rest : List E
  pub prefix : log ≡ seen ++ rest
  pub left : (n : ℕ) → Contains ns n → entries number n rest ≡ []
  pub right : (n : ℕ) → Contains ms n → entries number n rest ≡ []
  pub joined : Joined number seen (record { seen = a; other_seen = b; numbers = ns; other_numbers = ms })

module _ {E : Type 0} (number : E → ℕ) where
  pub meeting : (log a b r q : List E) (ns ms : List ℕ) → log ≡ a ++ r → log ≡ b ++ q
      → ((n : ℕ) → Contains ns n → entries number n r ≡ []) → ((n : ℕ) → Contains ms n → entries number n q ≡ [])
      → Meeting number log a b ns ms (longer a b)
  meeting log a b r q ns ms e d left right = dite (dec_lt (length a) (length b))
      (λ lt. let t = between a b r q (sym e ∙ d) (omega arith) in subst (Meeting number log a b ns ms) (sym (longer_second a b lt)) record {
        rest = q;
        prefix = d;
        left = λ n c. entries_after number n r t.0 q t.2 (left n c);
        right = right;
        joined = record {
          left = (t.0, t.1);
          right = starts b;
          left_same = λ n c. entries_before number n b a t.0 t.1 (entries_between number n r t.0 q t.2 (left n c));
          right_same = λ n c. refl;
        };
      })
      (λ not. let le : length b ≤ length a = omega arith in let t = between b a q r (sym d ∙ e) le in subst (Meeting number log a b ns ms) (sym (longer_first a b le)) record {
        rest = r;
        prefix = e;
        left = left;
        right = λ n c. entries_after number n q t.0 r t.2 (right n c);
        joined = record {
          left = starts a;
          right = (t.0, t.1);
          left_same = λ n c. refl;
          right_same = λ n c. entries_before number n a b t.0 t.1 (entries_between number n q t.0 r t.2 (right n c));
        };
      })

module _ {E : Type 0} where
  all_seen : (a r : List E) → length (a ++ r) ≤ length a → a ≡ a ++ r
  all_seen [] [] le = refl
  all_seen [] (x ∷ r) le = absurd (omega arith)
  all_seen (x ∷ a) r le = ap (λ l. x ∷ l) (all_seen a r (omega arith))

  -- if one of two prefixes is the whole list, the longer is
  pub longest : (log a b r q : List E) → log ≡ a ++ r → log ≡ b ++ q → (a ≡ log) ⊎ (b ≡ log) → longer a b ≡ log
  longest log a b r q e d one = let p = length-append a r in let z = length-append b q in let le = ap length e in let ld = ap length d in
      dite (dec_lt (length a) (length b))
      (λ lt. longer_second a b lt ∙ ⊎_elim (λ (h : a ≡ log). let f = ap length h in absurd (omega arith)) (λ (h : b ≡ log). h) one)
      (λ not. longer_first a b (omega arith) ∙ ⊎_elim (λ (h : a ≡ log). h)
      (λ (h : b ≡ log). let f = ap length h in all_seen a r (omega arith) ∙ sym e) one)

-- the arithmetic of shares
sum_of_shares : (a b x y t : ℕ) → (a * x + b * y) * t ≡ a * (x * t) + b * (y * t)
sum_of_shares a b x y t = omega arith

module _ {T E : Type 0} (stands : T → List E → T → Type 0) (number : E → ℕ) where
  abbrev V : Type 0
  V = View T E

  abbrev St : Type 0
  St = State (Option T) (View T E)

  module _ (v w : V) (top : ℕ) (live : v.live ≡ true) (other_live : w.live ≡ true) where
    -- the share of both is the sum of the shares
    pub shares_add : share ((v.halvings + w.halvings) + top) (both v w) ≡ share ((v.halvings + w.halvings) + top) v + share ((v.halvings + w.halvings) + top) w
    shares_add =
        let c : ℕ = v.halvings + w.halvings in
        let p : (c + top) - c ≡ top = omega arith in
        let q : (c + top) - v.halvings ≡ w.halvings + top = omega arith in
        let z : (c + top) - w.halvings ≡ v.halvings + top = omega arith in
        let x : 2 ^ ((c + top) - v.halvings) ≡ 2 ^ w.halvings * 2 ^ top = ap (λ k. 2 ^ k) q ∙ pow-add 2 w.halvings top in
        let y : 2 ^ ((c + top) - w.halvings) ≡ 2 ^ v.halvings * 2 ^ top = ap (λ k. 2 ^ k) z ∙ pow-add 2 v.halvings top in
        share_live (c + top) (both v w) live
        ∙ (ap (λ k. (v.part * 2 ^ w.halvings + w.part * 2 ^ v.halvings) * 2 ^ k) p
        ∙ (sum_of_shares v.part w.part (2 ^ w.halvings) (2 ^ v.halvings) (2 ^ top)
        ∙ sym (λ i. (share_live (c + top) v live ∙ ap (λ k. v.part * k) x) i + (share_live (c + top) w other_live ∙ ap (λ k. w.part * k) y) i)))

  -- what holds of all places after a join
  after_join : (P : ℕ → V → Type 0) (vs : List V) (id other : ℕ) (b : V) → P id b → P other (spent {T = T} {E = E})
      → ((j : ℕ) (u : V) → j ≢ id → j ≢ other → get_elem? vs j ≡ some u → P j u)
      → (j : ℕ) (u : V) → get_elem? (set (set vs id b) other spent) j ≡ some u → P j u
  after_join P vs id other b here gone others = at_change P (set vs id b) other spent gone
      (λ j u away e. ⊎_elim
      (λ (t : (j ≡ id) × (b ≡ u)). subst (λ (z : ℕ × V). P z.0 z.1) (λ k. (sym t.0 k, t.1 k)) here)
      (λ (t : (j ≢ id) × (get_elem? vs j ≡ some u)). others j u t.0 away t.1)
      (at_set vs id j b u e))

  pub joins : (id : ℕ) (v : V) (other : ℕ) (w : V) → v.live ≡ true → w.live ≡ true → v.drawn ≡ false → w.drawn ≡ false → v.holds ≡ false → w.holds ≡ false → v.spare ≡ [] → w.spare ≡ []
      → Joins (Kept stands number) id v other w (both v w) spent
  joins id v other w lv lw fv fw hv hw sv sw s r at apart there =
      let b : V = both v w in let c : ℕ = v.halvings + w.halvings in
      let vs : List V = set (set s.views id b) other spent in
      let at_other : get_elem? s.views other ≡ some w = sym (set_else s.views id other b apart) ∙ there in
      let k = r.each id v at lv in let l = r.each other w at_other lw in
      let m = meeting number r.log v.seen w.seen k.rest l.rest (numbers_of v) (numbers_of w) k.prefix l.prefix k.ended l.ended in
      let kept_at : (j : ℕ) (u : V) → j ≢ id → j ≢ other → get_elem? s.views j ≡ some u → get_elem? vs j ≡ some u = λ j u ne away e. set_else (set s.views id b) other j spent away ∙ (set_else s.views id j b ne ∙ e) in
      let here : get_elem? vs id ≡ some b = set_else (set s.views id b) other id spent (λ e. apart (sym e)) ∙ in_range s.views id v b at in
      let waited : (j : ℕ) (u : V) → get_elem? vs j ≡ some u → u.drawn ≡ true → get_elem? s.views j ≡ some u = after_join (λ j u. u.drawn ≡ true → get_elem? s.views j ≡ some u) s.views id other b
      (λ d. let f : false ≡ true = sym fv ∙ d in cc) (λ (d : false ≡ true). cc) (λ j u _ _ e _. e) in
      record {
        base = r.base;
        log = r.log;
        top = c + r.top;
        tickets = r.tickets;
        serving = r.serving;
        given = r.given;
        words = r.words;
        fits = r.fits;
        order = r.order;
        shares =
            let p = total-set (share (c + r.top)) s.views id v b at in
            let q = total-set (share (c + r.top)) (set s.views id b) other w spent there in
            let gone : share (c + r.top) (spent {T = T} {E = E}) ≡ 0 = refl in
            let z : total (share (c + r.top)) s.views ≡ 2 ^ c * total (share r.top) s.views = total-scaled (share (c + r.top)) (share r.top) (2 ^ c) s.views
            (λ j u e. finer c r.top u (λ lu. (r.each j u e lu).cut)) in
            let y = shares_add v w r.top lv lw in
            let all : 2 ^ c * total (share r.top) s.views ≡ 2 ^ c * 2 ^ r.top = ap (λ t. 2 ^ c * t) r.shares in
            let power : 2 ^ (c + r.top) ≡ 2 ^ c * 2 ^ r.top = pow-add 2 c r.top in omega arith;
        names = λ h.
            let p = total-set (named h) s.views id v b at in
            let q = total-set (named h) (set s.views id b) other w spent there in
            let gone : named h (spent {T = T} {E = E}) ≡ 0 = refl in
            let x = named_live h v lv in let y = named_live h w lw in let z = named_live h b lv in
            let e : total h w.spare ≡ 0 = ap (total h) sw in
            let more = total-append h v.under (w.number ∷ w.under) in
            let all = r.names h in omega arith;
        callers = r.callers;
        last = let t = r.last in dite (ℕ_discrete t.0 id)
            (λ e. (
              id,
              b,
              here,
              lv,
              longest r.log v.seen w.seen k.rest l.rest k.prefix l.prefix
                  (inl (ap (λ (z : V). z.seen) (some-injective v t.1 (sym at ∙ (sym (ap (λ i. get_elem? s.views i) e) ∙ t.2))) ∙ t.4)),
            ))
            (λ ne. dite (ℕ_discrete t.0 other)
            (λ e. (
              id,
              b,
              here,
              lv,
              longest r.log v.seen w.seen k.rest l.rest k.prefix l.prefix
                  (inr (ap (λ (z : V). z.seen) (some-injective w t.1 (sym at_other ∙ (sym (ap (λ i. get_elem? s.views i) e) ∙ t.2))) ∙ t.4)),
            ))
            (λ away. (t.0, t.1, kept_at t.0 t.1 ne away t.2, t.3, t.4)));
        apart = λ i j x y e d lx ly dx dy same. r.apart i j x y (waited i x e dx) (waited j y d dy) lx ly dx dy same;
        each = after_join (λ _ x. x.live ≡ true → Knows number r.base r.log (c + r.top) r.tickets r.serving r.given x) s.views id other b
            (λ _. record {
              based = k.based;
              rest = m.rest;
              prefix = m.prefix;
              ended = λ n there. ⊎_elim (λ (z : Contains (numbers_of v) n). m.left n z) (λ (z : Contains (numbers_of w) n). m.right n z) (Contains-append_cases (numbers_of v) (numbers_of w) n there);
              unused = k.unused;
              some_share = let p : 0 < v.part * 2 ^ w.halvings = mul-pos k.some_share (pow_pos w.halvings) in omega arith;
              cut = omega arith;
              knows_given = let p : v.given ≤ r.given = k.knows_given in let q : w.given ≤ r.given = l.knows_given in omega arith;
              numbers = All-append (λ n. n < max v.given w.given) (numbers_of v) (numbers_of w)
                  (All-weaker (λ n. n < v.given) (λ n. n < max v.given w.given) (λ n lt. let z : n < v.given = lt in omega arith) (numbers_of v) k.numbers)
                  (All-weaker (λ n. n < w.given) (λ n. n < max v.given w.given) (λ n lt. let z : n < w.given = lt in omega arith) (numbers_of w) l.numbers);
              spare_known = subst (λ ns. All (λ n. n < max v.given w.given) ns) (sym sv) (λ i d lt. absurd (omega arith));
              waits = λ d. let f : false ≡ true = sym fv ∙ d in cc;
              holder = λ d. let f : false ≡ true = sym hv ∙ d in cc;
              joined = m.joined;
            })
            (λ (z : false ≡ true). cc)
            (λ j u _ _ e lu. raised number r.base r.log c r.top r.tickets r.serving r.given u (r.each j u e lu));
        place = ⊎_elim
            (λ (h : Home stands r.base r.log s.homes s.views). inl record {
              value = h.value;
              home = h.home;
              stood = h.stood;
              nobody = after_join (λ _ x. x.live ≡ true → x.holds ≡ false) s.views id other b (λ _. hv) (λ (z : false ≡ true). cc) (λ j u _ _ e. h.nobody j u e);
            })
            (λ (a : Away s.homes s.views). inr record {
              seat = a.seat;
              known = a.known;
              away = a.away;
              at = kept_at a.seat a.known (λ e. elsewhere stands number s r id v a at hv e) (λ e. elsewhere stands number s r other w a at_other hw e) a.at;
              live = a.live;
              holds = a.holds;
            })
            r.place;
      }

  -- the load after a join
  pub meets : (slots id : ℕ) (m : Sat T E) → m.0.live ≡ true → Allows (Kept stands number) slots id m 2 (λ n. n) (met number (step slots 2 0 0 none) m)
  meets slots id m live s r _ at _ = let x : ℕ = get_or s.words 2 0 in let v : V = m.0 in
      let here : x ≡ r.given = ap (λ ws. get_or ws 2 0) r.words in let k = r.each id v at live in
      let most = at_most (named (λ _. 1)) s.views id v at in let all = r.names (λ _. 1) in let count = below_one r.given in
      let mine = named_live (λ _. 1) v live in let one = total-length (numbers_of v) in (
        v,
        keeps,
        tt,
        unmoved stands number s r 2 id m at,
        (
          refl,
          k.joined,
          omega arith,
          distinct (numbers_of v) (λ n.
              let many = at_most (named (is n)) s.views id v at in let sum = r.names (is n) in let once = below_once n r.given in let here = named_live (is n) v live in omega arith),
        ),
      )
