-- The steps of a turn keep the rule.
--
-- A draw adds a ticket. A look that finds the pass's own ticket takes the value: nobody else can have it,
-- since the holder's ticket is the one that is served and no two passes have one ticket. Passing on adds
-- the entries: they are under the holder's number, which no other pass names.
use Rattle.std.proofs.Common.{◌≡◌, ◌≢◌, ◌⊎◌, ℕ, zero, suc, ◌+◌, ◌-◌, ◌*◌, ◌^◌, ◌%◌, ◌<◌, ◌≤◌, if◌then◌else◌, Bool, true, false, cond, eqb, List, [], ◌∷◌, ◌++◌, length, get_or, set, refl, sym, ap, ◌∙◌, subst, inl, inr, ⊎_elim, All, Contains, arith, eq-eqb, ne_eqb, append_assoc, append-nil}
use Rattle.std.specs.Prelude.{Option, Some}
use mathlib.Core.Logic.{dite}
use mathlib.Core.Option.{none, some, some-injective}
use mathlib.Core.Option as maybe
use native.Mathlib.Decide.{ℕ_discrete}
use lib.ListN.{get_elem?}
use prog.Atomic.{either}
use Rattle.atomic_table.specs.Table.{State, Act, step, keeps, takes, gives, homes_after, rest, stepped, Allows}
use Rattle.atomic_table.proofs.Lists.{at_set, set_again, set_here, set_else}
use Rattle.std.proofs.lemmas.List.Elements.{All-append, All-weaker}
use Rattle.hist_lock.specs.declared.view.View.{View}
use Rattle.hist_lock.specs.declared.view.Met.{Met}
use Rattle.hist_lock.specs.History.{StartsWith, entries, SameUnder}
use Rattle.hist_lock.specs.Known.{numbers_of, met_nobody}
use Rattle.hist_lock.specs.Laws.Rule.{total, below, share, named, Joined, Knows, Home, Away, Kept}
use Rattle.hist_lock.specs.Laws.Steps.{Sat, queued, drew, holding, Holds, looked, done, passed}
use Rattle.hist_lock.proofs.Sums.{is, contained, is_same}
use Rattle.hist_lock.proofs.Entries.{starts, starts_later, entries-append, entries-none, entries_before}
use Rattle.hist_lock.proofs.Changes.{at_change, in_range, later, Change, changed, unmoved, foreign}

not_true : (b : Bool) → (b ≡ true → ⊥) → b ≡ false
not_true true never = absurd (never refl)
not_true false never = refl

module _ {T E : Type 0} (stands : T → List E → T → Type 0) (number : E → ℕ) where
  abbrev V : Type 0
  V = View T E

  abbrev St : Type 0
  St = State (Option T) (View T E)

  -- someone has still seen the whole history, if the changed pass has seen as much as before
  pub same_last : (s : St) (r : Kept stands number s) (id : ℕ) (v w : V) → get_elem? s.views id ≡ some v → w.live ≡ true → w.seen ≡ v.seen
      → (i : ℕ) × (u : V) × (get_elem? (set s.views id w) i ≡ some u) × (u.live ≡ true) × (u.seen ≡ r.log)
  same_last s r id v w at live same = let l = r.last in dite (ℕ_discrete l.0 id)
      (λ e. let x : v ≡ l.1 = some-injective v l.1 (sym at ∙ (sym (ap (λ i. get_elem? s.views i) e) ∙ l.2)) in
      (id, w, in_range s.views id v w at, live, same ∙ (ap (λ (z : V). z.seen) x ∙ l.4)))
      (λ ne. (l.0, l.1, set_else s.views id l.0 w ne ∙ l.2, l.3, l.4))

  -- the holder is another pass
  pub elsewhere : (s : St) (r : Kept stands number s) (id : ℕ) (v : V) (a : Away s.homes s.views) → get_elem? s.views id ≡ some v → v.holds ≡ false → a.seat ≡ id → ⊥
  elsewhere s r id v a at not e =
      let x : v ≡ a.known = some-injective v a.known (sym at ∙ (sym (ap (λ i. get_elem? s.views i) e) ∙ a.at)) in
      let f : false ≡ true = sym not ∙ (ap (λ (z : V). z.holds) x ∙ a.holds) in cc

  -- where the value is, if the changed pass has it as before
  pub same_place : (s : St) (r : Kept stands number s) (id : ℕ) (v w : V) → get_elem? s.views id ≡ some v → v.live ≡ true → v.holds ≡ false → w.holds ≡ false
      → Home stands r.base r.log s.homes (set s.views id w) ⊎ Away s.homes (set s.views id w)
  same_place s r id v w at live not still = ⊎_elim
      (λ (h : Home stands r.base r.log s.homes s.views). inl record {
        value = h.value;
        home = h.home;
        stood = h.stood;
        nobody = at_change (λ _ x. x.live ≡ true → x.holds ≡ false) s.views id w (λ _. still) (λ j u _ e. h.nobody j u e);
      })
      (λ (a : Away s.homes s.views). inr record {
        seat = a.seat;
        known = a.known;
        away = a.away;
        at = set_else s.views id a.seat w (λ e. elsewhere s r id v a at not e) ∙ a.at;
        live = a.live;
        holds = a.holds;
      })
      r.place

  pub draws : (slots id : ℕ) (m : Sat T E) (old new : ℕ) → m.0.live ≡ true → m.0.drawn ≡ false → m.0.holds ≡ false → new ≡ old + 1 → new < 2 ^ 64
      → Allows (Kept stands number) slots id m 0 (λ n. either (eqb n old) new n) (drew (step slots 0 old new none) m)
  draws slots id m old new live free empty up small s r _ at _ = let x : ℕ = get_or s.words 0 0 in let v : V = m.0 in
      let here : x ≡ r.tickets = ap (λ ws. get_or ws 0 0) r.words in dite (ℕ_discrete x old)
      (λ hit. let w : V = queued x v in let le = r.order in (
        w,
        keeps,
        tt,
        subst (λ b. Kept stands number (stepped s 0 (either b new x) id m.1 w keeps)) (sym (eq-eqb x old hit))
            (changed stands number s r id v w (set s.words 0 new) s.homes r.log new r.serving r.given at record {
              words = ap (λ ws. set ws 0 new) r.words;
              fits = small;
              order = omega arith;
              live = live;
              same_share = refl;
              names = λ h. refl;
              callers = r.callers;
              last = same_last s r id v w at live refl;
              apart = λ j u ne e lu _ du same. let q = (r.each j u e lu).waits du in let z : x ≡ u.ticket = same in omega arith;
              mine = let k = r.each id v at live in record {
                based = k.based;
                rest = k.rest;
                prefix = k.prefix;
                ended = k.ended;
                unused = k.unused;
                some_share = k.some_share;
                cut = k.cut;
                knows_given = k.knows_given;
                numbers = k.numbers;
                spare_known = k.spare_known;
                waits = λ _. let z : w.ticket ≡ x = refl in (omega arith, omega arith);
                holder = λ (h : v.holds ≡ true). let none : false ≡ true = sym empty ∙ h in cc;
                joined = k.joined;
              };
              others = λ j u _ _ _ k. later number r.base r.log r.top r.tickets r.serving r.given new r.given u (omega arith) (omega arith) k;
              place = same_place s r id v w at live empty empty;
            }),
        ((λ _. refl), λ miss. absurd (miss hit)),
      ))
      (λ miss. (
        v,
        keeps,
        tt,
        subst (λ b. Kept stands number (stepped s 0 (either b new x) id m.1 v keeps)) (sym (ne_eqb x old miss)) (unmoved stands number s r 0 id m at),
        ((λ hit. absurd (miss hit)), λ _. refl),
      ))

  -- at the ticket that is served the value is home, unless that pass has it
  at_home : (s : St) (r : Kept stands number s) (id : ℕ) (v : V) → get_elem? s.views id ≡ some v → v.live ≡ true → v.drawn ≡ true → v.holds ≡ false → v.ticket ≡ r.serving
      → Home stands r.base r.log s.homes s.views
  at_home s r id v at live drawn empty mine = ⊎_elim (λ (h : Home stands r.base r.log s.homes s.views). h)
      (λ (a : Away s.homes s.views). let q = (r.each a.seat a.known a.at a.live).holder a.holds in
      absurd (elsewhere s r id v a at empty (sym (r.apart id a.seat v a.known at a.at live a.live drawn q.0 (mine ∙ sym q.1)))))
      r.place

  pub met_nothing : (seen : List E) → Joined number seen met_nobody
  met_nothing seen = record {
    left = (seen, refl);
    right = (seen, refl);
    left_same = λ n c. let z : c.0 < 0 = c.1 in absurd (omega arith);
    right_same = λ n c. let z : c.0 < 0 = c.1 in absurd (omega arith);
  }

  pub looks : (slots id : ℕ) (m : Sat T E) → m.0.live ≡ true → m.0.drawn ≡ true → m.0.holds ≡ false → m.1 ≡ []
      → Allows (Kept stands number) slots id m 1 (λ n. n) (looked stands number (step slots 1 0 0 none) m)
  looks slots id m live drawn empty bare s r _ at _ = let x : ℕ = get_or s.words 1 0 in let v : V = m.0 in
      let here : x ≡ r.serving = ap (λ ws. get_or ws 1 0) r.words in dite (ℕ_discrete x v.ticket)
      (λ hit. let w : V = holding r.log v in let mine : v.ticket ≡ r.serving = sym hit ∙ here in
      let h = at_home s r id v at live drawn empty mine in let k = r.each id v at live in (
        w,
        takes 0 (Some h.value),
        ap (λ hs. get_elem? hs 0) h.home,
        changed stands number s r id v w (set s.words 1 x) (set s.homes 0 none) r.log r.tickets r.serving r.given at record {
          words = ap (λ ws. set ws 1 (get_or ws 1 0)) r.words;
          fits = r.fits;
          order = r.order;
          live = live;
          same_share = refl;
          names = λ h. refl;
          callers = r.callers;
          last = (id, w, in_range s.views id v w at, live, refl);
          apart = λ j u ne e lu _ du same. ne (sym (r.apart id j v u at e live lu drawn du same));
          mine = record {
            based = k.based;
            rest = [];
            prefix = sym (append-nil r.log);
            ended = λ n c. refl;
            unused = k.unused;
            some_share = k.some_share;
            cut = k.cut;
            knows_given = k.knows_given;
            numbers = k.numbers;
            spare_known = k.spare_known;
            waits = k.waits;
            holder = λ _. (drawn, mine, refl);
            joined = met_nothing r.log;
          };
          others = λ j u _ _ _ known. known;
          place = inr record {
            seat = id;
            known = w;
            away = ap (λ hs. set hs 0 none) h.home;
            at = in_range s.views id v w at;
            live = live;
            holds = refl;
          };
        },
        (
          (λ _. record {
            log = r.log;
            value = h.value;
            base = r.base;
            based = k.based;
            seat = ap (λ c. (w, (0, Some h.value) ∷ c)) bare;
            stood = h.stood;
            later = (k.rest, k.prefix);
            same = λ n c. entries_before number n r.log v.seen k.rest k.prefix (k.ended n c);
          }),
          λ miss. absurd (miss hit),
        ),
      ))
      (λ miss. (v, keeps, tt, unmoved stands number s r 1 id m at, ((λ hit. absurd (miss hit)), λ _. refl)))

  -- what the other passes know once the turn of v is passed on
  after_turn : (s : St) (r : Kept stands number s) (id : ℕ) (v : V) (es : List E) → get_elem? s.views id ≡ some v → v.live ≡ true → v.drawn ≡ true → v.ticket ≡ r.serving
      → All (λ e. number e ≡ v.number) es → (j : ℕ) (u : V) → j ≢ id → get_elem? s.views j ≡ some u → u.live ≡ true
      → Knows number r.base r.log r.top r.tickets r.serving r.given u → Knows number r.base (r.log ++ es) r.top r.tickets (r.serving + 1) r.given u
  after_turn s r id v es at live drawn mine own j u ne e lu k =
      let later_ticket : u.drawn ≡ true → u.ticket ≢ r.serving = λ du same. ne (sym (r.apart id j v u at e live lu drawn du (mine ∙ sym same))) in
      let named_here : 1 ≤ total (is v.number) (numbers_of v) + total (is v.number) v.spare = let q = is_same v.number in omega arith in
      let other : (n : ℕ) → 1 ≤ total (is n) (numbers_of u) + total (is n) u.spare → n ≢ v.number = λ n some same.
      foreign stands number s r id j v u v.number (λ q. ne (sym q)) at e live lu named_here (subst (λ z. 1 ≤ total (is z) (numbers_of u) + total (is z) u.spare) same some) in
      record {
        based = k.based;
        rest = k.rest ++ es;
        prefix = ap (λ l. l ++ es) k.prefix ∙ append_assoc u.seen k.rest es;
        ended = λ n c. let z = contained (numbers_of u) n c in
            entries-append number n k.rest es ∙ (ap (λ l. l ++ entries number n es) (k.ended n c) ∙ entries-none number n v.number es (other n (omega arith)) own);
        unused = λ n c. let z = contained u.spare n c in
            entries-append number n r.log es ∙ (ap (λ l. l ++ entries number n es) (k.unused n c) ∙ entries-none number n v.number es (other n (omega arith)) own);
        some_share = k.some_share;
        cut = k.cut;
        knows_given = k.knows_given;
        numbers = k.numbers;
        spare_known = k.spare_known;
        waits = λ d. let q = k.waits d in let z = later_ticket d in (omega arith, q.1);
        holder = λ h. let q = k.holder h in absurd (later_ticket q.0 q.1);
        joined = k.joined;
      }

  -- no other pass has the value than the one whose turn it is
  alone_holds : (s : St) (r : Kept stands number s) (id : ℕ) (v : V) → get_elem? s.views id ≡ some v → v.live ≡ true → v.drawn ≡ true → v.ticket ≡ r.serving
      → (j : ℕ) (u : V) → j ≢ id → get_elem? s.views j ≡ some u → u.live ≡ true → u.holds ≡ false
  alone_holds s r id v at live drawn mine j u ne e lu = not_true u.holds (λ h. let q = (r.each j u e lu).holder h in
      ne (sym (r.apart id j v u at e live lu drawn q.0 (mine ∙ sym q.1))))

  -- the holder has the value
  has_it : (s : St) (r : Kept stands number s) (id : ℕ) (v : V) → get_elem? s.views id ≡ some v → v.live ≡ true → v.holds ≡ true → s.homes ≡ none ∷ []
  has_it s r id v at live holds = ⊎_elim
      (λ (h : Home stands r.base r.log s.homes s.views). let f : true ≡ false = sym holds ∙ h.nobody id v at live in cc)
      (λ (a : Away s.homes s.views). a.away)
      r.place

  pub passes : (slots id : ℕ) (m : Sat T E) (es : List E) (value base : T) → m.0.live ≡ true → m.0.holds ≡ true → m.0.base ≡ Some base → m.0.spare ≡ [] → m.1 ≡ (0, Some value) ∷ []
      → stands base (m.0.seen ++ es) value → All (λ e. number e ≡ m.0.number) es
      → Allows (Kept stands number) slots id m 1 (λ n. (n + 1) % 2 ^ 64) (passed es (step slots 1 1 0 none) m)
  passes slots id m es value base live holds based spare has stood own s r _ at _ = let x : ℕ = get_or s.words 1 0 in let v : V = m.0 in
      let here : x ≡ r.serving = ap (λ ws. get_or ws 1 0) r.words in
      let k = r.each id v at live in let q = k.holder holds in let t = k.waits q.0 in let fits = r.fits in
      let up : (x + 1) % 2 ^ 64 ≡ r.serving + 1 = omega arith in
      let w : V = done es v in let away = has_it s r id v at live holds in
      let first : v.number < v.given = k.numbers 0 0 (omega arith) in let known : v.given ≤ r.given = k.knows_given in
      let same_base : Some base ≡ Some r.base = sym based ∙ k.based in let same : base ≡ r.base = cc in (
        w,
        gives,
        tt,
        changed stands number s r id v w (set s.words 1 ((x + 1) % 2 ^ 64)) (homes_after s.homes m.1 gives) (r.log ++ es) r.tickets (r.serving + 1) r.given at record {
          words = ap (λ n. set s.words 1 n) up ∙ ap (λ ws. set ws 1 (r.serving + 1)) r.words;
          fits = fits;
          order = omega arith;
          live = live;
          same_share = refl;
          names = λ h. refl;
          callers = All-append (λ e. number e < r.given) r.log es r.callers
              (All-weaker (λ e. number e ≡ v.number) (λ e. number e < r.given) (λ e under. let z : number e ≡ v.number = under in omega arith) es own);
          last = (id, w, in_range s.views id v w at, live, ap (λ l. l ++ es) q.2);
          apart = λ j u _ _ _ (d : false ≡ true) _ _. cc;
          mine = record {
            based = k.based;
            rest = [];
            prefix = ap (λ l. l ++ es) (sym q.2) ∙ sym (append-nil (v.seen ++ es));
            ended = λ n c. refl;
            unused = λ n c. let z : Contains [] n = subst (λ l. Contains l n) spare c in let y : z.0 < 0 = z.1 in absurd (omega arith);
            some_share = k.some_share;
            cut = k.cut;
            knows_given = k.knows_given;
            numbers = k.numbers;
            spare_known = k.spare_known;
            waits = λ (d : false ≡ true). cc;
            holder = λ (d : false ≡ true). cc;
            joined = met_nothing (v.seen ++ es);
          };
          others = after_turn s r id v es at live q.0 q.1 own;
          place = inl record {
            value = value;
            home = ap (λ c. homes_after s.homes c gives) has ∙ ap (λ hs. set hs 0 (some (Some value))) away;
            stood = subst (λ (z : T × List E). stands z.0 (z.1 ++ es) value) (λ i. (same i, q.2 i)) stood;
            nobody = at_change (λ _ y. y.live ≡ true → y.holds ≡ false) s.views id w (λ _. refl) (λ j u ne e lu. alone_holds s r id v at live q.0 q.1 j u ne e lu);
          };
        },
        ap (λ c. (w, rest c)) has,
      )
