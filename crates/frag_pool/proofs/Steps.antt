-- Each step keeps the rule.
--
-- A push adds a place at the end. What leaves is at the place `left`, and who gets it notes that place: so
-- the places below `left` are got, each once, and the others are in the deque.
use Rattle.std.proofs.Common.{◌≡◌, ◌⊎◌, ◌<◌, ℕ, zero, suc, true, true≢false, List, [], ◌∷◌, ◌++◌, length, drop, set, refl, sym, ap, ◌∙◌, subst, ⊎_elim, arith}
use Rattle.std.specs.Prelude.{Option, None, Some, MatchOption, IfNone}
use mathlib.Core.Logic.{dite}
use mathlib.Core.Option.{some, some-injective, some-ne-none}
use native.Mathlib.Decide.{ℕ_discrete}
use lib.ListN.{get_elem?, length-append, length-set, length-drop}
use Rattle.crossbeam_deque.specs.Tasks.{Pushes, Takes, Forks, Finds, FindsFew}
use Rattle.crossbeam_deque.proofs.Lists.{at_snoc, at_longer, at_last}
use Rattle.frag_pool.specs.declared.job.Job.{Job}
use Rattle.frag_pool.specs.declared.view.Won.{Won}
use Rattle.frag_pool.specs.declared.view.View.{View}
use Rattle.frag_pool.specs.Deque.{won, owner, thief, Got, AllGot, Kept}
use Rattle.frag_pool.specs.Laws.Moves.{pushing, richer, Getting, in_company}
use Rattle.frag_pool.proofs.Lists.{inside, drop_longer, next_is, next_gone, same_set}
use Rattle.frag_pool.proofs.Views.{at_change, no_element, one_view, still_got, got_before, got_or_new, got_without}

-- the place of a list of one
only_first : (v u : View) (i : ℕ) → get_elem? (v ∷ []) i ≡ some u → (i ≡ 0) × (v ≡ u)
only_first v u zero e = (refl, some-injective v u e)
only_first v u (suc i) e = absurd (some-ne-none u (sym e))

nothing_got : (i k : ℕ) (x : Won) → Got (owner ∷ []) i k x → ⊥
nothing_got i k x g =
    let is : owner ≡ g.0 = (only_first owner g.0 i g.1).1 in
    no_element g.0.got k x (ap (λ (u : View). u.got) (sym is)) g.2

pub begins : Kept [] (owner ∷ [])
begins = record {
  pushed = [];
  left = 0;
  fits = omega arith;
  stays = refl;
  was_pushed = λ i k x g. absurd (nothing_got i k x g);
  once = λ i j k l x y g h _. absurd (nothing_got i k x g);
  none_lost = λ p below. absurd (omega arith);
  owned = λ i u e _. let t = only_first owner u i e in (t.0, ap (λ (y : View). y.pushed) (sym t.1));
  single = λ _ _ _ _. refl;
}

pub sends : (port : ℕ) (v : View) (xs : List Job) → v.owns ≡ true → Pushes Kept port v xs (pushing v xs)
sends port v xs owns items views h at =
    let w : View = record { owns = v.owns; alone = v.alone; pushed = v.pushed ++ xs; got = v.got } in
    let mine = h.owned port v at owns in
    let more = h.pushed ++ xs in
    let before : (i k : ℕ) (x : Won) → Got (set views port w) i k x → Got views i k x = got_before views port v w at refl in (
      w,
      record {
        pushed = more;
        left = h.left;
        fits = (let f = h.fits in omega (arith, length-append h.pushed xs));
        stays = drop_longer h.pushed xs h.left h.fits ∙ ap (λ (l : List Job). l ++ xs) h.stays;
        was_pushed = λ i k x g. let t = h.was_pushed i k x (before i k x g) in (t.0, at_longer h.pushed xs x.place x.job t.1);
        once = λ i j k l x y g g' same. h.once i j k l x y (before i k x g) (before j l y g') same;
        none_lost = λ p below. let t = h.none_lost p below in
            (t.0, t.1, t.2, still_got views port v w at (λ k x e. e) t.0 t.1 t.2 t.3, t.4);
        owned = at_change (λ j u. u.owns ≡ true → (j ≡ 0) × (u.pushed ≡ more)) views port w
            (λ _. (mine.0, ap (λ (l : List Job). l ++ xs) mine.1))
            (λ j u other e o. absurd (other ((h.owned j u e o).0 ∙ sym mine.0)));
        single = at_change (λ j u. u.alone ≡ true → length (set views port w) ≡ 1) views port w
            (λ a. length-set views port w ∙ h.single port v at a)
            (λ j u other e a. length-set views port w ∙ h.single j u e a);
      },
      refl,
    )

module _ (port : ℕ) (v : View) (x : Job) (items : List Job) (views : List View)
    (h : Kept (x ∷ items) views) (at : get_elem? views port ≡ some v) where
  abbrev w : View
  w = richer v h.left x

  abbrev new : Won
  new = won h.left x

  same_place : (i k : ℕ) (u : Won) → Got views i k u → new ≡ u → ⊥
  same_place i k u g is = let t = (h.was_pushed i k u g).0 in let p : h.left ≡ u.place = ap (λ (y : Won). y.place) is in omega arith

  other_place : (i k : ℕ) (u y : Won) → Got views i k u → new ≡ y → u.place ≡ y.place → ⊥
  other_place i k u y g is same = let t = (h.was_pushed i k u g).0 in let p : h.left ≡ y.place = ap (λ (z : Won). z.place) is in omega arith

  cases : (i k : ℕ) (u : Won) → Got (set views port w) i k u → Got views i k u ⊎ ((i ≡ port) × (k ≡ length v.got) × (new ≡ u))
  cases = got_or_new views port v h.left x at

  once_more : (i j k l : ℕ) (u y : Won) → Got (set views port w) i k u → Got (set views port w) j l y → u.place ≡ y.place → (i ≡ j) × (k ≡ l)
  once_more i j k l u y g g' same = ⊎_elim
      (λ (a : Got views i k u). ⊎_elim
      (λ (b : Got views j l y). h.once i j k l u y a b same)
      (λ (b : (j ≡ port) × (l ≡ length v.got) × (new ≡ y)). absurd (other_place i k u y a b.2 same))
      (cases j l y g'))
      (λ (a : (i ≡ port) × (k ≡ length v.got) × (new ≡ u)). ⊎_elim
      (λ (b : Got views j l y). absurd (other_place j l y u b a.2 (sym same)))
      (λ (b : (j ≡ port) × (l ≡ length v.got) × (new ≡ y)). (a.0 ∙ sym b.0, a.1 ∙ sym b.1))
      (cases j l y g'))
      (cases i k u g)

  is_got : Got (set views port w) port (length v.got) new
  is_got = (w, same_set views port v w at, at_last v.got new (length v.got) refl)

  in_there : h.left < length h.pushed
  in_there = inside h.pushed h.left x (next_is h.pushed items h.left x h.stays)

  got_there : (i k : ℕ) (u : Won) → Got (set views port w) i k u → (u.place < suc h.left) × (get_elem? h.pushed u.place ≡ some u.job)
  got_there i k u g = ⊎_elim
      (λ (a : Got views i k u). let t = h.was_pushed i k u a in (omega (arith, t.0), t.1))
      (λ (a : (i ≡ port) × (k ≡ length v.got) × (new ≡ u)).
      subst (λ (y : Won). (y.place < suc h.left) × (get_elem? h.pushed y.place ≡ some y.job)) a.2
      (omega arith, next_is h.pushed items h.left x h.stays))
      (cases i k u g)

  all_there : (p : ℕ) → p < suc h.left → (i : ℕ) × (k : ℕ) × (u : Won) × Got (set views port w) i k u × (u.place ≡ p)
  all_there p below = dite (ℕ_discrete p h.left)
      (λ last. (port, length v.got, new, is_got, sym last))
      (λ other.
      let t = h.none_lost p (omega (arith, other)) in
      (t.0, t.1, t.2, still_got views port v w at (λ k y e. at_longer v.got (new ∷ []) k y e) t.0 t.1 t.2 t.3, t.4))

  gets_one : Kept items (set views port w)
  gets_one = record {
    pushed = h.pushed;
    left = suc h.left;
    fits = (let t = in_there in omega arith);
    stays = next_gone h.pushed items h.left x h.stays;
    was_pushed = got_there;
    once = once_more;
    none_lost = all_there;
    owned = at_change (λ j u. u.owns ≡ true → (j ≡ 0) × (u.pushed ≡ h.pushed)) views port w
        (h.owned port v at) (λ j u other e. h.owned j u e);
    single = at_change (λ j u. u.alone ≡ true → length (set views port w) ≡ 1) views port w
        (λ a. length-set views port w ∙ h.single port v at a)
        (λ j u other e a. length-set views port w ∙ h.single j u e a);
  }

-- a job leaves
pub gets : (port : ℕ) (v : View) → Takes Kept port v 1 (Getting v)
gets port v [] items views some_job few h at = absurd (omega arith)
gets port v (x ∷ []) items views some_job few h at = (
  richer v h.left x,
  gets_one port v x items views h at,
  (
    h.left,
    x,
    refl,
    refl,
    λ owns. subst (λ (l : List Job). get_elem? l h.left ≡ some x) (sym (h.owned port v at owns).1)
        (next_is h.pushed items h.left x h.stays),
  ),
)
gets port v (x ∷ y ∷ xs) items views some_job few h at = absurd (omega arith)

-- at a moment when the deque is empty, a pass that owns it and is alone has got all
pub finds : (port : ℕ) (v : View) → Finds Kept port v (v.owns ≡ true → v.alone ≡ true → AllGot v.pushed v.got)
finds port v views h at owns alone p below =
    let mine = h.owned port v at owns in
    let long : p < length h.pushed = subst (λ (l : List Job). p < length l) mine.1 below in
    let none : length (drop h.left h.pushed) ≡ 0 = ap length h.stays in
    let gone : p < h.left = omega (arith, length-drop h.left h.pushed) in
    let t = h.none_lost p gone in
    let g = t.3 in
    let one : length views ≡ 1 = h.single port v at alone in
    let first : t.0 < length views = inside views t.0 g.0 g.1 in
    let same : g.0 ≡ v = one_view views t.0 port g.0 v g.1 at (omega (arith, mine.0)) in
    (t.1, t.2, subst (λ (u : View). get_elem? u.got t.1 ≡ some t.2) same g.2, t.4)

pub finds_few : (n port : ℕ) (v : View) → n ≡ 0
    → FindsFew Kept n port v (v.owns ≡ true → v.alone ≡ true → AllGot v.pushed v.got)
finds_few n port v zero_is [] views few h at = finds port v views h at
finds_few n port v zero_is (x ∷ xs) views few h at = absurd (omega arith)

-- a pass is made for a helper
pub forks : (port : ℕ) (v : View) → Forks Kept port v (in_company v) thief
forks port v items views h at =
    let w : View = in_company v in
    let vs : List View = set views port w in
    let before : (i k : ℕ) (x : Won) → Got (vs ++ thief ∷ []) i k x → Got views i k x
    = λ i k x g. got_before views port v w at refl i k x (got_without vs i k x g) in
    let owned : (j : ℕ) (u : View) → get_elem? vs j ≡ some u → u.owns ≡ true → (j ≡ 0) × (u.pushed ≡ h.pushed)
    = at_change (λ j u. u.owns ≡ true → (j ≡ 0) × (u.pushed ≡ h.pushed)) views port w
    (h.owned port v at) (λ j u other e. h.owned j u e) in
    let company : (j : ℕ) (u : View) → get_elem? vs j ≡ some u → u.alone ≡ true → ⊥
    = at_change (λ j u. u.alone ≡ true → ⊥) views port w
    (λ a. true≢false (sym a))
    (λ j u other e a.
    let one : length views ≡ 1 = h.single j u e a in
    let here : j < length views = inside views j u e in
    let there : port < length views = inside views port v at in
    other (omega arith)) in
    record {
      pushed = h.pushed;
      left = h.left;
      fits = h.fits;
      stays = h.stays;
      was_pushed = λ i k x g. h.was_pushed i k x (before i k x g);
      once = λ i j k l x y g g' same. h.once i j k l x y (before i k x g) (before j l y g') same;
      none_lost = λ p below.
          let t = h.none_lost p below in
          let g = still_got views port v w at (λ k x e. e) t.0 t.1 t.2 t.3 in
          (t.0, t.1, t.2, (g.0, at_longer vs (thief ∷ []) t.0 g.0 g.1, g.2), t.4);
      owned = λ j u e o. ⊎_elim
          (λ (was : get_elem? vs j ≡ some u). owned j u was o)
          (λ (is : thief ≡ u). absurd (true≢false (sym (ap (λ (y : View). y.owns) is ∙ o))))
          (at_snoc vs thief u j e);
      single = λ j u e a. ⊎_elim
          (λ (was : get_elem? vs j ≡ some u). absurd (company j u was a))
          (λ (is : thief ≡ u). absurd (true≢false (sym (ap (λ (y : View). y.alone) is ∙ a))))
          (at_snoc vs thief u j e);
    }

-- what is known of an empty answer holds of it
pub when_none : {X : Type 0} (r : Option X) (A C : Type 0) (B : X → Type 0) → MatchOption r A B → (A → C) → IfNone r C
when_none None A C B m f = f m
when_none (Some x) A C B m f = tt
