-- A pass for each task is split off, one by one.
--
-- Each split halves the share that is left, and the unit in which the shares are counted with it: so what is left and
-- what is out are numbers, with the sum that the whole is in this unit.
use Rattle.std.proofs.Common.{◌≡◌, ◌≢◌, ℕ, ◌+◌, ◌*◌, ◌^◌, ◌<◌, ◌≤◌, List, [], ◌∷◌, ◌++◌, length, get_or, refl, sym, ap, subst, ◌∙◌, arith, map, All, append_assoc, length-append}
use Rattle.std.proofs.lemmas.List.{map-append}
use Rattle.std.proofs.lemmas.List.Elements.{All-nil, All-push, All-weaker}
use Rattle.std.proofs.lemmas.List.Quantifiers.{all_pairs_push}
use Rattle.std.proofs.lemmas.Nat.{pow-add}
use Rattle.atomic_table.specs.Seated.{TableId}
use Rattle.hist_standing.specs.declared.Standing.{Ghosts as StandingGhosts}
use Rattle.hist_lock.specs.declared.view.View.{View}
use Rattle.hist_lock.specs.Known.{Halves, IsSame}
use Rattle.sector_model.specs.declared.entry.Entry.{Entry}
use Rattle.vc_layout.specs.declared.geometry.Geometry.{Geometry}
use Rattle.io_core.specs.State.{State}
use Rattle.vol_server.specs.Served.{AreNew}
use Rattle.vol_server.specs.Laws.Weights.{Weigh, Weighs}
use Rattle.vol_server.specs.Laws.Tasks.{CanRun, HasSplit, IsFresh, caller_in, view_in}
use Rattle.vol_server.specs.declared.task.Task.{Task}
use Rattle.vol_server.proofs.Weighing.{finer_all, half, one_more}

-- one more number, which none before has
pub one_new : (given next : ℕ) (ns : List ℕ) (n : ℕ) → AreNew given ns → All (λ m. m < next) ns → given ≤ next → next ≤ n
    → AreNew given (ns ++ n ∷ [])
one_new given next ns n are below from at = record {
  apart = all_pairs_push (λ m k. m ≢ k) ns n are.apart (λ k d lt same. let b : get_or ns k d < next = below k d lt in omega arith);
  new = All-push (λ m. given ≤ m) ns n are.new (omega arith);
}

pub one_below : (next : ℕ) (ns : List ℕ) (n : ℕ) → All (λ m. m < next) ns → next ≤ n → All (λ m. m < n + 1) (ns ++ n ∷ [])
one_below next ns n below at = All-push (λ m. m < n + 1) ns n (All-weaker (λ m. m < next) (λ m. m < n + 1) (λ m lt. omega arith) ns below) (omega arith)

-- what is listed of the tasks and what waits, and how long the list is
pub none_listed : {X Y : Type 0} (f : X → Y) (xs : List X) (rest all : List Y) → xs ≡ [] → rest ≡ all → map f xs ++ rest ≡ all
none_listed {X} f xs rest all none is = ap (λ (l : List X). map f l ++ rest) none ∙ is

pub one_listed : {X Y : Type 0} (f : X → Y) (xs new : List X) (x : X) (old rest all : List Y) → new ≡ xs ++ x ∷ [] → old ≡ f x ∷ rest
    → map f xs ++ old ≡ all → map f new ++ rest ≡ all
one_listed {X} {Y} f xs new x old rest all pushed next is =
    ap (λ (l : List X). map f l ++ rest) pushed ∙ ap (λ (l : List Y). l ++ rest) (map-append f xs (x ∷ []))
    ∙ append_assoc (map f xs) (f x ∷ []) rest ∙ ap (λ (l : List Y). map f xs ++ l) (sym next) ∙ is

pub one_longer : {X : Type 0} (xs new : List X) (x : X) (n : ℕ) → new ≡ xs ++ x ∷ [] → length xs ≡ n → length new ≡ n + 1
one_longer xs new x n pushed is = ap length pushed ∙ length-append xs (x ∷ []) ∙ ap (λ k. k + 1) is

module _ {S C I O : Type 0} {st : StandingGhosts (State S C) Entry} (id : TableId) (g : Geometry) (c : C) where
  none_here : (u : View (State S C) Entry) → HasSplit {I = I} {O = O} {st = st} id g c u u []
  none_here u = record {
    same = record { base = refl; number = refl; under = refl; given = omega arith };
    seen = refl;
    mine = refl;
    can_run = All-nil (CanRun {st = st} id g c);
    fresh = All-nil (λ (t : Task (State S C) I O Entry st). IsFresh u (view_in t));
    new = record { apart = λ i j d lt in_list. absurd (omega arith); new = All-nil (λ m. u.given ≤ m) };
    below = All-nil (λ m. m < u.given);
    halvings = 0;
    left = u.part;
    out = 0;
    left_is = ap (λ k. u.part * 2 ^ k) zero_more;
    out_is = refl;
    sum = omega arith;
  }
    where
      zero_more : u.halvings + 0 ≡ u.halvings
      zero_more = omega arith

  pub none_split : (u : View (State S C) Entry) (ts : List (Task (State S C) I O Entry st)) → ts ≡ [] → HasSplit id g c u u ts
  none_split u ts none = subst (λ (l : List (Task (State S C) I O Entry st)). HasSplit id g c u u l) (sym none) (none_here u)

  module _ (u v w : View (State S C) Entry) (ts new : List (Task (State S C) I O Entry st)) (t : Task (State S C) I O Entry st) (pushed : new ≡ ts ++ t ∷ []) (so_far : HasSplit id g c u v ts) (same : IsSame v w) (seen : w.seen ≡ v.seen) (mine : w.mine ≡ v.mine)
      (halves : Halves v w) (other : Halves v (view_in t)) (from : v.given ≤ caller_in t) (next : w.given ≡ caller_in t + 1)
      (can : CanRun id g c t) (its_seen : (view_in t).seen ≡ v.seen) (its_mine : (view_in t).mine ≡ []) (its_under : (view_in t).under ≡ []) where
    callers : map caller_in (ts ++ t ∷ []) ≡ map caller_in ts ++ caller_in t ∷ []
    callers = map-append caller_in ts (t ∷ [])

    smaller : u.halvings + (so_far.halvings + 1) ≡ (u.halvings + so_far.halvings) + 1
    smaller = omega arith

    unit : 2 ^ (so_far.halvings + 1) ≡ 2 ^ so_far.halvings * 2
    unit = pow-add 2 so_far.halvings 1

    doubled : (a b p q : ℕ) → a + b ≡ p * q → a + (b * 2 + a) ≡ p * (q * 2)
    doubled a b p q is = omega arith

    one_here : HasSplit id g c u w (ts ++ t ∷ [])
    one_here = record {
      same = record {
        base = same.base ∙ so_far.same.base;
        number = same.number ∙ so_far.same.number;
        under = same.under ∙ so_far.same.under;
        given = omega (arith, same.given, so_far.same.given);
      };
      seen = seen ∙ so_far.seen;
      mine = mine ∙ so_far.mine;
      can_run = All-push (CanRun id g c) ts t so_far.can_run can;
      fresh = All-push (λ (x : Task (State S C) I O Entry st). IsFresh u (view_in x)) ts t so_far.fresh (record { seen = its_seen ∙ so_far.seen; mine = its_mine; under = its_under });
      new = subst (AreNew u.given) (sym callers) (one_new u.given v.given (map caller_in ts) (caller_in t) so_far.new so_far.below so_far.same.given from);
      below = subst (λ (n : ℕ). All (λ m. m < n) (map caller_in (ts ++ t ∷ []))) (sym next)
          (subst (All (λ m. m < caller_in t + 1)) (sym callers) (one_below v.given (map caller_in ts) (caller_in t) so_far.below from));
      halvings = so_far.halvings + 1;
      left = so_far.left;
      out = so_far.out * 2 + so_far.left;
      left_is = subst (λ (k : ℕ). Weighs k w so_far.left) (sym smaller) (half (u.halvings + so_far.halvings) so_far.left v w halves so_far.left_is);
      out_is = subst (λ (k : ℕ). Weigh k (map view_in (ts ++ t ∷ [])) (so_far.out * 2 + so_far.left)) (sym smaller)
          (subst (λ (vs : List (View (State S C) Entry)). Weigh ((u.halvings + so_far.halvings) + 1) vs (so_far.out * 2 + so_far.left)) (sym (map-append view_in ts (t ∷ [])))
          (one_more ((u.halvings + so_far.halvings) + 1) (so_far.out * 2) so_far.left (map view_in ts) (view_in t)
          (finer_all (u.halvings + so_far.halvings) so_far.out (map view_in ts) so_far.out_is)
          (half (u.halvings + so_far.halvings) so_far.left v (view_in t) other so_far.left_is)));
      sum = doubled so_far.left so_far.out u.part (2 ^ so_far.halvings) so_far.sum ∙ ap (λ p. u.part * p) (sym unit);
    }

    pub one_split : HasSplit id g c u w new
    one_split = subst (λ (l : List (Task (State S C) I O Entry st)). HasSplit id g c u w l) (sym pushed) one_here
