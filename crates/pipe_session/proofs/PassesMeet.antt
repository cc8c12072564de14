-- Passes that meet.
--
-- A pass that tells another one changes nothing but its share. The other one then lists one more number, and under it there
-- is no entry. What several passes tell one after another adds up.
use Rattle.std.proofs.Common.{◌≡◌, ◌<◌, ◌≤◌, ℕ, ◌+◌, List, [], ◌∷◌, ◌++◌, length, get_or, map, set, take, All, Contains, append_assoc, append-nil, length-append, refl, sym, ap, ◌∙◌, subst, arith}
use mathlib.Core.Logic.{dite}
use native.Mathlib.Decide.{ℕ_discrete}
use Rattle.std.proofs.lemmas.List.{get_or_default, get_or-map, get_or-set_other, get_or-set_same, length-map, length-set, map-set, take_all, take_more_set}
use Rattle.std.proofs.lemmas.List.Elements.{All-append, All-nil, All-push, All-set, Contains-append_left, Contains-append_right}
use Rattle.hist_lock.proofs.Entries.{longer_first, longer_second}
use Rattle.hist_lock.specs.declared.view.View.{View}
use Rattle.hist_lock.specs.History.{entries, StartsWith}
use Rattle.hist_lock.specs.Known.{IsSame, longer}
use Rattle.sector_model.specs.declared.entry.Entry.{Entry}
use Rattle.io_core.specs.State.{State}
use Rattle.io_queue.specs.Pass.{Call, caller_of}
use Rattle.io_queue.proofs.Passes.{starts, starts_after}
use Rattle.hist_standing.specs.declared.Standing.{Ghosts as StandingGhosts}
use Rattle.pipe_lane.specs.Lanes.{view_in}
use Rattle.pipe_lane.specs.declared.lane.Lane.{Lane}
use Rattle.pipe_session.specs.Meeting.{GoesTo, HasTold, HaveSeen}
use Rattle.pipe_session.specs.Laws.Lanes.{HaveMet}
use Rattle.pipe_session.proofs.OneUnit.{given_in, given_out, same_sum, sum_then}

-- the longer of a list and what it goes on to
pub longer_later : (a b : List Entry) → StartsWith b a → longer a b ≡ b
longer_later a b ([], is) = longer_first a b (omega (arith, ap length (is ∙ append-nil a))) ∙ sym (is ∙ append-nil a)
longer_later a b (e ∷ es, is) = longer_second a b (omega (arith, ap length is, length-append a (e ∷ es)))

module _ {S C : Type 0} where
  pub goes_none : (v : View (State S C) Entry) → GoesTo v v []
  goes_none v = record {
    base = refl;
    number = refl;
    mine = sym (append-nil v.mine);
    given = omega arith;
    later = starts v.seen;
    settled = λ n c. refl;
    gained = [];
    under = sym (append-nil v.under);
    idle = All-nil (λ (n : ℕ). entries caller_of n v.seen ≡ []);
  }

  -- the same pass, whatever became of its share
  pub goes_same : (v w : View (State S C) Entry) → IsSame v w → w.seen ≡ v.seen → w.mine ≡ v.mine → GoesTo v w []
  goes_same v w same seen mine = record {
    base = same.base;
    number = same.number;
    mine = mine ∙ sym (append-nil v.mine);
    given = same.given;
    later = ([], seen ∙ sym (append-nil v.seen));
    settled = λ n c. ap (entries caller_of n) seen;
    gained = [];
    under = same.under ∙ sym (append-nil v.under);
    idle = All-nil (λ (n : ℕ). entries caller_of n w.seen ≡ []);
  }

  pub goes_called : (v w : View (State S C) Entry) (es : List Entry) → Call v w es → GoesTo v w es
  goes_called v w es call = record {
    base = call.same.base;
    number = call.same.number;
    mine = call.mine;
    given = call.same.given;
    later = call.later;
    settled = call.settled;
    gained = [];
    under = call.same.under ∙ sym (append-nil v.under);
    idle = All-nil (λ (n : ℕ). entries caller_of n w.seen ≡ []);
  }

  pub goes_told : (v w u z : View (State S C) Entry) → HasTold v w u z → GoesTo u z []
  goes_told v w u z told = record {
    base = told.base;
    number = told.number;
    mine = told.own ∙ sym (append-nil u.mine);
    given = told.knows;
    later = told.later;
    settled = told.settled;
    gained = told.half.number ∷ [];
    under = told.under;
    idle = All-push (λ (n : ℕ). entries caller_of n z.seen ≡ []) [] told.half.number (All-nil (λ (n : ℕ). entries caller_of n z.seen ≡ [])) told.idle;
  }

  module _ (u v w : View (State S C) Entry) (es fs : List Entry) (first : GoesTo u v es) (second : GoesTo v w fs) where
    still : (n : ℕ) → Contains v.under n → entries caller_of n w.seen ≡ entries caller_of n v.seen
    still n c = second.settled n c

    in_under : (n : ℕ) → Contains u.under n → Contains v.under n
    in_under n c = subst (λ (l : List ℕ). Contains l n) (sym first.under) (Contains-append_left u.under first.gained n c)

    in_gained : (n : ℕ) → Contains first.gained n → Contains v.under n
    in_gained n c = subst (λ (l : List ℕ). Contains l n) (sym first.under) (Contains-append_right u.under first.gained n c)

    first_idle : All (λ n. entries caller_of n w.seen ≡ []) first.gained
    first_idle k d lt = still (get_or first.gained k d) (in_gained (get_or first.gained k d) (k, lt, get_or_default first.gained k (get_or first.gained k d) d lt))
        ∙ first.idle k d lt

    pub goes_then : GoesTo u w (es ++ fs)
    goes_then = record {
      base = second.base ∙ first.base;
      number = second.number ∙ first.number;
      mine = second.mine ∙ ap (λ (l : List Entry). l ++ fs) first.mine ∙ append_assoc u.mine es fs;
      given = omega (arith, first.given, second.given);
      later = starts_after u.seen v.seen w.seen first.later second.later;
      settled = λ n c. still n (in_under n c) ∙ first.settled n c;
      gained = first.gained ++ second.gained;
      under = second.under ∙ ap (λ (l : List ℕ). l ++ second.gained) first.under ∙ append_assoc u.under first.gained second.gained;
      idle = All-append (λ (n : ℕ). entries caller_of n w.seen ≡ []) first.gained second.gained first_idle second.idle;
    }

  pub none_met : (v : View (State S C) Entry) (us : List (View (State S C) Entry)) → HaveMet v v us us
  none_met v us = record {
    pass = goes_none v;
    as_many = refl;
    each = λ j d lt. goes_none (get_or us j d);
    share = same_sum (v ∷ us);
  }

  -- one of the passes met another one
  module _ (v w x : View (State S C) Entry) (us ws : List (View (State S C) Entry)) (i : ℕ) (u z : View (State S C) Entry) (so_far : HaveMet v w us ws)
      (lt : i < length ws) (is : u ≡ get_or ws i u) where
    each_now : GoesTo u z [] → (j : ℕ) (d : View (State S C) Entry) → j < length us → GoesTo (get_or us j d) (get_or (set ws i z) j d) []
    each_now goes j d within = dite (ℕ_discrete j i)
        (λ same. subst (λ (k : ℕ). GoesTo (get_or us k d) (get_or (set ws i z) k d) []) (sym same)
        (subst (λ (y : View (State S C) Entry). GoesTo (get_or us i d) y []) (sym (get_or-set_same ws i z d lt))
        (goes_then (get_or us i d) u z [] [] (subst (λ (y : View (State S C) Entry). GoesTo (get_or us i d) y []) (get_or_default ws i d u lt ∙ sym is)
        (so_far.each i d (omega (arith, lt, so_far.as_many)))) goes)))
        (λ other. subst (λ (y : View (State S C) Entry). GoesTo (get_or us j d) y []) (sym (get_or-set_other ws i j z d other)) (so_far.each j d within))

    as_long : length (set ws i z) ≡ length us
    as_long = length-set ws i z ∙ so_far.as_many

    pub one_told : HasTold w x u z → HaveMet v x us (set ws i z)
    one_told told = record {
      pass = goes_then v w x [] [] so_far.pass (goes_same w x told.same told.seen told.mine);
      as_many = as_long;
      each = each_now (goes_told w x u z told);
      share = sum_then (v ∷ us) (w ∷ ws) (x ∷ set ws i z) so_far.share
          (given_out w x u z told.half ws i u lt is told.kept told.given told.adds);
    }

    pub one_tells : HasTold u z w x → HaveMet v x us (set ws i z)
    one_tells told = record {
      pass = goes_then v w x [] [] so_far.pass (goes_told u z w x told);
      as_many = as_long;
      each = each_now (goes_same u z told.same told.seen told.mine);
      share = sum_then (v ∷ us) (w ∷ ws) (x ∷ set ws i z) so_far.share
          (given_in w x u z told.half ws i u lt is told.kept told.given told.adds);
    }

  pub met_then : (u v w : View (State S C) Entry) (us vs ws : List (View (State S C) Entry)) → HaveMet u v us vs → HaveMet v w vs ws → HaveMet u w us ws
  met_then u v w us vs ws first second = record {
    pass = goes_then u v w [] [] first.pass second.pass;
    as_many = second.as_many ∙ first.as_many;
    each = λ j d lt. goes_then (get_or us j d) (get_or vs j d) (get_or ws j d) [] [] (first.each j d lt)
        (second.each j d (omega (arith, lt, first.as_many)));
    share = sum_then (u ∷ us) (v ∷ vs) (w ∷ ws) first.share second.share;
  }

  pub of_all : (P : View (State S C) Entry → Type 0) (us : List (View (State S C) Entry)) (i : ℕ) → length us ≤ i → All P (take i us) → All P us
  of_all P us i le all = subst (All P) (take_all i us le) all

-- the same of lanes
module _ {S C : Type 0} {st : StandingGhosts (State S C) Entry} where
  at_lane : (ls : List (Lane (State S C) Entry st)) (i : ℕ) (d : Lane (State S C) Entry st) → i < length ls
      → view_in (get_or ls i d) ≡ get_or (map view_in ls) i (view_in (get_or ls i d))
  at_lane ls i d lt = sym (get_or-map view_in ls i d (view_in (get_or ls i d)) lt)

  within : (ls : List (Lane (State S C) Entry st)) (i : ℕ) → i < length ls → i < length (map view_in ls)
  within ls i lt = omega (arith, lt, length-map ls (view_in {st = st}))

  pub lane_told : (v w x : View (State S C) Entry) (us : List (View (State S C) Entry)) (ls : List (Lane (State S C) Entry st)) (i : ℕ)
      (d m : Lane (State S C) Entry st) → HaveMet v w us (map view_in ls) → i < length ls → HasTold w x (view_in (get_or ls i d)) (view_in m)
      → HaveMet v x us (map view_in (set ls i m))
  lane_told v w x us ls i d m so_far lt told = subst (HaveMet v x us) (sym (map-set view_in ls i m))
      (one_told v w x us (map view_in ls) i (view_in (get_or ls i d)) (view_in m) so_far (within ls i lt) (at_lane ls i d lt) told)

  pub lane_tells : (v w x : View (State S C) Entry) (us : List (View (State S C) Entry)) (ls : List (Lane (State S C) Entry st)) (i : ℕ)
      (d m : Lane (State S C) Entry st) → HaveMet v w us (map view_in ls) → i < length ls → HasTold (view_in (get_or ls i d)) (view_in m) w x
      → HaveMet v x us (map view_in (set ls i m))
  lane_tells v w x us ls i d m so_far lt told = subst (HaveMet v x us) (sym (map-set view_in ls i m))
      (one_tells v w x us (map view_in ls) i (view_in (get_or ls i d)) (view_in m) so_far (within ls i lt) (at_lane ls i d lt) told)

  -- what the passes of the first lanes have seen, once there is one lane more
  one_more : (P : View (State S C) Entry → Type 0) (ls : List (Lane (State S C) Entry st)) (i : ℕ) (m : Lane (State S C) Entry st)
      → i < length ls → All P (take i (map view_in ls)) → P (view_in m) → All P (take (i + 1) (map view_in (set ls i m)))
  one_more P ls i m lt all one =
      subst (All P) (sym (ap (take (i + 1)) (map-set view_in ls i m) ∙ take_more_set (map view_in ls) i (view_in m) (within ls i lt)))
      (All-push P (take i (map view_in ls)) (view_in m) all one)

  pub sees_more : (w x : View (State S C) Entry) (ls : List (Lane (State S C) Entry st)) (i : ℕ) (d m : Lane (State S C) Entry st)
      → i < length ls → HasTold (view_in (get_or ls i d)) (view_in m) w x → All (λ v. StartsWith w.seen v.seen) (take i (map view_in ls))
      → All (λ v. StartsWith x.seen v.seen) (take (i + 1) (map view_in (set ls i m)))
  sees_more w x ls i d m lt told all =
      one_more (λ v. StartsWith x.seen v.seen) ls i m lt
      (λ k e in_first. starts_after (get_or (take i (map view_in ls)) k e).seen w.seen x.seen (all k e in_first) told.later)
      (subst (StartsWith x.seen) (sym told.seen) told.sees)

  pub still_sees : (w x : View (State S C) Entry) (ls : List (Lane (State S C) Entry st)) (i : ℕ) (d m : Lane (State S C) Entry st)
      → HasTold w x (view_in (get_or ls i d)) (view_in m) → (view_in m).seen ≡ w.seen → All (λ v. StartsWith w.seen v.seen) (map view_in ls)
      → All (λ v. StartsWith x.seen v.seen) (map view_in (set ls i m))
  still_sees w x ls i d m told is all =
      subst (All (λ v. StartsWith x.seen v.seen)) (sym (map-set view_in ls i m))
      (All-set (λ v. StartsWith x.seen v.seen) (map view_in ls) i (view_in m)
      ([], told.seen ∙ sym (append-nil (view_in m).seen ∙ is))
      (λ k e lt. subst (λ (l : List Entry). StartsWith l (get_or (map view_in ls) k e).seen) (sym told.seen) (all k e lt)))

  -- it sees what the pass sees that tells it
  pub same_seen : (w x : View (State S C) Entry) (ls : List (Lane (State S C) Entry st)) (i : ℕ) (d m : Lane (State S C) Entry st)
      → i < length ls → HasTold w x (view_in (get_or ls i d)) (view_in m) → All (λ v. StartsWith w.seen v.seen) (map view_in ls)
      → (view_in m).seen ≡ w.seen
  same_seen w x ls i d m lt told all =
      told.longer_is ∙ longer_later (view_in (get_or ls i d)).seen w.seen
      (subst (λ (v : View (State S C) Entry). StartsWith w.seen v.seen) (sym (at_lane ls i d lt)) (all i (view_in (get_or ls i d)) (within ls i lt)))

  pub seen_more : (w x : View (State S C) Entry) (ls : List (Lane (State S C) Entry st)) (i : ℕ) (d m : Lane (State S C) Entry st)
      → i < length ls → HasTold w x (view_in (get_or ls i d)) (view_in m) → (view_in m).seen ≡ w.seen → HaveSeen w (take i (map view_in ls))
      → HaveSeen x (take (i + 1) (map view_in (set ls i m)))
  seen_more w x ls i d m lt told is all =
      one_more (λ v. v.seen ≡ x.seen) ls i m lt (λ k e in_first. all k e in_first ∙ sym told.seen) (is ∙ sym told.seen)
