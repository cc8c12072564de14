-- The passes of the tasks are joined, one by one.
--
-- Once a pass is joined, its number is one of those under which no later join changes an entry. So the entries under it
-- are its own at the end too. The numbers that the kept pass had before stay settled for the same reason, and the entries
-- under its own number are always its own.
use Rattle.std.proofs.Common.{◌≡◌, ℕ, zero, suc, ◌+◌, ◌<◌, max, List, [], ◌∷◌, ◌++◌, length, get_or, refl, sym, ap, subst, ◌∙◌, arith, map, All, Contains, append_assoc, append-nil, take, drop}
use Rattle.std.proofs.lemmas.List.{get_or-map, length-map, map-append}
use Rattle.std.proofs.lemmas.List.Elements.{All-drop, All-head, All-nil, All-push, All-same, Contains-append_left, Contains-append_right}
use Rattle.hist_lock.specs.declared.view.View.{View}
use Rattle.hist_lock.specs.History.{StartsWith, entries, SameUnder}
use Rattle.hist_lock.specs.Known.{Adds, numbers_of}
use Rattle.sector_model.specs.declared.entry.Entry.{Entry}
use Rattle.io_core.specs.State.{State}
use Rattle.io_queue.specs.Pass.{caller_of}
use Rattle.io_queue.proofs.Passes.{starts, starts_after}
use Rattle.vol_server.specs.Laws.Weights.{Weigh, Weighs}
use Rattle.vol_server.specs.Laws.Tasks.{HasJoined}
use Rattle.vol_server.proofs.Weighing.{added, last}

-- a place of a list
module _ {X : Type 0} where
  next_at : (n : ℕ) (xs : List X) (x : X) (rest : List X) → drop n xs ≡ x ∷ rest → (take (suc n) xs ≡ take n xs ++ x ∷ []) × (drop (suc n) xs ≡ rest)
  next_at zero [] x rest is = absurd (cc)
  next_at zero (y ∷ ys) x rest is = let head : y ≡ x = cc in let tail : ys ≡ rest = cc in (ap (λ z. z ∷ []) head, tail)
  next_at (suc n) [] x rest is = absurd (cc)
  next_at (suc n) (y ∷ ys) x rest is = let r = next_at n ys x rest is in (ap (λ l. y ∷ l) r.0, r.1)

  pub one_taken : (n : ℕ) (xs old rest : List X) (x : X) → old ≡ drop n xs → old ≡ x ∷ rest → take (n + 1) xs ≡ take n xs ++ x ∷ []
  one_taken n xs old rest x at is = let more : n + 1 ≡ suc n = omega arith in
      ap (λ k. take k xs) more ∙ (next_at n xs x rest (sym at ∙ is)).0

  pub one_dropped : (n : ℕ) (xs old rest : List X) (x : X) → old ≡ drop n xs → old ≡ x ∷ rest → rest ≡ drop (n + 1) xs
  one_dropped n xs old rest x at is = let more : n + 1 ≡ suc n = omega arith in
      sym (ap (λ k. drop k xs) more ∙ (next_at n xs x rest (sym at ∙ is)).1)

  pub holds_next : (P : X → Type 0) (n : ℕ) (xs old rest : List X) (x : X) → old ≡ drop n xs → old ≡ x ∷ rest → All P xs → P x
  holds_next P n xs old rest x at is all = All-head P x rest (All-same P (x ∷ rest) (drop n xs) (sym is ∙ at) (All-drop P n xs all))

mapped : {X : Type 0} (f : X → ℕ) (xs : List X) (k : ℕ) (d : X) → k < length xs → Contains (map f xs) (f (get_or xs k d))
mapped f xs k d lt = (k, (let e : length (map f xs) ≡ length xs = length-map xs f in omega arith), get_or-map f xs k d (f (get_or xs k d)) lt)

module _ {S C : Type 0} where
  pub none_joined : (v : View (State S C) Entry) → HasJoined v v []
  none_joined v = record {
    base = refl;
    number = refl;
    mine = refl;
    given = omega arith;
    under = sym (append-nil v.under);
    later = starts v.seen;
    settled = λ n c. refl;
    theirs = All-nil (λ (w : View (State S C) Entry). entries caller_of w.number v.seen ≡ w.mine);
    share = λ top x y is none. let same : x ≡ x + y = omega arith in subst (λ (z : ℕ). Weighs top v z) same is;
  }

  module _ (u v x w : View (State S C) Entry) (ws : List (View (State S C) Entry)) (so_far : HasJoined u v ws)
      (base : w.base ≡ v.base) (number : w.number ≡ v.number) (mine : w.mine ≡ v.mine) (adds : Adds v x w)
      (under : w.under ≡ v.under ++ x.number ∷ x.under) (none : x.under ≡ []) (given : w.given ≡ max v.given x.given)
      (later : StartsWith w.seen v.seen) (joined : entries caller_of x.number w.seen ≡ x.mine)
      (settled : SameUnder caller_of v.under w.seen v.seen)
      (own_u : entries caller_of u.number u.seen ≡ u.mine) (own_w : entries caller_of w.number w.seen ≡ w.mine) where
    numbers : List ℕ
    numbers = map (λ (y : View (State S C) Entry). y.number) ws

    all_under : w.under ≡ u.under ++ map (λ (y : View (State S C) Entry). y.number) (ws ++ x ∷ [])
    all_under =
        under ∙ ap (λ (l : List ℕ). v.under ++ x.number ∷ l) none
        ∙ ap (λ (l : List ℕ). l ++ x.number ∷ []) so_far.under
        ∙ append_assoc u.under (map (λ (y : View (State S C) Entry). y.number) ws) (x.number ∷ [])
        ∙ ap (λ (l : List ℕ). u.under ++ l) (sym (map-append (λ (y : View (State S C) Entry). y.number) ws (x ∷ [])))

    before : (n : ℕ) → Contains u.under n → Contains v.under n
    before n c = subst (λ (l : List ℕ). Contains l n) (sym so_far.under)
        (Contains-append_left u.under (map (λ (y : View (State S C) Entry). y.number) ws) n c)

    of_one : (k : ℕ) (d : View (State S C) Entry) → k < length ws → Contains v.under (get_or ws k d).number
    of_one k d lt = subst (λ (l : List ℕ). Contains l (get_or ws k d).number) (sym so_far.under)
        (Contains-append_right u.under (map (λ (y : View (State S C) Entry). y.number) ws) (get_or ws k d).number
        (mapped (λ (y : View (State S C) Entry). y.number) ws k d lt))

    all_settled : (n : ℕ) → Contains (numbers_of u) n → entries caller_of n w.seen ≡ entries caller_of n u.seen
    all_settled n (zero, within, is) = subst (λ (m : ℕ). entries caller_of m w.seen ≡ entries caller_of m u.seen) is
        (ap (λ (m : ℕ). entries caller_of m w.seen) (sym (number ∙ so_far.number)) ∙ own_w ∙ mine ∙ so_far.mine ∙ sym own_u)
    all_settled n (suc k, within, is) = let c : Contains u.under n = (k, omega arith, is) in
        settled n (before n c) ∙ so_far.settled n (suc k, within, is)

    weighs : (top a b : ℕ) → Weighs top u a → Weigh top (ws ++ x ∷ []) b → Weighs top w (a + b)
    weighs top a b is all = let r = last top b ws x all in
        let same : (a + r.0) + r.1 ≡ a + b = (let e : b ≡ r.0 + r.1 = r.4 in omega arith) in
        subst (λ (z : ℕ). Weighs top w z) same (added top (a + r.0) r.1 v x w adds (so_far.share top a r.0 is r.2) r.3)

    pub one_joined : HasJoined u w (ws ++ x ∷ [])
    one_joined = record {
      base = base ∙ so_far.base;
      number = number ∙ so_far.number;
      mine = mine ∙ so_far.mine;
      given = omega (arith, given, so_far.given);
      under = all_under;
      later = starts_after u.seen v.seen w.seen so_far.later later;
      settled = all_settled;
      theirs = All-push (λ (y : View (State S C) Entry). entries caller_of y.number w.seen ≡ y.mine) ws x
          (λ k d lt. settled (get_or ws k d).number (of_one k d lt) ∙ so_far.theirs k d lt) joined;
      share = weighs;
    }
