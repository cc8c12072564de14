-- What the clients among the tasks have is listed, task by task.
use Rattle.std.proofs.Common.{◌≡◌, ℕ, ◌+◌, List, [], ◌∷◌, ◌++◌, map, sym, subst, ap, ◌∙◌, take, drop, append-nil}
use Rattle.std.proofs.lemmas.List.{map-append}
use Rattle.std.specs.List.{flat_map}
use Rattle.frag_pool.specs.declared.helper.Helper.{Helper}
use Rattle.hist_standing.specs.declared.Standing.{Ghosts as StandingGhosts}
use Rattle.sector_model.specs.declared.entry.Entry.{Entry}
use Rattle.io_core.specs.State.{State}
use Rattle.vol_server.specs.Laws.Lists.{AreEmpty, AreListed, AreNext}
use Rattle.vol_server.specs.Laws.Tasks.{caller_in, client_of, end_of, hand_of, of_client, replies_of, view_in}
use Rattle.vol_server.specs.declared.served.Lists.{Lists}
use Rattle.vol_server.specs.declared.task.Task.{Task}
use Rattle.vol_server.specs.declared.task.Work.{Work}
use Rattle.vol_server.specs.declared.task.Work.TheVariants as work
use Rattle.vol_server.proofs.Joining.{one_taken}
use Rattle.vol_server.proofs.LinedUp.{one_flat}

-- a list that has what is listed of the first tasks, once one more is listed
next_flat : {X Y : Type 0} (f : X → List Y) (n : ℕ) (xs old rest : List X) (x : X) (ys now : List Y) → old ≡ drop n xs → old ≡ x ∷ rest
    → now ≡ ys ++ f x → ys ≡ flat_map f (take n xs) → now ≡ flat_map f (take (n + 1) xs)
next_flat {X} {Y} f n xs old rest x ys now at is next so_far =
    next ∙ ap (λ (l : List Y). l ++ f x) so_far ∙ sym (one_flat f (take n xs) (take (n + 1) xs) x (one_taken n xs old rest x at is))

module _ {S C I O : Type 0} {st : StandingGhosts (State S C) Entry} where
  -- the passes of the first tasks and of one more
  pub one_view : (n : ℕ) (ts old rest : List (Task (State S C) I O Entry st)) (t : Task (State S C) I O Entry st) → old ≡ drop n ts → old ≡ t ∷ rest
      → map view_in (take n ts) ++ view_in t ∷ [] ≡ map view_in (take (n + 1) ts)
  one_view n ts old rest t at is =
      sym (map-append view_in (take n ts) (t ∷ [])) ∙ ap (λ (l : List (Task (State S C) I O Entry st)). map view_in l) (sym (one_taken n ts old rest t at is))

  pub none_noted : (l : Lists I O) → AreEmpty l → AreListed {S = S} {C = C} {st = st} l []
  none_noted l none = record { ends = none.ends; replies = none.replies; callers = none.callers; clients = none.clients; hands = none.hands }

  pub one_noted : (n : ℕ) (ts old rest : List (Task (State S C) I O Entry st)) (t : Task (State S C) I O Entry st) (l m : Lists I O)
      → old ≡ drop n ts → old ≡ t ∷ rest → AreNext l m t.work (caller_in t) → AreListed l (take n ts) → AreListed m (take (n + 1) ts)
  one_noted n ts old rest t l m at is next so_far = record {
    ends = next_flat (λ (x : Task (State S C) I O Entry st). of_client end_of x.work) n ts old rest t _ _ at is next.ends so_far.ends;
    replies = next_flat (λ (x : Task (State S C) I O Entry st). of_client replies_of x.work) n ts old rest t _ _ at is next.replies so_far.replies;
    callers = next_flat (λ (x : Task (State S C) I O Entry st). of_client (λ s. caller_in x) x.work) n ts old rest t _ _ at is next.callers so_far.callers;
    clients = next_flat (λ (x : Task (State S C) I O Entry st). of_client client_of x.work) n ts old rest t _ _ at is next.clients so_far.clients;
    hands = next_flat (λ (x : Task (State S C) I O Entry st). of_client hand_of x.work) n ts old rest t _ _ at is next.hands so_far.hands;
  }

module _ {I O : Type 0} where
  -- a helper isn't listed
  pub none_next : (l : Lists I O) (w : Work I O) (h : Helper) (n : ℕ) → w ≡ work.Help h → AreNext l l w n
  none_next l w h n is = subst (λ (x : Work I O). AreNext l l x n) (sym is) (record {
    ends = sym (append-nil l.served.ends.items);
    replies = sym (append-nil l.served.replies.items);
    callers = sym (append-nil l.served.callers.items);
    clients = sym (append-nil l.served.clients.items);
    hands = sym (append-nil l.hands.items);
  })
