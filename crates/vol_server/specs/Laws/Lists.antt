-- The lists of what became of the clients.
--
-- AreEmpty l           nothing is listed
-- HaveRoom k l         each list has room for k more items
-- AreNext l m w n      what is listed of the work w, whose pass has the number n, was added to l, which is m now
-- AreListed l ts       what the clients among the tasks have is listed, in their order
use Rattle.std.specs.Prelude.{◌≡◌, ◌≤◌, ℕ, ◌+◌, List, [], ◌++◌, vec_len, vec_capacity}
use Rattle.hist_standing.specs.declared.Standing.{Ghosts as StandingGhosts}
use Rattle.sector_model.specs.declared.entry.Entry.{Entry}
use Rattle.io_core.specs.State.{State}
use Rattle.vol_server.specs.Laws.Tasks.{callers_of, client_of, end_of, hand_of, listed, of_client, replies_of}
use Rattle.vol_server.specs.declared.served.Lists.{Lists}
use Rattle.vol_server.specs.declared.task.Task.{Task}
use Rattle.vol_server.specs.declared.task.Work.{Work}

module _ {I O : Type 0} where
  pub record AreEmpty (l : Lists I O) : Type 0 where
    pub ends : l.served.ends.items ≡ []
    pub replies : l.served.replies.items ≡ []
    pub callers : l.served.callers.items ≡ []
    pub clients : l.served.clients.items ≡ []
    pub hands : l.hands.items ≡ []

  pub record HaveRoom (k : ℕ) (l : Lists I O) : Type 0 where
    pub ends : vec_len l.served.ends + k ≤ vec_capacity l.served.ends
    pub replies : vec_len l.served.replies + k ≤ vec_capacity l.served.replies
    pub callers : vec_len l.served.callers + k ≤ vec_capacity l.served.callers
    pub clients : vec_len l.served.clients + k ≤ vec_capacity l.served.clients
    pub hands : vec_len l.hands + k ≤ vec_capacity l.hands

  pub record AreNext (l m : Lists I O) (w : Work I O) (n : ℕ) : Type 0 where
    pub ends : m.served.ends.items ≡ l.served.ends.items ++ of_client end_of w
    pub replies : m.served.replies.items ≡ l.served.replies.items ++ of_client replies_of w
    pub callers : m.served.callers.items ≡ l.served.callers.items ++ of_client (λ s. n) w
    pub clients : m.served.clients.items ≡ l.served.clients.items ++ of_client client_of w
    pub hands : m.hands.items ≡ l.hands.items ++ of_client hand_of w

module _ {S C I O : Type 0} {st : StandingGhosts (State S C) Entry} where
  pub record AreListed (l : Lists I O) (ts : List (Task (State S C) I O Entry st)) : Type 0 where
    pub ends : l.served.ends.items ≡ listed end_of ts
    pub replies : l.served.replies.items ≡ listed replies_of ts
    pub callers : l.served.callers.items ≡ callers_of ts
    pub clients : l.served.clients.items ≡ listed client_of ts
    pub hands : l.hands.items ≡ listed hand_of ts
