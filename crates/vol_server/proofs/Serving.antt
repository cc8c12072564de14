-- What the threads did is what the clients were promised.
--
-- The pass of a task had no entries before, so its own are those of its work. After the joins the entries under its
-- number are its own. So a client's entries in the history are what its session did, and a helper has none.
use Rattle.std.proofs.Common.{◌≡◌, ℕ, suc, ◌+◌, ◌<◌, ◌≤◌, ◌≢◌, List, [], ◌∷◌, ◌++◌, length, get_or, ◌⊎◌, inl, inr, Option, None, refl, sym, ap, subst, ◌∙◌, arith, map, take, All, Contains}
use Rattle.std.specs.List.{AllPairs, AllZip}
use Rattle.std.proofs.Math.Seq.{take-append_seam}
use Rattle.std.proofs.lemmas.List.Elements.{All-cons, All-contains_itself, All-head, All-nil, All-tail, Contains-append_left, Contains-append_right}
use Rattle.std.proofs.lemmas.List.Kept.{AllPairs-cons}
use Rattle.atomic_table.specs.Seated.{TableId}
use Rattle.hist_standing.specs.declared.Standing.{Ghosts as StandingGhosts}
use Rattle.hist_lock.specs.declared.view.View.{View}
use Rattle.hist_lock.specs.History.{entries, SameUnder}
use Rattle.hist_lock.specs.Known.{numbers_of}
use Rattle.sector_model.specs.declared.entry.Entry.{Entry}
use Rattle.vc_layout.specs.declared.geometry.Geometry.{Geometry}
use Rattle.vc_outside.specs.declared.source.Client.{Client}
use Rattle.vc_outside.specs.declared.source.Source.{Ghosts as SourceGhosts}
use Rattle.vc_outside.specs.declared.sink.Sink.{Ghosts as SinkGhosts}
use Rattle.io_core.specs.State.{State}
use Rattle.io_queue.specs.Pass.{caller_of}
use Rattle.nbd_hand.specs.declared.end.HandEnd.{HandEnd}
use Rattle.nbd_wire.specs.declared.end.End.{End}
use Rattle.nbd_session.specs.Session.{events_of, Serves}
use Rattle.vol_server.specs.Served.{AreGreeted, AreNew, AreServed, Follows, Gained, Greets, IsBack, IsGreeted, IsServed}
use Rattle.vol_server.specs.Laws.Lists.{AreListed, HaveRoom}
use Rattle.vol_server.specs.Laws.Weights.{Weigh}
use Rattle.vol_server.specs.Laws.Tasks.{CanJoin, Did, HasJoined, HasRun, HasSplit, HaveRun, IsFresh, caller_in, callers_of, client_of, end_of, hand_of, listed, of_client, replies_of, view_in}
use Rattle.vol_server.specs.declared.served.Lists.{Lists}
use Rattle.vol_server.specs.declared.task.Service.{Service}
use Rattle.vol_server.specs.declared.task.Task.{Task}
use Rattle.vol_server.specs.declared.task.Work.{Work}
use Rattle.vol_server.specs.declared.task.Work.TheVariants as work
use Rattle.vol_server.proofs.Weighing.{same_weight, whole_again}

-- a fact at each place of two lists, by recursion
zipped : {X : Type 0} (R : X → X → Type 0) (xs ys : List X) → length ys ≡ length xs
    → ((k : ℕ) (d : X) → k < length xs → R (get_or xs k d) (get_or ys k d)) → AllZip R xs ys
zipped R [] [] long each = tt
zipped R [] (y ∷ ys) long each = absurd (omega arith)
zipped R (x ∷ xs) [] long each = absurd (omega arith)
zipped R (x ∷ xs) (y ∷ ys) long each = (
  each 0 x (omega arith),
  zipped R xs ys (omega arith) (λ k d lt. each (suc k) d (omega arith)),
)

-- a fact of all numbers, or of all pairs of them, is one of the clients' numbers
module _ {I O : Type 0} where
  one_all : (P : ℕ → Type 0) (w : Work I O) (n : ℕ) (rest : List ℕ) → P n → All P rest → All P (of_client (λ (s : Service I O). n) w ++ rest)
  one_all P (work.Serve s) n rest is all = All-cons P n rest is all
  one_all P (work.Help h) n rest is all = all

  one_apart : (R : ℕ → ℕ → Type 0) (w : Work I O) (n : ℕ) (rest : List ℕ) → All (R n) rest → AllPairs R rest
      → AllPairs R (of_client (λ (s : Service I O). n) w ++ rest)
  one_apart R (work.Serve s) n rest is all = AllPairs-cons R n rest is all
  one_apart R (work.Help h) n rest is all = all

module _ {S C I O : Type 0} {st : StandingGhosts (State S C) Entry} where
  some_all : (P : ℕ → Type 0) (us : List (Task (State S C) I O Entry st)) → All P (map caller_in us) → All P (callers_of us)
  some_all P [] all = All-nil P
  some_all P (x ∷ us) all =
      one_all P x.work (caller_in x) (callers_of us) (All-head P (caller_in x) (map caller_in us) all)
      (some_all P us (All-tail P (caller_in x) (map caller_in us) all))

  some_apart : (R : ℕ → ℕ → Type 0) (us : List (Task (State S C) I O Entry st)) → AllPairs R (map caller_in us) → AllPairs R (callers_of us)
  some_apart R [] all = all
  some_apart R (x ∷ us) all =
      one_apart R x.work (caller_in x) (callers_of us) (some_all (R (caller_in x)) us (λ k d lt. all 0 (suc k) d (omega arith) (omega arith)))
      (some_apart R us (λ i j d lt within. all (suc i) (suc j) d (omega arith) (omega arith)))

  some_new : (given : ℕ) (us : List (Task (State S C) I O Entry st)) → AreNew given (map caller_in us) → AreNew given (callers_of us)
  some_new given us are = record {
    apart = some_apart (λ m n. m ≢ n) us are.apart;
    new = some_all (λ n. given ≤ n) us are.new;
  }

module _ {I O : Type 0} (source : SourceGhosts I) (sink : SinkGhosts O) (export : Option ℕ) (sector : ℕ) (h : List Entry) where
  -- a client that was served is the first of those listed, and a helper isn't listed
  put_first : (w x : Work I O) (n : ℕ) (own : List Entry) → Did source sink export sector w x own → own ≡ entries caller_of n h
      → (bs xs : List (Client I O)) (gs : List HandEnd) (hs : List End) (ns cs : List ℕ) → AreGreeted source sink export sector h bs xs gs hs ns cs
      → AreGreeted source sink export sector h (of_client client_of w ++ bs) (of_client client_of x ++ xs) (of_client hand_of x ++ gs)
      (of_client end_of x ++ hs) (of_client replies_of x ++ ns) (of_client (λ (s : Service I O). n) x ++ cs)
  put_first (work.Serve s) (work.Serve now) n own did is bs xs gs hs ns cs rest = (
    subst (λ (es : List Entry). IsGreeted source sink export sector s.client now.client es now.hand now.replies now.end) is did,
    rest,
  )
  put_first (work.Help s) (work.Help now) n own did is bs xs gs hs ns cs rest = rest
  put_first (work.Serve s) (work.Help now) n own did is bs xs gs hs ns cs rest = absurd did
  put_first (work.Help s) (work.Serve now) n own did is bs xs gs hs ns cs rest = absurd did

  -- without a handshake the session is all
  alone : (before after : Client I O) (hand : HandEnd) (how : End) (n caller : ℕ) → export ≡ None
      → IsGreeted source sink export sector before after (entries caller_of caller h) hand n how → IsServed source sink sector h before after how n caller
  alone before after hand how n caller none is =
      let greeted = subst (λ (e : Option ℕ). Greets e (source.left before.source) is.rest (sink.contents before.sink) is.held hand) none is.greeted in record {
        served =
            subst (λ (l : Option (List ℕ)). Serves sector l (source.left after.source) (sink.contents before.sink) (sink.contents after.sink)
            (events_of (entries caller_of caller h)) n how) greeted.0
            (subst (λ (l : Option (List ℕ)). Serves sector is.rest (source.left after.source) l (sink.contents after.sink)
            (events_of (entries caller_of caller h)) n how) greeted.1
            (subst (λ (e : HandEnd). Follows e sector is.rest (source.left after.source) is.held (sink.contents after.sink)
            (entries caller_of caller h) n how) greeted.2 is.followed));
        read_fault = record { later = is.read_fault.later; rose = λ fault. is.read_fault.rose (inr fault) };
        write_fault = record { later = is.write_fault.later; rose = λ fault. is.write_fault.rose (inr fault) };
      }

  put_alone : (w x : Work I O) (n : ℕ) (own : List Entry) → export ≡ None → Did source sink export sector w x own → own ≡ entries caller_of n h
      → (bs xs : List (Client I O)) (hs : List End) (ns cs : List ℕ) → AreServed source sink sector h bs xs hs ns cs
      → AreServed source sink sector h (of_client client_of w ++ bs) (of_client client_of x ++ xs)
      (of_client end_of x ++ hs) (of_client replies_of x ++ ns) (of_client (λ (s : Service I O). n) x ++ cs)
  put_alone (work.Serve s) (work.Serve now) n own none did is bs xs hs ns cs rest = (
    alone s.client now.client now.hand now.end now.replies n none
        (subst (λ (es : List Entry). IsGreeted source sink export sector s.client now.client es now.hand now.replies now.end) is did),
    rest,
  )
  put_alone (work.Help s) (work.Help now) n own none did is bs xs hs ns cs rest = rest
  put_alone (work.Serve s) (work.Help now) n own none did is bs xs hs ns cs rest = absurd did
  put_alone (work.Help s) (work.Serve now) n own none did is bs xs hs ns cs rest = absurd did

  one_idle : (callers : List ℕ) (w x : Work I O) (n : ℕ) (own : List Entry) → Did source sink export sector w x own → own ≡ entries caller_of n h
      → ((m : ℕ) → Contains (of_client (λ (s : Service I O). n) x) m → Contains callers m) → Contains callers n ⊎ (entries caller_of n h ≡ [])
  one_idle callers (work.Serve s) (work.Serve now) n own did is into = inl (into n (0, omega arith, refl))
  one_idle callers (work.Help s) (work.Help now) n own did is into = inr (sym is ∙ did)
  one_idle callers (work.Serve s) (work.Help now) n own did is into = absurd did
  one_idle callers (work.Help s) (work.Serve now) n own did is into = absurd did

module _ {S C I O : Type 0} {st : StandingGhosts (State S C) Entry} (id : TableId) (g : Geometry) (c : C) (source : SourceGhosts I) (sink : SinkGhosts O) (export : Option ℕ) where
  abbrev Ran : Task (State S C) I O Entry st → Task (State S C) I O Entry st → Type 0
  Ran = HasRun {st = st} id g c source sink export

  can_all : (u : View (State S C) Entry) (ts us : List (Task (State S C) I O Entry st)) → AllZip Ran ts us
      → All (λ (t : Task (State S C) I O Entry st). IsFresh u (view_in t)) ts → All (CanJoin {st = st} id g c) us
  can_all u [] [] ran fresh = All-nil (CanJoin {st = st} id g c)
  can_all u [] (x ∷ us) ran fresh = absurd ran
  can_all u (t ∷ ts) [] ran fresh = absurd ran
  can_all u (t ∷ ts) (x ∷ us) ran fresh =
      let first = All-head (λ (y : Task (State S C) I O Entry st). IsFresh u (view_in y)) t ts fresh in
      All-cons (CanJoin {st = st} id g c) x us (ran.0.pass, ran.0.open_is, ran.0.call.same.under ∙ first.under)
      (can_all u ts us ran.1 (All-tail (λ (y : Task (State S C) I O Entry st). IsFresh u (view_in y)) t ts fresh))

  same_callers : (ts us : List (Task (State S C) I O Entry st)) → AllZip Ran ts us → map caller_in us ≡ map caller_in ts
  same_callers [] [] ran = refl
  same_callers [] (x ∷ us) ran = absurd ran
  same_callers (t ∷ ts) [] ran = absurd ran
  same_callers (t ∷ ts) (x ∷ us) ran = λ i. ran.0.call.same.number i ∷ same_callers ts us ran.1 i

  same_weights : (top x : ℕ) (ts us : List (Task (State S C) I O Entry st)) → AllZip Ran ts us → Weigh top (map view_in ts) x → Weigh top (map view_in us) x
  same_weights top x [] [] ran is = is
  same_weights top x [] (y ∷ us) ran is = absurd ran
  same_weights top x (t ∷ ts) [] ran is = absurd ran
  same_weights top x (t ∷ ts) (y ∷ us) ran is = (
    is.0,
    is.1,
    same_weight top is.0 (view_in t) (view_in y) ran.0.call.share is.2,
    same_weights top is.1 ts us ran.1 is.3,
    is.4,
  )

  numbers_in : (us : List (Task (State S C) I O Entry st)) → map (λ (w : View (State S C) Entry). w.number) (map view_in us) ≡ map caller_in us
  numbers_in [] = refl
  numbers_in (x ∷ us) = ap (λ (l : List ℕ). caller_in x ∷ l) (numbers_in us)

  -- the entries of its work are all under its number
  own_entries : (u : View (State S C) Entry) (h : List Entry) (t x : Task (State S C) I O Entry st) (ran : Ran t x) → IsFresh u (view_in t)
      → entries caller_of (caller_in x) h ≡ (view_in x).mine → ran.own ≡ entries caller_of (caller_in x) h
  own_entries u h t x ran fresh theirs = sym (theirs ∙ ran.call.mine ∙ ap (λ (l : List Entry). l ++ ran.own) fresh.mine)

  all_greeted : (u : View (State S C) Entry) (h : List Entry) (ts us : List (Task (State S C) I O Entry st)) → AllZip Ran ts us
      → All (λ (t : Task (State S C) I O Entry st). IsFresh u (view_in t)) ts
      → All (λ (w : View (State S C) Entry). entries caller_of w.number h ≡ w.mine) (map view_in us)
      → AreGreeted source sink export g.sector h (listed client_of ts) (listed client_of us) (listed hand_of us) (listed end_of us)
      (listed replies_of us) (callers_of us)
  all_greeted u h [] [] ran fresh theirs = tt
  all_greeted u h [] (x ∷ us) ran fresh theirs = absurd ran
  all_greeted u h (t ∷ ts) [] ran fresh theirs = absurd ran
  all_greeted u h (t ∷ ts) (x ∷ us) ran fresh theirs =
      put_first source sink export g.sector h t.work x.work (caller_in x) ran.0.own ran.0.did
      (own_entries u h t x ran.0 (All-head (λ (y : Task (State S C) I O Entry st). IsFresh u (view_in y)) t ts fresh)
      (All-head (λ (w : View (State S C) Entry). entries caller_of w.number h ≡ w.mine) (view_in x) (map view_in us) theirs))
      (listed client_of ts) (listed client_of us) (listed hand_of us) (listed end_of us) (listed replies_of us) (callers_of us)
      (all_greeted u h ts us ran.1 (All-tail (λ (y : Task (State S C) I O Entry st). IsFresh u (view_in y)) t ts fresh)
      (All-tail (λ (w : View (State S C) Entry). entries caller_of w.number h ≡ w.mine) (view_in x) (map view_in us) theirs))

  all_alone : (u : View (State S C) Entry) (h : List Entry) (ts us : List (Task (State S C) I O Entry st)) → export ≡ None → AllZip Ran ts us
      → All (λ (t : Task (State S C) I O Entry st). IsFresh u (view_in t)) ts
      → All (λ (w : View (State S C) Entry). entries caller_of w.number h ≡ w.mine) (map view_in us)
      → AreServed source sink g.sector h (listed client_of ts) (listed client_of us) (listed end_of us) (listed replies_of us) (callers_of us)
  all_alone u h [] [] none ran fresh theirs = tt
  all_alone u h [] (x ∷ us) none ran fresh theirs = absurd ran
  all_alone u h (t ∷ ts) [] none ran fresh theirs = absurd ran
  all_alone u h (t ∷ ts) (x ∷ us) none ran fresh theirs =
      put_alone source sink export g.sector h t.work x.work (caller_in x) ran.0.own none ran.0.did
      (own_entries u h t x ran.0 (All-head (λ (y : Task (State S C) I O Entry st). IsFresh u (view_in y)) t ts fresh)
      (All-head (λ (w : View (State S C) Entry). entries caller_of w.number h ≡ w.mine) (view_in x) (map view_in us) theirs))
      (listed client_of ts) (listed client_of us) (listed end_of us) (listed replies_of us) (callers_of us)
      (all_alone u h ts us none ran.1 (All-tail (λ (y : Task (State S C) I O Entry st). IsFresh u (view_in y)) t ts fresh)
      (All-tail (λ (w : View (State S C) Entry). entries caller_of w.number h ≡ w.mine) (view_in x) (map view_in us) theirs))

  all_idle : (callers : List ℕ) (u : View (State S C) Entry) (h : List Entry) (ts us : List (Task (State S C) I O Entry st)) → AllZip Ran ts us
      → All (λ (t : Task (State S C) I O Entry st). IsFresh u (view_in t)) ts
      → All (λ (w : View (State S C) Entry). entries caller_of w.number h ≡ w.mine) (map view_in us)
      → ((n : ℕ) → Contains (callers_of us) n → Contains callers n)
      → All (λ n. Contains callers n ⊎ (entries caller_of n h ≡ [])) (map caller_in us)
  all_idle callers u h [] [] ran fresh theirs into = All-nil (λ n. Contains callers n ⊎ (entries caller_of n h ≡ []))
  all_idle callers u h [] (x ∷ us) ran fresh theirs into = absurd ran
  all_idle callers u h (t ∷ ts) [] ran fresh theirs into = absurd ran
  all_idle callers u h (t ∷ ts) (x ∷ us) ran fresh theirs into =
      All-cons (λ n. Contains callers n ⊎ (entries caller_of n h ≡ [])) (caller_in x) (map caller_in us)
      (one_idle source sink export g.sector h callers t.work x.work (caller_in x) ran.0.own ran.0.did
      (own_entries u h t x ran.0 (All-head (λ (y : Task (State S C) I O Entry st). IsFresh u (view_in y)) t ts fresh)
      (All-head (λ (w : View (State S C) Entry). entries caller_of w.number h ≡ w.mine) (view_in x) (map view_in us) theirs))
      (λ n c. into n (Contains-append_left (of_client (λ s. caller_in x) x.work) (callers_of us) n c)))
      (all_idle callers u h ts us ran.1 (All-tail (λ (y : Task (State S C) I O Entry st). IsFresh u (view_in y)) t ts fresh)
      (All-tail (λ (w : View (State S C) Entry). entries caller_of w.number h ≡ w.mine) (view_in x) (map view_in us) theirs)
      (λ n c. into n (Contains-append_right (of_client (λ s. caller_in x) x.work) (callers_of us) n c)))

  -- u at the call, v once the passes are split, and w at the end; ts and us are the tasks before and after they ran. The
  -- slice that ran was all of them.
  module _ (u v : View (State S C) Entry) (ts us begun left rest : List (Task (State S C) I O Entry st)) (count : ℕ)
      (split : HasSplit {st = st} id g c u v ts) (is_begun : begun ≡ ts) (is_count : count ≡ length ts)
      (run : HaveRun {st = st} id g c source sink export begun left) (is_left : us ≡ take count (left ++ rest)) where
    all_left : us ≡ left
    all_left =
        let long : count ≡ length left = is_count ∙ ap length (sym is_begun) ∙ sym run.0 in
        is_left ∙ ap (λ k. take k (left ++ rest)) long ∙ take-append_seam left rest

    ran : AllZip Ran ts us
    ran = subst (λ (l : List (Task (State S C) I O Entry st)). AllZip Ran l us) is_begun
        (subst (λ (l : List (Task (State S C) I O Entry st)). AllZip Ran begun l) (sym all_left) (zipped Ran begun left run.0 run.1))

    pub has_room : (n : ℕ) (l : Lists I O) → length ts ≡ n → HaveRoom n l → HaveRoom (length us) l
    has_room n l many room =
        subst (λ (k : ℕ). HaveRoom k l) (sym (ap length all_left ∙ run.0 ∙ ap length is_begun ∙ many)) room

    pub can_join : All (CanJoin {st = st} id g c) us
    can_join = can_all u ts us ran split.fresh

    module _ (w : View (State S C) Entry) (joined : HasJoined v w (map view_in us)) where
      pub back : IsBack u w
      back = record {
        base = joined.base ∙ split.same.base;
        number = joined.number ∙ split.same.number;
        mine = joined.mine ∙ split.mine;
        given = omega (arith, joined.given, split.same.given);
        share = whole_again split.halvings (split.left + split.out) u w split.sum
            (joined.share (u.halvings + split.halvings) split.left split.out split.left_is
            (same_weights (u.halvings + split.halvings) split.out ts us ran split.out_is));
        later = subst (λ (l : List Entry). (rest : List Entry) × (w.seen ≡ l ++ rest)) split.seen joined.later;
      }

      pub greeted : (befores : List (Client I O)) (l : Lists I O) → listed client_of ts ≡ befores → AreListed l us
          → AreGreeted source sink export g.sector w.seen befores l.served.clients.items l.hands.items l.served.ends.items l.served.replies.items
          l.served.callers.items
      greeted befores l b is =
          subst (λ (bs : List (Client I O)). AreGreeted source sink export g.sector w.seen bs l.served.clients.items l.hands.items l.served.ends.items
          l.served.replies.items l.served.callers.items) b
          (subst (λ (xs : List (Client I O)). AreGreeted source sink export g.sector w.seen (listed client_of ts) xs l.hands.items l.served.ends.items
          l.served.replies.items l.served.callers.items) (sym is.clients)
          (subst (λ (gs : List HandEnd). AreGreeted source sink export g.sector w.seen (listed client_of ts) (listed client_of us) gs
          l.served.ends.items l.served.replies.items l.served.callers.items) (sym is.hands)
          (subst (λ (hs : List End). AreGreeted source sink export g.sector w.seen (listed client_of ts) (listed client_of us) (listed hand_of us) hs
          l.served.replies.items l.served.callers.items) (sym is.ends)
          (subst (λ (ns : List ℕ). AreGreeted source sink export g.sector w.seen (listed client_of ts) (listed client_of us) (listed hand_of us)
          (listed end_of us) ns l.served.callers.items) (sym is.replies)
          (subst (AreGreeted source sink export g.sector w.seen (listed client_of ts) (listed client_of us) (listed hand_of us) (listed end_of us)
          (listed replies_of us)) (sym is.callers) (all_greeted u w.seen ts us ran split.fresh joined.theirs))))))

      pub served : (befores : List (Client I O)) (l : Lists I O) → export ≡ None → listed client_of ts ≡ befores → AreListed l us
          → AreServed source sink g.sector w.seen befores l.served.clients.items l.served.ends.items l.served.replies.items l.served.callers.items
      served befores l none b is =
          subst (λ (bs : List (Client I O)). AreServed source sink g.sector w.seen bs l.served.clients.items l.served.ends.items l.served.replies.items
          l.served.callers.items) b
          (subst (λ (xs : List (Client I O)). AreServed source sink g.sector w.seen (listed client_of ts) xs l.served.ends.items l.served.replies.items
          l.served.callers.items) (sym is.clients)
          (subst (λ (hs : List End). AreServed source sink g.sector w.seen (listed client_of ts) (listed client_of us) hs l.served.replies.items
          l.served.callers.items) (sym is.ends)
          (subst (λ (ns : List ℕ). AreServed source sink g.sector w.seen (listed client_of ts) (listed client_of us) (listed end_of us) ns
          l.served.callers.items) (sym is.replies)
          (subst (AreServed source sink g.sector w.seen (listed client_of ts) (listed client_of us) (listed end_of us) (listed replies_of us))
          (sym is.callers) (all_alone u w.seen ts us none ran split.fresh joined.theirs)))))

      pub new_callers : (callers : List ℕ) → callers ≡ callers_of us → AreNew u.given callers
      new_callers callers is =
          subst (AreNew u.given) (sym is) (some_new u.given us (subst (AreNew u.given) (sym (same_callers ts us ran)) split.new))

      pub gained : (callers : List ℕ) → callers ≡ callers_of us → Gained callers u w
      gained callers is = record {
        gained = map caller_in us;
        under = joined.under ∙ (λ i. split.same.under i ++ numbers_in us i);
        ended = subst (All (Contains (map caller_in us))) (sym is) (some_all (Contains (map caller_in us)) us (All-contains_itself (map caller_in us)));
        idle = all_idle callers u w.seen ts us ran split.fresh joined.theirs (λ n c. subst (λ (l : List ℕ). Contains l n) (sym is) c);
      }

      numbers : numbers_of v ≡ numbers_of u
      numbers = λ i. split.same.number i ∷ split.same.under i

      pub settled : SameUnder caller_of (numbers_of u) w.seen u.seen
      settled n c = joined.settled n (subst (λ (l : List ℕ). Contains l n) (sym numbers) c)
          ∙ ap (λ (l : List Entry). entries caller_of n l) split.seen
