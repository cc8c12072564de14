-- A volume that was served to the three clients of a drill, from its opening to its end.
--
-- A server finds a client's requests in its bytes. If all are done, the entries under its number put its writes and lose
-- nothing. All other numbers have no entries. So the array that the closed volume leaves is the opening one with all writes
-- laid over it.
use Rattle.std.proofs.Common.{◌≡◌, ◌<◌, ◌+◌, ◌⊎◌, inl, inr, ℕ, zero, suc, List, [], ◌∷◌, ◌++◌, Option, Some, None, length, refl, sym, ap, ◌∙◌, subst, arith}
use Rattle.std.specs.Prelude.{slice_get}
use Rattle.std.specs.List.{All, Contains}
use Rattle.hist_lock.specs.declared.view.View.{View}
use Rattle.hist_lock.specs.History.{entries, SameUnder}
use Rattle.hist_lock.specs.Known.{closed, newcomer, numbers_of}
use Rattle.vc_layout.specs.declared.geometry.Geometry.{Geometry}
use Rattle.vc_outside.specs.Told.{Both}
use Rattle.vc_outside.specs.declared.source.Client.{Client}
use Rattle.vc_outside.specs.declared.store.Store.{Ghosts as StoreGhosts}
use Rattle.vc_outside.specs.declared.source.Source.{Ghosts as SourceGhosts}
use Rattle.vc_outside.specs.declared.sink.Sink.{Ghosts as SinkGhosts}
use Rattle.cipher_base.specs.declared.unit.UnitCipher.{Ghosts as CipherGhosts}
use Rattle.sector_model.specs.Array.{Array, unit}
use Rattle.sector_model.specs.History.{after}
use Rattle.sector_model.specs.declared.entry.Entry.{Entry}
use Rattle.io_core.specs.Sound.{plain}
use Rattle.io_core.specs.State.{State, volume_of}
use Rattle.io_core.proofs.Elements.{at_element, first_element}
use Rattle.io_queue.specs.Closed.{IsLeft}
use Rattle.io_queue.specs.Pass.{caller_of}
use Rattle.nbd_wire.specs.Frames.{Frames}
use Rattle.nbd_wire.specs.Replies.{AnsweredOf, AreAnswered}
use Rattle.nbd_wire.specs.declared.end.End.{End}
use Rattle.nbd_wire.specs.declared.end.End.TheVariants as end
use Rattle.nbd_session.specs.Session.{events_of, Serves}
use Rattle.vol_server.specs.Served.{AreServed, Gained, IsBack, IsServed}
use Rattle.drill_streams.specs.Drill.{requests, stream}
use Rattle.drill_streams.proofs.Framed.{frames-stream}
use Rattle.drill_work.specs.Laws.Ended.{client_with, HasServed, IsDone}
use Rattle.drill_work.specs.Summary.{all_laid, volume}
use Rattle.drill_work.proofs.Apart.{IsAnyOf, IsOfClient, laid_apart}

-- ---- one client

no_fault : (how : End) → how ≡ end.Done → how ≡ end.ReadFault → ⊥
no_fault how done fault = differ (sym done ∙ fault)
  where
    differ : end.Done ≡ end.ReadFault → ⊥
    differ e = cc

module _ (n c m : ℕ) (below : c < 3) (h : List Entry) (later : Option (List ℕ)) (sent : List ℕ) (how : End) (k : ℕ)
    (done : IsDone n c how k sent)
    (s : Serves 512 (Some (stream n c)) later (Some []) (Some sent) (events_of (entries caller_of m h)) k how) where
  answered : AnsweredOf 512 (requests n c) end.Done (events_of (entries caller_of m h)) 12 sent end.Done
  answered =
      subst (λ (e : End). AnsweredOf 512 (requests n c) end.Done (events_of (entries caller_of m h)) 12 sent e) done.ended
      (subst (λ (j : ℕ). AnsweredOf 512 (requests n c) end.Done (events_of (entries caller_of m h)) j sent how) done.all
      (subst (λ (xs : List ℕ). AnsweredOf 512 (requests n c) end.Done (events_of (entries caller_of m h)) k xs how) (sym s.output)
      (subst (λ (fs : Frames). AreAnswered 512 fs (events_of (entries caller_of m h)) k s.written how) (frames-stream n c below)
      (s.whole (no_fault how done.ended)))))

  of_client : IsOfClient n c m h
  of_client = record {
    written = done.puts (events_of (entries caller_of m h)) answered;
    calm = done.calm (events_of (entries caller_of m h)) answered;
  }

-- ---- the clients of a list

-- what is at a place of each list is a client that was done
abbrev pub IsDoneIn : ℕ → ℕ → ℕ → List (Client (List ℕ) (List ℕ)) → List End → List ℕ → Type 0
IsDoneIn n c i xs hs ns = (x : Client (List ℕ) (List ℕ)) (how : End) (k : ℕ) → slice_get xs i ≡ Some x → slice_get hs i ≡ Some how
    → slice_get ns i ≡ Some k → IsDone n c how k x.sink

module _ (source : SourceGhosts (List ℕ)) (sink : SinkGhosts (List ℕ)) (left : (s : List ℕ) → source.left s ≡ Some s)
    (held : (s : List ℕ) → sink.contents s ≡ Some s) (n : ℕ) (h : List Entry) where
  one_client : (c m : ℕ) → c < 3 → (x : Client (List ℕ) (List ℕ)) (how : End) (k : ℕ) → IsDone n c how k x.sink
      → IsServed source sink 512 h (client_with (stream n c)) x how k m → IsOfClient n c m h
  one_client c m below x how k done served =
      of_client n c m below h (source.left x.source) x.sink how k done
      (subst (λ (l : Option (List ℕ)). Serves 512 l (source.left x.source) (Some []) (Some x.sink) (events_of (entries caller_of m h)) k how)
      (left (stream n c))
      (subst (λ (o : Option (List ℕ)). Serves 512 (source.left (stream n c)) (source.left x.source) o (Some x.sink) (events_of (entries caller_of m h)) k how)
      (held [])
      (subst (λ (o : Option (List ℕ)). Serves 512 (source.left (stream n c)) (source.left x.source) (sink.contents []) o
      (events_of (entries caller_of m h)) k how)
      (held x.sink) served.served)))

  -- the first client of a list, and the others
  record First (c : ℕ) (bs xs : List (Client (List ℕ) (List ℕ))) (hs : List End) (ns cs : List ℕ) : Type 0 where
    m : ℕ
    xs' : List (Client (List ℕ) (List ℕ))
    hs' : List End
    ns' : List ℕ
    cs' : List ℕ
    callers : cs ≡ m ∷ cs'
    client : IsOfClient n c m h
    others : AreServed source sink 512 h bs xs' hs' ns' cs'
    later : (d i : ℕ) → IsDoneIn n d (suc i) xs hs ns → IsDoneIn n d i xs' hs' ns'

  first_client : (c : ℕ) → c < 3 → (bs xs : List (Client (List ℕ) (List ℕ))) (hs : List End) (ns cs : List ℕ)
      → AreServed source sink 512 h (client_with (stream n c) ∷ bs) xs hs ns cs → IsDoneIn n c 0 xs hs ns → First c bs xs hs ns cs
  first_client c below bs (x ∷ xs) (how ∷ hs) (k ∷ ns) (caller ∷ cs) s done = record {
    m = caller;
    xs' = xs;
    hs' = hs;
    ns' = ns;
    cs' = cs;
    callers = refl;
    client = one_client c caller below x how k (done x how k refl refl refl) s.0;
    others = s.1;
    later = λ d i all. all;
  }
  first_client c below bs xs hs ns cs s done = absurd s

  no_more : (xs : List (Client (List ℕ) (List ℕ))) (hs : List End) (ns cs : List ℕ) → AreServed source sink 512 h [] xs hs ns cs → cs ≡ []
  no_more [] [] [] [] s = refl
  no_more xs hs ns cs s = absurd s

  -- the three clients, by their numbers
  pub record Three (cs : List ℕ) : Type 0 where
    pub m₀ : ℕ
    pub m₁ : ℕ
    pub m₂ : ℕ
    pub callers : cs ≡ m₀ ∷ m₁ ∷ m₂ ∷ []
    pub first : IsOfClient n 0 m₀ h
    pub second : IsOfClient n 1 m₁ h
    pub third : IsOfClient n 2 m₂ h

  pub three : (xs : List (Client (List ℕ) (List ℕ))) (hs : List End) (ns cs : List ℕ)
      → AreServed source sink 512 h (client_with (stream n 0) ∷ client_with (stream n 1) ∷ client_with (stream n 2) ∷ []) xs hs ns cs
      → IsDoneIn n 0 0 xs hs ns → IsDoneIn n 1 1 xs hs ns → IsDoneIn n 2 2 xs hs ns → Three cs
  three xs hs ns cs s done₀ done₁ done₂ =
      let a = first_client 0 (omega arith) (client_with (stream n 1) ∷ client_with (stream n 2) ∷ []) xs hs ns cs s done₀ in
      let b = first_client 1 (omega arith) (client_with (stream n 2) ∷ []) a.xs' a.hs' a.ns' a.cs' a.others (a.later 1 0 done₁) in
      let c = first_client 2 (omega arith) [] b.xs' b.hs' b.ns' b.cs' b.others (b.later 2 0 (a.later 2 1 done₂)) in
      record {
        m₀ = a.m;
        m₁ = b.m;
        m₂ = c.m;
        callers = a.callers ∙ ap (λ (ms : List ℕ). a.m ∷ ms) (b.callers ∙ ap (λ (ms : List ℕ). b.m ∷ ms)
            (c.callers ∙ ap (λ (ms : List ℕ). c.m ∷ ms) (no_more c.xs' c.hs' c.ns' c.cs' c.others)));
        first = a.client;
        second = b.client;
        third = c.client;
      }

-- ---- the numbers of the pass

any_of : (m₀ m₁ m₂ m : ℕ) (h : List Entry) → Contains (m₀ ∷ m₁ ∷ m₂ ∷ []) m → IsAnyOf m₀ m₁ m₂ h m
any_of m₀ m₁ m₂ m h (zero, within, is) = inl (sym is)
any_of m₀ m₁ m₂ m h (suc zero, within, is) = inr (inl (sym is))
any_of m₀ m₁ m₂ m h (suc (suc zero), within, is) = inr (inr (inl (sym is)))
any_of m₀ m₁ m₂ m h (suc (suc (suc k)), within, is) = absurd (omega (arith, within))

module _ {T : Type 0} (base : T) (u w : View T Entry) (callers : List ℕ) (first : u ≡ newcomer base) (back : IsBack u w)
    (settled : SameUnder caller_of (numbers_of u) w.seen u.seen) (gained : Gained callers u w) where
  own_none : entries caller_of w.number w.seen ≡ []
  own_none = subst (λ (m : ℕ). entries caller_of m w.seen ≡ []) (sym back.number)
      (settled u.number (first_element u.number u.under) ∙ ap (entries caller_of u.number) (ap (λ (x : View T Entry). x.seen) first))

  under_is : w.under ≡ gained.gained
  under_is = gained.under ∙ ap (λ (ms : List ℕ). ms ++ gained.gained) (ap (λ (x : View T Entry). x.under) first)

  -- each number of the pass is a client's, or has no entries
  pub each_number : (m₀ m₁ m₂ : ℕ) → callers ≡ m₀ ∷ m₁ ∷ m₂ ∷ [] → (m : ℕ) → Contains (numbers_of w) m → IsAnyOf m₀ m₁ m₂ w.seen m
  each_number m₀ m₁ m₂ are m there = by_place (subst (λ (ms : List ℕ). Contains (w.number ∷ ms) m) under_is there)
    where
      by_place : Contains (w.number ∷ gained.gained) m → IsAnyOf m₀ m₁ m₂ w.seen m
      by_place (zero, within, is) = inr (inr (inr (subst (λ (k : ℕ). entries caller_of k w.seen ≡ []) is own_none)))
      by_place (suc k, within, is) =
          elim (at_element (λ i. Contains callers i ⊎ (entries caller_of i w.seen ≡ [])) gained.gained m gained.idle
          (k, omega (arith, within), is)) [
            | inl of ↦ any_of m₀ m₁ m₂ m w.seen (subst (λ (cs : List ℕ). Contains cs m) are of)
            | inr none ↦ inr (inr (inr none))
          ]

-- ---- the volume that is left

abbrev pub place : Geometry
place = record { start = 131072; sectors = 9728; sector = 512 }

pub place_is : (g : Geometry) → g.start ≡ 131072 → g.sectors ≡ 9728 → g.sector ≡ 512 → g ≡ place
place_is g start sectors sector = λ i. record { start = start i; sectors = sectors i; sector = sector i }

module _ {C : Type 0} (store : StoreGhosts (List ℕ)) (cipher : CipherGhosts C) (image : (s : List ℕ) → store.image s ≡ Some s)
    (size : (s : List ℕ) → store.size s ≡ length s) where
  some_is : {x y : State (List ℕ) C} → Some x ≡ Some y → x ≡ y
  some_is e = cc

  -- what the closed volume says of its opening state
  abbrev Leaves : View (State (List ℕ) C) Entry → List ℕ → State (List ℕ) C → Type 0
  Leaves v disk base = Both (store.image base.disk) (store.image disk) (λ old new. (u : ℕ) → plain store cipher base.cipher base.geometry new u
      ≡ after (volume_of base.geometry base.guard.range) (plain store cipher base.cipher base.geometry old) v.seen u)

  pub left_array : (n : ℕ) (base : State (List ℕ) C) (v : View (State (List ℕ) C) Entry) (disk : List ℕ) → IsLeft store cipher v disk
      → v.base ≡ Some base → base.geometry ≡ place → base.guard.range ≡ None
      → ((a : Array) (u : ℕ) → after volume a v.seen u ≡ all_laid n a u) → HasServed n (cipher.deciphered base.cipher) base.disk disk
  left_array n base v disk left is at free laid = record {
    size = sym (size disk) ∙ ap store.size (sym left.disk_is) ∙ left.sound.size_same
        ∙ ap (λ (s : State (List ℕ) C). store.size s.disk) same ∙ size base.disk;
    array = λ u. at_place u ∙ laid (λ u. cipher.deciphered base.cipher (256 + u) (unit (256 + u) base.disk)) u;
  }
    where
      same : left.base ≡ base
      same = some_is (sym left.is ∙ is)

      here : Leaves v disk base
      here = subst (Leaves v disk) same left.array

      known : (u : ℕ) → plain store cipher base.cipher base.geometry disk u
          ≡ after (volume_of base.geometry base.guard.range) (plain store cipher base.cipher base.geometry base.disk) v.seen u
      known =
          subst (λ (o : Option (List ℕ)). Both o (Some disk) (λ old new. (u : ℕ) → plain store cipher base.cipher base.geometry new u
          ≡ after (volume_of base.geometry base.guard.range) (plain store cipher base.cipher base.geometry old) v.seen u)) (image base.disk)
          (subst (λ (o : Option (List ℕ)). Both (store.image base.disk) o (λ old new. (u : ℕ) → plain store cipher base.cipher base.geometry new u
          ≡ after (volume_of base.geometry base.guard.range) (plain store cipher base.cipher base.geometry old) v.seen u)) (image disk) here)

      at_place : (u : ℕ) → cipher.deciphered base.cipher (256 + u) (unit (256 + u) disk)
          ≡ after volume (λ u. cipher.deciphered base.cipher (256 + u) (unit (256 + u) base.disk)) v.seen u
      at_place u =
          subst (λ (range : Option (ℕ × ℕ)). plain store cipher base.cipher place disk u
          ≡ after (volume_of place range) (plain store cipher base.cipher place base.disk) v.seen u) free
          (subst (λ (g : Geometry). plain store cipher base.cipher g disk u
          ≡ after (volume_of g base.guard.range) (plain store cipher base.cipher g base.disk) v.seen u) at (known u))

-- ---- from the opening to the end

module _ {C : Type 0} (store : StoreGhosts (List ℕ)) (cipher : CipherGhosts C) (source : SourceGhosts (List ℕ)) (sink : SinkGhosts (List ℕ)) where
  -- u is the pass that the volume began with, w the same pass once all were served, and v the pass of the closed volume
  pub served_whole : (n : ℕ) (base : State (List ℕ) C) (u w v : View (State (List ℕ) C) Entry) (disk : List ℕ) (sector : ℕ)
      (bs xs : List (Client (List ℕ) (List ℕ))) (hs : List End) (ns cs : List ℕ)
      → base.geometry ≡ place → base.guard.range ≡ None → sector ≡ 512
      → bs ≡ client_with (stream n 0) ∷ client_with (stream n 1) ∷ client_with (stream n 2) ∷ []
      → u ≡ newcomer base → IsBack u w → SameUnder caller_of (numbers_of u) w.seen u.seen → Gained cs u w
      → AreServed source sink sector w.seen bs xs hs ns cs
      → IsDoneIn n 0 0 xs hs ns → IsDoneIn n 1 1 xs hs ns → IsDoneIn n 2 2 xs hs ns
      → v ≡ closed w → All (λ e. Contains (numbers_of v) e.caller) v.seen → IsLeft store cipher v disk
      → ((s : List ℕ) → store.image s ≡ Some s) → ((s : List ℕ) → store.size s ≡ length s) → ((s : List ℕ) → source.left s ≡ Some s)
      → ((s : List ℕ) → sink.contents s ≡ Some s) → HasServed n (cipher.deciphered base.cipher) base.disk disk
  served_whole n base u w v disk sector bs xs hs ns cs at free small are first back settled gained served done₀ done₁ done₂ is all leaves image size left held =
      left_array store cipher image size n base v disk leaves base_is at free
      (subst (λ (x : View (State (List ℕ) C) Entry). (a : Array) (k : ℕ) → after volume a x.seen k ≡ all_laid n a k) (sym is)
      (λ a k. laid_apart n t.m₀ t.m₁ t.m₂ (numbers_of w) w.seen
      (subst (λ (x : View (State (List ℕ) C) Entry). All (λ e. Contains (numbers_of x) e.caller) x.seen) is all)
      (each_number base u w cs first back settled gained t.m₀ t.m₁ t.m₂ t.callers) t.first t.second t.third a k))
    where
      base_is : v.base ≡ Some base
      base_is = ap (λ (x : View (State (List ℕ) C) Entry). x.base) is ∙ back.base ∙ ap (λ (x : View (State (List ℕ) C) Entry). x.base) first

      t : Three source sink left held n w.seen cs
      t = three source sink left held n w.seen xs hs ns cs
          (subst (λ (l : List (Client (List ℕ) (List ℕ))). AreServed source sink 512 w.seen l xs hs ns cs) are
          (subst (λ (k : ℕ). AreServed source sink k w.seen bs xs hs ns cs) small served)) done₀ done₁ done₂
