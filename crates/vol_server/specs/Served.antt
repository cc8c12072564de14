-- What a server did for its clients, each under a number of its own.
--
-- IsServed .. before after how n caller   one client: its session, whose entries are under this number, and what failed
-- AreServed ..                            all clients, in order: as clients before and after, ends, counts of replies and
--                                         numbers; lists of different lengths belong to no clients
-- size_of g                               how many bytes the volume has
-- Greets export .. hand                   the handshake for an export of so many bytes; without an export there is none,
--                                         nothing is taken or sent, and the session follows as after Go
-- IsSentAway .. es n how                  a client without a session: it is as its handshake left it, and has no entry
-- Follows hand .. es n how                what followed a handshake that ended so: a session after Go, and none otherwise
-- IsGreeted .. before after es hand n how one client: its handshake, what followed it, and what failed in both together
-- AreGreeted ..                           all clients, in order, as AreServed, with the ends of their handshakes
-- AreNew given callers                    no two of the numbers are the same, and each is at least `given`
-- SameFraction v w                        they have the same share, also if its two numbers differ
-- IsBack v w                              the pass v, once all that was split from it is joined again
-- Gained callers v w                      w lists more passes that ended in it: those of the callers, and none else with entries
use Rattle.std.specs.Prelude.{◌≡◌, ◌≢◌, ◌≤◌, ℕ, ◌*◌, ◌^◌, List, [], ◌∷◌, ◌++◌, ◌⊎◌, ⊤, Option, Some, None, All, AllPairs, Contains}
use Rattle.vc_base.specs.Faults.{HasCause}
use Rattle.vc_outside.specs.declared.source.Client.{Client}
use Rattle.vc_outside.specs.declared.source.Source.{Ghosts as SourceGhosts}
use Rattle.vc_outside.specs.declared.sink.Sink.{Ghosts as SinkGhosts}
use Rattle.vc_layout.specs.declared.geometry.Geometry.{Geometry}
use Rattle.hist_lock.specs.declared.view.View.{View}
use Rattle.hist_lock.specs.History.{StartsWith, entries}
use Rattle.sector_model.specs.declared.entry.Entry.{Entry}
use Rattle.io_queue.specs.Pass.{caller_of}
use Rattle.nbd_wire.specs.declared.end.End.{End}
use Rattle.nbd_wire.specs.declared.end.End.TheVariants as end
use Rattle.nbd_hand.specs.Hand.{Shakes}
use Rattle.nbd_hand.specs.declared.end.HandEnd.{HandEnd}
use Rattle.nbd_hand.specs.declared.end.HandEnd.TheVariants.{Go, ReadFault, WriteFault}
use Rattle.nbd_session.specs.Session.{events_of, Serves}

module _ {I O : Type 0} (source : SourceGhosts I) (sink : SinkGhosts O) (sector : ℕ) (h : List Entry) where
  pub record IsServed (before after : Client I O) (how : End) (n caller : ℕ) : Type 0 where
    pub served : Serves sector (source.left before.source) (source.left after.source)
        (sink.contents before.sink) (sink.contents after.sink) (events_of (entries caller_of caller h)) n how
    pub read_fault : HasCause (source.faults before.source) (source.faults after.source) (how ≡ end.ReadFault)
    pub write_fault : HasCause (sink.faults before.sink) (sink.faults after.sink) (how ≡ end.WriteFault)

  abbrev pub AreServed : List (Client I O) → List (Client I O) → List End → List ℕ → List ℕ → Type 0
  AreServed [] [] [] [] [] = ⊤
  AreServed (before ∷ bs) (after ∷ xs) (how ∷ hs) (n ∷ ns) (caller ∷ cs) =
      IsServed before after how n caller × AreServed bs xs hs ns cs
  AreServed bs xs hs ns cs = ⊥

abbrev pub size_of : Geometry → ℕ
size_of g = g.sectors * g.sector

abbrev pub Greets : Option ℕ → Option (List ℕ) → Option (List ℕ) → Option (List ℕ) → Option (List ℕ) → HandEnd → Type 0
Greets None left later held now hand = (later ≡ left) × (now ≡ held) × (hand ≡ Go)
Greets (Some size) left later held now hand = Shakes size left later held now hand

pub record IsSentAway (left later held now : Option (List ℕ)) (es : List Entry) (n : ℕ) (how : End) : Type 0 where
  pub source : later ≡ left
  pub sink : now ≡ held
  pub no_entry : es ≡ []
  pub no_reply : n ≡ 0
  pub ended : how ≡ end.Done

abbrev pub Follows : HandEnd → ℕ → Option (List ℕ) → Option (List ℕ) → Option (List ℕ) → Option (List ℕ) → List Entry → ℕ → End → Type 0
Follows Go sector left later held now es n how = Serves sector left later held now (events_of es) n how
Follows hand sector left later held now es n how = IsSentAway left later held now es n how

module _ {I O : Type 0} (source : SourceGhosts I) (sink : SinkGhosts O) (export : Option ℕ) (sector : ℕ) where
  pub record IsGreeted (before after : Client I O) (es : List Entry) (hand : HandEnd) (n : ℕ) (how : End) : Type 0 where
    -- what the handshake left of the source, and what the sink held then
    pub rest : Option (List ℕ)
    pub held : Option (List ℕ)
    pub greeted : Greets export (source.left before.source) rest (sink.contents before.sink) held hand
    pub followed : Follows hand sector rest (source.left after.source) held (sink.contents after.sink) es n how
    pub read_fault : HasCause (source.faults before.source) (source.faults after.source)
        ((hand ≡ ReadFault) ⊎ (how ≡ end.ReadFault))
    pub write_fault : HasCause (sink.faults before.sink) (sink.faults after.sink)
        ((hand ≡ WriteFault) ⊎ (how ≡ end.WriteFault))

  module _ (h : List Entry) where
    abbrev pub AreGreeted : List (Client I O) → List (Client I O) → List HandEnd → List End → List ℕ → List ℕ → Type 0
    AreGreeted [] [] [] [] [] [] = ⊤
    AreGreeted (before ∷ bs) (after ∷ xs) (hand ∷ gs) (how ∷ hs) (n ∷ ns) (caller ∷ cs) =
        IsGreeted before after (entries caller_of caller h) hand n how × AreGreeted bs xs gs hs ns cs
    AreGreeted bs xs gs hs ns cs = ⊥

pub record AreNew (given : ℕ) (callers : List ℕ) : Type 0 where
  pub apart : AllPairs (λ m n. m ≢ n) callers
  pub new : All (λ n. given ≤ n) callers

module _ {T E : Type 0} where
  abbrev pub SameFraction : View T E → View T E → Type 0
  SameFraction v w = w.part * 2 ^ v.halvings ≡ v.part * 2 ^ w.halvings

  pub record IsBack (v w : View T E) : Type 0 where
    pub base : w.base ≡ v.base
    pub number : w.number ≡ v.number
    pub mine : w.mine ≡ v.mine
    pub given : v.given ≤ w.given
    pub share : SameFraction v w
    pub later : StartsWith w.seen v.seen

module _ {T : Type 0} where
  pub record Gained (callers : List ℕ) (v w : View T Entry) : Type 0 where
    pub gained : List ℕ
    pub under : w.under ≡ v.under ++ gained
    pub ended : All (Contains gained) callers
    pub idle : All (λ n. Contains callers n ⊎ (entries caller_of n w.seen ≡ [])) gained
