-- What `serve` promises: the volume is opened, its clients are served over one history of it, and a line for each client
-- is written.
--
-- asked arguments n        what a command line asks of a call with n clients, or none
-- Protects ..              the protected range is that of the hidden volume
-- Opens a b                the headers that are asked for are valid in the container's bytes b
-- Refuses ..               why no volume was opened
-- IsBase ..                the opening state of the served volume
-- end_status i hand how    the status of the client i, by the end of its handshake and of its session
-- ends_status i hands ends the status of the least client, from i on, that didn't end well
-- lines i hands ends ..    the lines for clients from i on, with their counts of replies
-- export_of handshake g    the size of the export in handshakes, if clients have any
-- Call                     what is seen of a call, beside its pass
-- call ..                  that of a call of these containers, clients and outputs
-- Unserved, Served         what holds of the call if no volume was opened, and if one was
-- Kept ..                  what holds of the call
-- IsOpening ..             when a volume is opened
-- IsComplete ..            what holds if no fault is counted
use Rattle.std.specs.Prelude.{◌≡◌, ◌≢◌, ◌≤◌, ◌<◌, ◌⊎◌, ◌↔◌, ℕ, ◌+◌, ◌-◌, ◌/◌, ◌^◌, ◌&&◌, nat_le, max, Bool, true, false, List, [], ◌∷◌, ◌++◌, if◌then◌else◌, Option, Some, None, IfSome, IsSome, IsSomeAnd, MatchOption, All, AllPairs, Contains, codes, option_map, option_and_then, ⊤}
use Rattle.std.specs.Fmt.{decimal}
use Rattle.vc_base.specs.Faults.{HasCause, Rose}
use Rattle.vc_layout.specs.Layout.{IsContainerLength}
use Rattle.vc_layout.specs.declared.geometry.Geometry.{Geometry}
use Rattle.vc_layout.specs.declared.kind.Kind.{Kind}
use Rattle.vc_layout.specs.declared.kind.Kind.TheVariants.{Any, StandardOnly, HiddenOnly, AnyBackup, StandardBackup, HiddenBackup}
use Rattle.vc_header.specs.Volume.{IsVolume}
use Rattle.vc_header.specs.declared.fields.Fields.{Fields}
use Rattle.vc_outside.specs.Crash.{IsLasting, Outcomes, Stays}
use Rattle.vc_outside.specs.Told.{Grows, GrowsByFront}
use Rattle.vc_outside.specs.declared.source.Client.{Client}
use Rattle.vc_outside.specs.declared.store.Store.{Ghosts as StoreGhosts}
use Rattle.vc_outside.specs.declared.source.Source.{Ghosts as SourceGhosts}
use Rattle.vc_outside.specs.declared.sink.Sink.{Ghosts as SinkGhosts}
use Rattle.cipher_base.specs.declared.unit.UnitCipher.{Ghosts as CipherGhosts}
use Rattle.cascade_set.specs.Cascade.{enciphered, deciphered}
use Rattle.cascade_set.specs.declared.keyed.Keyed.{Keyed}
use Rattle.header_seal.specs.declared.opened.Opened.{Opened}
use Rattle.hist_standing.specs.declared.Standing.{Ghosts as StandingGhosts}
use Rattle.hist_lock.specs.declared.view.View.{View}
use Rattle.sector_model.specs.declared.entry.Entry.{Entry}
use Rattle.io_core.specs.State.{State}
use Rattle.io_core.specs.declared.state.Core.{Core}
use Rattle.io_queue.specs.Closed.{IsLeft}
use Rattle.nbd_hand.specs.Hand.{Hand, hand}
use Rattle.nbd_hand.specs.declared.end.HandEnd.{HandEnd}
use Rattle.nbd_hand.specs.declared.end.HandEnd.TheVariants as hand_end
use Rattle.nbd_wire.specs.Frames.{frames}
use Rattle.nbd_wire.specs.declared.end.End.{End}
use Rattle.nbd_wire.specs.declared.end.End.TheVariants as end
use Rattle.vol_server.specs.Served.{AreGreeted, size_of}
use Rattle.cmd_words.specs.Line.{Line, Text, line, serve}
use Rattle.vc_app.specs.declared.access.Access.{Access}
use Rattle.vc_app.specs.declared.serve.ServeEnd.{ServeEnd}
use Rattle.vc_app.specs.declared.serve.asked.Asked.{Asked}
use Rattle.vc_app.specs.declared.status.Status.{Status}
use Rattle.vc_app.specs.declared.status.Status.TheVariants.{Done, Usage, NoHeader, NoHidden, Length, DiskFault, OutFault, NoMemory, ClientCut, ClientMagic, ClientFault, ClientHand}
use Rattle.vc_app.specs.Access.{opened}
use Rattle.vc_app.specs.Cat.{keys_of}
use Rattle.vc_app.specs.Promise.{Seen, seen, Unchanged}

-- ---- what is asked

abbrev pub most_clients : ℕ
most_clients = 16

-- the hidden header beside a standard one
abbrev pub hidden_kind : Kind → Kind
hidden_kind Any = HiddenOnly
hidden_kind StandardOnly = HiddenOnly
hidden_kind HiddenOnly = HiddenOnly
hidden_kind AnyBackup = HiddenBackup
hidden_kind StandardBackup = HiddenBackup
hidden_kind HiddenBackup = HiddenBackup

-- what the protecting password opens
abbrev pub protecting : Kind → Option (Text × ℕ) → Option Access
protecting kind protect = option_map (λ p. record { password = p.0; pim = p.1; kind = hidden_kind kind }) protect

abbrev pub asked_of : Line → Option Asked
asked_of (serve path password pim kind protect helpers workers handshake) = Some (record {
  access = record { password = password; pim = pim; kind = kind };
  protect = protecting kind protect;
  helpers = helpers;
  workers = workers;
  handshake = handshake;
})
asked_of _ = None

abbrev pub asked_by : ℕ → Line → Option Asked
asked_by clients l = if nat_le 1 clients && nat_le clients most_clients then asked_of l else None

unfoldable pub asked : List Text → ℕ → Option Asked
asked arguments clients = option_and_then (asked_by clients) (line arguments)

-- ---- what is opened

-- the data units that hold a byte of the hidden volume: the first of them and their count
abbrev pub hidden_units : Fields → ℕ × ℕ
hidden_units f = (f.start / 512, (max f.volume_size f.hidden_size + 511) / 512)

abbrev pub Protects : Option Access → Option (List ℕ) → Option (ℕ × ℕ) → Type 0
Protects None image range = range ≡ None
Protects (Some access) image range = (hidden : Opened) × IfSome image (λ b. opened access b ≡ Some hidden)
    × (range ≡ Some (hidden_units hidden.fields))

abbrev pub Opens : Asked → List ℕ → Type 0
Opens a b = IsSome (opened a.access b) × IfSome a.protect (λ p. IsSome (opened p b))

-- By the container's bytes and its length, and its counts of faults at entry and at exit. Length comes before all others,
-- and NoHidden only if the volume's own header is valid.
abbrev pub Refuses : Asked → Option (List ℕ) → ℕ → ℕ → ℕ → Status → Type 0
Refuses a image size before now (Length n) = (n ≡ size) × ¬ IsContainerLength n
Refuses a image size before now NoHeader = IsContainerLength size × IfSome image (λ b. opened a.access b ≡ None)
Refuses a image size before now NoHidden = IsContainerLength size
    × IfSome image (λ b. IsSome (opened a.access b) × IsSomeAnd a.protect (λ p. opened p b ≡ None))
Refuses a image size before now DiskFault = IsContainerLength size × Rose before now
Refuses a image size before now NoMemory = now ≡ before
Refuses a image size before now _ = ⊥

-- ---- how clients end

abbrev pub session_status : ℕ → End → Status
session_status i end.Done = Done
session_status i end.Cut = ClientCut i
session_status i (end.BadMagic magic) = ClientMagic i magic
session_status i end.ReadFault = ClientFault i
session_status i end.WriteFault = ClientFault i
session_status i end.NoMemory = NoMemory

-- a client has a session only after Go
abbrev pub end_status : ℕ → HandEnd → End → Status
end_status i hand_end.Go how = session_status i how
end_status i hand_end.Aborted how = Done
end_status i hand_end.Cut how = ClientCut i
end_status i (hand_end.Refused refusal) how = ClientHand i refusal
end_status i hand_end.ReadFault how = ClientFault i
end_status i hand_end.WriteFault how = ClientFault i
end_status i hand_end.NoMemory how = NoMemory

abbrev pub or_later : Status → Status → Status
or_later Done s = s
or_later t s = t

abbrev pub ends_status : ℕ → List HandEnd → List End → Status
ends_status i [] hows = Done
ends_status i (g ∷ gs) [] = Done
ends_status i (g ∷ gs) (how ∷ hows) = or_later (end_status i g how) (ends_status (i + 1) gs hows)

abbrev pub session_name : End → List ℕ
session_name end.Done = codes "done"
session_name end.Cut = codes "cut"
session_name (end.BadMagic magic) = codes "magic"
session_name end.ReadFault = codes "read-fault"
session_name end.WriteFault = codes "write-fault"
session_name end.NoMemory = codes "no-memory"

abbrev pub end_name : HandEnd → End → List ℕ
end_name hand_end.Go how = session_name how
end_name hand_end.Aborted how = codes "aborted"
end_name hand_end.Cut how = codes "cut"
end_name (hand_end.Refused refusal) how = codes "refused"
end_name hand_end.ReadFault how = codes "read-fault"
end_name hand_end.WriteFault how = codes "write-fault"
end_name hand_end.NoMemory how = codes "no-memory"

abbrev pub client_line : ℕ → HandEnd → End → ℕ → List ℕ
client_line i g how n = codes "client " ++ (decimal i ++ (32 ∷ (end_name g how ++ (32 ∷ (decimal n ++ (10 ∷ []))))))

abbrev pub lines : ℕ → List HandEnd → List End → List ℕ → List ℕ
lines i [] hows ns = []
lines i (g ∷ gs) [] ns = []
lines i (g ∷ gs) (how ∷ hows) [] = []
lines i (g ∷ gs) (how ∷ hows) (n ∷ ns) = client_line i g how n ++ lines (i + 1) gs hows ns

-- a client's end gave it, other than out of memory
abbrev pub IsOfClient : Status → Type 0
IsOfClient (ClientCut client) = ⊤
IsOfClient (ClientMagic client magic) = ⊤
IsOfClient (ClientFault client) = ⊤
IsOfClient (ClientHand client refusal) = ⊤
IsOfClient _ = ⊥

-- it comes only after the last sync succeeded
abbrev pub IsAfterSync : Status → Type 0
IsAfterSync s = (s ≡ Done) ⊎ (s ≡ OutFault) ⊎ IsOfClient s

-- s is the status if t is that of the clients' ends
abbrev pub EndsBy : Status → Status → Type 0
EndsBy t s = (s ≡ DiskFault) ⊎ (s ≡ NoMemory) ⊎ (s ≡ t) ⊎ ((t ≡ Done) × (s ≡ OutFault))

-- ---- what is seen

-- what is seen of a call, beside its pass
pub record Call (I O : Type 0) : Type 1 where
  -- at entry
  pub old : Seen
  pub before : List (Client I O)
  -- at exit
  pub new : Seen
  pub after : List (Client I O)
  pub status : Status
  pub hands : List HandEnd
  pub ends : List End
  pub replies : List ℕ
  pub callers : List ℕ

abbrev pub call : {D I O P E : Type 0} {g : StandingGhosts (Core D Keyed) E} → StoreGhosts D → SinkGhosts P → D → List (Client I O)
    → P → ServeEnd D I O P E g → Call I O
call d p disk clients out left = record {
  old = seen d p disk out;
  before = clients;
  new = seen d p left.disk left.out;
  after = left.clients.items;
  status = left.status;
  hands = left.hands.items;
  ends = left.ends.items;
  replies = left.replies.items;
  callers = left.callers.items;
}

-- nobody was served
pub record Idle {I O : Type 0} (c : Call I O) : Type 0 where
  pub hands : c.hands ≡ []
  pub ends : c.ends ≡ []
  pub replies : c.replies ≡ []
  pub callers : c.callers ≡ []
  pub clients : c.after ≡ c.before
  pub quiet : c.new.contents ≡ c.old.contents
  pub out_same : c.new.out_faults ≡ c.old.out_faults

-- no volume was opened
pub record Unserved {I O : Type 0} (c : Call I O) : Type 0 where
  pub idle : Idle c
  pub unchanged : Unchanged c.old c.new
  pub later : c.old.disk_faults ≤ c.new.disk_faults

-- with handshakes the export is the volume, with its size in bytes
abbrev pub export_of : Bool → Geometry → Option ℕ
export_of false g = None
export_of true g = Some (size_of g)

-- no fault was counted
abbrev pub IsQuiet : ℕ → ℕ → Type 0
IsQuiet before now = (before < 2 ^ 64 - 1) × (now ≡ before)

-- whole requests
abbrev pub AreRequests : List ℕ → Type 0
AreRequests bytes = (frames bytes).last ≡ end.Done

-- the handshake is aborted by the client, or whole requests follow it
abbrev pub IsWholeHand : Hand → Type 0
IsWholeHand h = (h.last ≡ hand_end.Aborted) ⊎ ((h.last ≡ hand_end.Go) × AreRequests h.rest)

-- all that a client sends, with a handshake or without
abbrev pub IsWholeInput : Option ℕ → List ℕ → Type 0
IsWholeInput None bytes = AreRequests bytes
IsWholeInput (Some size) bytes = IsWholeHand (hand size bytes)

module _ {I O : Type 0} (source : SourceGhosts I) (sink : SinkGhosts O) where
  -- All clients were served. `faults` is the container's count before the last sync.
  pub record AllServed (export : Option ℕ) (sector : ℕ) (h : List Entry) (faults : ℕ) (c : Call I O) : Type 0 where
    pub served : AreGreeted source sink export sector h c.before c.after c.hands c.ends c.replies c.callers
    pub callers : AllPairs (λ m n. m ≢ n) c.callers
    pub whose : All (λ e. Contains c.callers e.caller) h
    pub statuses : EndsBy (ends_status 0 c.hands c.ends) c.status
    -- All lines were written with Done, and with the status of a client unless the output failed.
    pub printed : GrowsByFront c.old.contents c.new.contents (lines 0 c.hands c.ends c.replies)
    pub all_printed : c.status ≡ Done → Grows c.old.contents c.new.contents (lines 0 c.hands c.ends c.replies)
    pub clients_printed : IsOfClient c.status
        → Grows c.old.contents c.new.contents (lines 0 c.hands c.ends c.replies) ⊎ Rose c.old.out_faults c.new.out_faults
    pub quiet_fault : c.status ≡ DiskFault → c.new.contents ≡ c.old.contents
    pub synced : IsAfterSync c.status → IsLasting c.new.tells c.new.image c.new.may_leave
    -- The marks of the history are of failures before the last sync, so this fault is none of them.
    pub disk_fault : HasCause faults c.new.disk_faults (c.status ≡ DiskFault)
    pub out_fault : HasCause c.old.out_faults c.new.out_faults (c.status ≡ OutFault)

  -- no fault of a client was counted
  abbrev pub AreQuiet : List (Client I O) → List (Client I O) → Type 0
  AreQuiet (b ∷ bs) (x ∷ xs) = IsQuiet (source.faults b.source) (source.faults x.source)
      × IsQuiet (sink.faults b.sink) (sink.faults x.sink) × AreQuiet bs xs
  AreQuiet bs xs = ⊤

  -- the bytes of all clients are known and whole
  abbrev pub AreWhole : Option ℕ → List (Client I O) → Type 0
  AreWhole export [] = ⊤
  AreWhole export (b ∷ bs) = MatchOption (source.left b.source) ⊥ (IsWholeInput export) × AreWhole export bs

  -- Without a fault, valid headers and whole inputs give Done, or NoMemory. g is where the volume is.
  abbrev pub IsComplete : Option Asked → Call I O → Type 0
  IsComplete asked c = (a : Asked) (b : List ℕ) (header : Opened) (g : Geometry) → asked ≡ Some a → c.old.image ≡ Some b
      → IsContainerLength c.old.size → Opens a b → opened a.access b ≡ Some header → IsVolume header.fields g
      → IsQuiet c.old.disk_faults c.new.disk_faults → IsQuiet c.old.out_faults c.new.out_faults
      → AreQuiet c.before c.after → AreWhole (export_of a.handshake g) c.before
      → (c.status ≡ Done) ⊎ (c.status ≡ NoMemory)

-- The volume was opened, and there was no memory to serve its clients.
pub record NoneServed {I O : Type 0} (h : List Entry) (c : Call I O) : Type 0 where
  pub idle : Idle c
  pub nothing : h ≡ []
  pub no_memory : c.status ≡ NoMemory

module _ {S C : Type 0} (store : StoreGhosts S) (cipher : CipherGhosts C) where
  pub record IsBase (a : Asked) (old : Seen) (base : State S C) : Type 0 where
    pub image : store.image base.disk ≡ old.image
    pub size : store.size base.disk ≡ old.size
    pub later : old.disk_faults ≤ store.faults base.disk
    pub in_range : IsContainerLength old.size
    pub header : Opened
    pub opens : IfSome old.image (λ b. opened a.access b ≡ Some header)
    pub enciphers : (n : ℕ) (u : List ℕ) → cipher.enciphered base.cipher n u ≡ enciphered (keys_of header) n u
    pub deciphers : (n : ℕ) (u : List ℕ) → cipher.deciphered base.cipher n u ≡ deciphered (keys_of header) n u
    pub geometry : IsVolume header.fields base.geometry
    pub range : Protects a.protect old.image base.guard.range
    pub pending : base.pending ≡ []

  -- The history of the served volume, after which the store was left with nothing pending. From then to the end of the
  -- call its bytes stay the same, and a crash leaves nothing more than at that moment.
  pub record IsHistory (v : View (State S C) Entry) (new : Seen) : Type 0 where
    pub left : S
    pub state : IsLeft store cipher v left
    pub image : new.image ≡ store.image left
    pub size : new.size ≡ store.size left
    pub crash : Outcomes store.tells (store.moment left) new.moment (store.left_since left) new.left_since
        (store.may_leave left) new.may_leave Stays
    pub later : store.faults left ≤ new.disk_faults

module _ {S C I O : Type 0} (store : StoreGhosts S) (cipher : CipherGhosts C) (source : SourceGhosts I) (sink : SinkGhosts O) where
  -- the volume was opened, and closed again
  pub record Ran (handshake : Bool) (v : View (State S C) Entry) (c : Call I O) : Type 0 where
    pub history : IsHistory store cipher v c.new
    pub outcome : AllServed source sink (export_of handshake history.state.base.geometry) history.state.base.geometry.sector
        v.seen (store.faults history.left) c ⊎ NoneServed v.seen c

  pub record Served (a : Asked) (v : View (State S C) Entry) (c : Call I O) : Type 0 where
    pub ran : Ran a.handshake v c
    pub base : IsBase store cipher a c.old ran.history.state.base

  -- If nothing is asked, the status is Usage, and Usage comes only then. NoMemory may come in its place.
  abbrev pub Kept : Option Asked → Option (View (State S C) Entry) → Call I O → Type 0
  Kept asked pass c = MatchOption asked
      ((pass ≡ None) × Unserved c × ((c.status ≡ Usage) ⊎ (c.status ≡ NoMemory)))
      (λ a. MatchOption pass
      (Unserved c × Refuses a c.old.image c.old.size c.old.disk_faults c.new.disk_faults c.status)
      (λ v. Served a v c))

-- If no fault of the container is counted, a volume is opened if and only if the headers are valid, out of memory aside.
abbrev pub IsOpening : {S C I O : Type 0} → Option Asked → Option (View (State S C) Entry) → Call I O → Type 0
IsOpening asked pass c = (a : Asked) (b : List ℕ) → asked ≡ Some a → c.old.image ≡ Some b
    → IsQuiet c.old.disk_faults c.new.disk_faults → c.status ≢ NoMemory
    → (IsSome pass ↔ IsContainerLength c.old.size × Opens a b)
