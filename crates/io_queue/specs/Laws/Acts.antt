-- The events of the core as acts on the lock: where each may act, and what it adds by its answer.
--
-- IsBeyond, ..             where the act may act: its fields, the opening state and the history
-- fetched, ..              what it adds
use Rattle.std.specs.Prelude.{◌≡◌, ◌<◌, ℕ, ◌+◌, ◌*◌, ◌/◌, List, [], ◌∷◌, length, All, ⊤}
use Rattle.hist_lock.specs.History.{entries}
use Rattle.vc_base.specs.Bytes.{in_pieces}
use Rattle.vc_layout.specs.declared.geometry.Geometry.{Geometry}
use Rattle.cipher_base.specs.declared.unit.UnitCipher.{Ghosts as CipherGhosts}
use Rattle.sector_model.specs.Array.{AreSectors, Fits, sectors_of}
use Rattle.sector_model.specs.History.{open_writes}
use Rattle.sector_model.specs.Plain.{entry}
use Rattle.sector_model.specs.declared.entry.Entry.{Entry}
use Rattle.sector_model.specs.declared.entry.Event.TheVariants as event
use Rattle.sector_model.specs.declared.entry.FaultMark.{FaultMark}
use Rattle.io_core.specs.Entries.{admit_entries, IsAnswered}
use Rattle.io_core.specs.Fragments.{IsWaiting}
use Rattle.io_core.specs.State.{State}
use Rattle.io_core.specs.declared.answers.Admit.{Admit}
use Rattle.io_core.specs.declared.answers.Admit.TheVariants as admit
use Rattle.io_core.specs.declared.answers.Close.{Close}
use Rattle.io_core.specs.declared.answers.Close.TheVariants as close
use Rattle.io_core.specs.declared.answers.Fetch.{Fetch}
use Rattle.io_core.specs.declared.answers.Fetch.TheVariants as fetch
use Rattle.io_core.specs.declared.prepared.Prepared.{Prepared}
use Rattle.io_queue.specs.Pass.{caller_of, shape}

-- a fetch of whole sectors in the volume
pub record MayFetch {S C : Type 0} (base : State S C) (g : Geometry) (c : C) (first : ℕ) (out : List ℕ) : Type 0 where
  pub geometry : base.geometry ≡ g
  pub cipher : base.cipher ≡ c
  pub some : 0 < length out
  pub whole : AreSectors (shape g) out
  pub fits : Fits (shape g) first (sectors_of (shape g) out)

-- the units from the sector `first` on, deciphered
abbrev pub deciphered_from : {C : Type 0} → CipherGhosts C → C → Geometry → ℕ → List ℕ → List ℕ
deciphered_from cipher c g first out = in_pieces 512 (λ i u. cipher.deciphered c (g.start / 512 + g.sector / 512 * first + i) u) out

abbrev pub fetched : {C : Type 0} → CipherGhosts C → C → Geometry → ℕ → ℕ → List ℕ → Fetch → List Entry
fetched cipher c g caller first out fetch.Got = entry caller 0 (event.Read first (deciphered_from cipher c g first out)) ∷ []
fetched cipher c g caller first out fetch.Later = []
fetched cipher c g caller first out (fetch.Failed m) = entry caller 0 (event.Fail first (sectors_of (shape g) out) m) ∷ []

-- a write of whole sectors in the volume, by a caller of whom none is open
pub record MayAsk {S C : Type 0} (base : State S C) (log : List Entry) (g : Geometry) (w : Prepared) : Type 0 where
  pub geometry : base.geometry ≡ g
  pub whole : AreSectors (shape g) w.bytes.items
  pub fits : Fits (shape g) w.first (sectors_of (shape g) w.bytes.items)
  pub fresh : open_writes (entries caller_of w.caller log) ≡ []
  pub waiting : All IsWaiting w.parts.items

abbrev pub MayAdmit : {S C : Type 0} → State S C → List Entry → Geometry → Admit → Type 0
MayAdmit base log g (admit.Later w) = MayAsk base log g w
MayAdmit base log g other = ⊥

-- Before, the state is the write that asks; after, the answer.
abbrev pub admitted : Geometry → Admit → Admit → List Entry
admitted g (admit.Later w) answer = admit_entries (shape g) w answer
admitted g other answer = []

abbrev pub IsAnswer : Admit → Admit → Type 0
IsAnswer (admit.Later w) answer = IsAnswered w answer
IsAnswer other answer = ⊤

-- the caller's only open write is the one that is to end, from this sector on and of this many sectors
pub record MayEnd {S C : Type 0} (base : State S C) (log : List Entry) (g : Geometry) (caller first count : ℕ) : Type 0 where
  pub geometry : base.geometry ≡ g
  pub bytes : List ℕ
  pub only : open_writes (entries caller_of caller log) ≡ record { caller = caller; number = 0; first = first; bytes = bytes } ∷ []
  pub sectors : sectors_of (shape g) bytes ≡ count

abbrev pub Ends : ℕ → ℕ → ℕ → Close → List Entry → Type 0
Ends caller first count close.Waiting es = es ≡ []
Ends caller first count (close.Done bytes) es = es ≡ entry caller 0 (event.Done first count) ∷ []
Ends caller first count (close.Lost m) es = (now : List ℕ) × (k : ℕ) × (more : List (ℕ × FaultMark))
    × (es ≡ entry caller 0 (event.Lost first now ((k, m) ∷ more)) ∷ [])
