-- What a command promises, and what holds of a call that carries it out.
--
-- A promise says what a command does, as data: when it is refused, and if it isn't, what it leaves of the
-- container and what it writes. Each command states its own, in a file of its name. What a promise means is
-- said once, in Kept: that record is the whole theorem of the commands.
--
-- Plan                 what a command leaves and writes if nothing fails
-- Outcome              what comes of a container's bytes: a refusal, or a plan
-- Reach                how far a command may change the container, whatever happens
-- Promise              what a command does
-- Seen                 what contracts see of a container and an output at one moment
-- Unchanged old new    the container is as it was, also in what a crash leaves
-- InPart .. old new    a part of the container may differ, also in what a crash leaves during the call and after it
-- InLonger .. old new  the same, and the container may have another length
-- Whole p old new      the work on the container is whole
-- IsEarly p s old      what is asked and the length refuse the command with the status s
-- IsLate p s old       the container's bytes do
-- Kept p s old new     a call that ended with the status s kept the promise
-- IsComplete ..        without a fault such a call does what the container's bytes decide
use Rattle.std.specs.Prelude.{◌≡◌, ◌⊎◌, ◌<◌, ◌-◌, ◌^◌, ℕ, ⊤, Bool, true, false, List, [], Option, Some, None, IfSome, Contains}
use Rattle.vc_base.specs.Faults.{HasCause}
use Rattle.vc_outside.specs.Crash.{IsLasting, Outcomes, Stays}
use Rattle.vc_outside.specs.Told.{Both, Grows, GrowsByFront}
use Rattle.vc_outside.specs.declared.store.Store as store
use Rattle.vc_outside.specs.declared.sink.Sink as sink
use Rattle.vc_app.specs.declared.status.Status.{Status}
use Rattle.vc_app.specs.declared.status.Status.TheVariants.{Done, Usage, DiskFault, OutFault, NoMemory}
use Rattle.vc_app.specs.Status.{IsAfterWork, IsOfPlain, IsRefusal}

pub record Plan : Type 0 where
  -- the container's bytes
  pub image : List ℕ
  -- what is added to the output
  pub output : List ℕ

pub data Outcome : Type 0 where
  refused : Status → Outcome
  goes : Plan → Outcome

pub data Reach : Type 1 where
  nowhere : Reach
  -- which bytes may differ, and what holds of each image that a crash may leave at any moment of the call or after it,
  -- by the bytes before it and by what a crash might leave then
  part : (List ℕ → List ℕ → Type 0) → (List ℕ → (List ℕ → Type 0) → List ℕ → Type 0) → Reach
  -- the same, and the container may get this length
  longer : ℕ → (List ℕ → List ℕ → Type 0) → (List ℕ → (List ℕ → Type 0) → List ℕ → Type 0) → Reach
  anywhere : Reach

pub record Promise : Type 1 where
  -- what is asked and the container's length admit the command
  pub admits : ℕ → Type 0
  -- if they don't, it is refused with this status before anything is read or written
  pub early : ℕ → Status → Type 0
  -- the refusals that may come of the container's bytes
  pub late : List Status
  -- what comes of the container's bytes, if that is known
  pub plan : Option (List ℕ) → Option Outcome
  pub reach : Reach
  -- the length that is left, of the length before
  pub length_left : ℕ → ℕ
  -- it may have written a prefix of its output when the container fails
  pub streams : Bool

-- the promise of arguments that are no command of this call
abbrev pub no_command : Promise
no_command = record {
  admits = λ len. ⊥;
  early = λ len s. s ≡ Usage;
  late = [];
  plan = λ image. None;
  reach = nowhere;
  length_left = λ len. len;
  streams = false;
}

-- ---- what is seen

pub record Seen : Type 1 where
  pub image : Option (List ℕ)
  pub size : ℕ
  pub disk_faults : ℕ
  -- what a crash may leave at this moment, and since an earlier one, if the container models it
  pub tells : Bool
  pub may_leave : List ℕ → Type 0
  pub moment : ℕ
  pub left_since : ℕ → List ℕ → Type 0
  pub contents : Option (List ℕ)
  pub out_faults : ℕ

abbrev pub seen : {D O : Type 0} → store.Ghosts D → sink.Ghosts O → D → O → Seen
seen d o disk out = record {
  image = d.image disk;
  size = d.size disk;
  disk_faults = d.faults disk;
  tells = d.tells;
  may_leave = d.may_leave disk;
  moment = d.moment disk;
  left_since = d.left_since disk;
  contents = o.contents out;
  out_faults = o.faults out;
}

-- the container is as it was
pub record Same (old new : Seen) : Type 0 where
  pub image : new.image ≡ old.image
  pub size : new.size ≡ old.size

-- a crash leaves nothing more than before
abbrev pub LeavesNoMore : Seen → Seen → Type 0
LeavesNoMore old new =
    Outcomes old.tells old.moment new.moment old.left_since new.left_since old.may_leave new.may_leave Stays

pub record Unchanged (old new : Seen) : Type 0 where
  pub same : Same old new
  pub crash : LeavesNoMore old new

-- a crash at some moment of the call, or after it, may leave this
abbrev pub MayBeLeft : Seen → Seen → List ℕ → Type 0
MayBeLeft old new c = new.left_since old.moment c ⊎ new.may_leave c

pub record InPart (only : List ℕ → List ℕ → Type 0) (left : List ℕ → (List ℕ → Type 0) → List ℕ → Type 0) (old new : Seen)
    : Type 0 where
  pub outside : Both old.image new.image only
  pub size : new.size ≡ old.size
  pub crash : new.tells ≡ true → (c : List ℕ) → MayBeLeft old new c → IfSome old.image (λ b. left b old.may_leave c)

pub record InLonger (len : ℕ) (only : List ℕ → List ℕ → Type 0) (left : List ℕ → (List ℕ → Type 0) → List ℕ → Type 0)
    (old new : Seen) : Type 0 where
  pub outside : Both old.image new.image only
  pub size : (new.size ≡ old.size) ⊎ (new.size ≡ len)
  pub crash : new.tells ≡ true → (c : List ℕ) → MayBeLeft old new c → IfSome old.image (λ b. left b old.may_leave c)

abbrev pub Within : Reach → Seen → Seen → Type 0
Within nowhere old new = Unchanged old new
Within (part only left) old new = Unchanged old new ⊎ InPart only left old new
Within (longer len only left) old new = Unchanged old new ⊎ InLonger len only left old new
Within anywhere old new = ⊤

-- what the command left lasts, if it may change the container
abbrev pub Lasts : Reach → Seen → Type 0
Lasts nowhere new = ⊤
Lasts (part only left) new = IsLasting new.tells new.image new.may_leave
Lasts (longer len only left) new = IsLasting new.tells new.image new.may_leave
Lasts anywhere new = IsLasting new.tells new.image new.may_leave

-- ---- what a promise means

-- the command goes by a plan of which P holds, if that is known
abbrev pub Goes : Option Outcome → (Plan → Type 0) → Type 0
Goes None P = ⊤
Goes (Some (refused s)) P = ⊥
Goes (Some (goes plan)) P = P plan

-- a prefix of the plan's output was added, and nothing if the command is refused
abbrev pub IsFront : Option Outcome → Option (List ℕ) → Option (List ℕ) → Type 0
IsFront None old new = ⊤
IsFront (Some (refused s)) old new = new ≡ old
IsFront (Some (goes plan)) old new = GrowsByFront old new plan.output

pub record Whole (p : Promise) (old new : Seen) : Type 0 where
  pub admitted : p.admits old.size
  pub left : Goes (p.plan old.image) (λ plan. Both old.image new.image (λ before after. after ≡ plan.image))
  pub length_left : new.size ≡ p.length_left old.size
  pub lasting : Lasts p.reach new

pub record IsEarly (p : Promise) (s : Status) (old : Seen) : Type 0 where
  pub refuses : ¬ p.admits old.size
  pub comes : p.early old.size s

pub record IsLate (p : Promise) (s : Status) (old : Seen) : Type 0 where
  pub admitted : p.admits old.size
  pub named : Contains p.late s
  pub comes : IfSome (p.plan old.image) (λ outcome. outcome ≡ refused s)

pub record Kept (p : Promise) (s : Status) (old new : Seen) : Type 0 where
  -- What is written: all of the plan's output with Done, and never more than a prefix of it. Nothing is written
  -- with a refusal, nor with a fault of the container unless the command streams.
  pub done : s ≡ Done → Goes (p.plan old.image) (λ plan. Grows old.contents new.contents plan.output)
  pub front : IsFront (p.plan old.image) old.contents new.contents
  pub quiet : IsRefusal s → new.contents ≡ old.contents
  pub quiet_fault : s ≡ DiskFault → p.streams ≡ false → new.contents ≡ old.contents
  -- What is left of the container. With a refusal it is unchanged. Out of memory, its bytes are as they were or whole.
  pub whole : IsAfterWork s → Whole p old new
  pub same : IsRefusal s → Unchanged old new
  pub no_memory : s ≡ NoMemory → Same old new ⊎ Whole p old new
  pub within : Within p.reach old new
  -- Why it is refused. NoMemory may come in place of any other status.
  pub early : (t : Status) → IsEarly p t old
      → ((s ≡ t) ⊎ (s ≡ NoMemory)) × Unchanged old new × (new.contents ≡ old.contents)
  pub refused : IsRefusal s → IsEarly p s old ⊎ IsLate p s old
  pub possible : IsOfPlain s
  -- A fault comes only if the object's count rose in this call, and Done and NoMemory only if neither count did.
  pub disk_cause : HasCause old.disk_faults new.disk_faults (s ≡ DiskFault)
  pub out_cause : HasCause old.out_faults new.out_faults (s ≡ OutFault)
  pub disk_count : s ≡ Done → new.disk_faults ≡ old.disk_faults
  pub out_count : s ≡ Done → new.out_faults ≡ old.out_faults
  pub memory_counts : s ≡ NoMemory → (new.disk_faults ≡ old.disk_faults) × (new.out_faults ≡ old.out_faults)

-- ---- without a fault

abbrev pub status_in : Outcome → Status
status_in (refused s) = s
status_in (goes plan) = Done

-- If no count of faults rises, the status is the one that comes of the container's bytes, or NoMemory.
abbrev pub IsComplete : Promise → Status → Seen → Seen → Type 0
IsComplete p s old new = (outcome : Outcome) → p.admits old.size → p.plan old.image ≡ Some outcome
    → old.disk_faults < 2 ^ 64 - 1 → old.out_faults < 2 ^ 64 - 1
    → new.disk_faults ≡ old.disk_faults → new.out_faults ≡ old.out_faults
    → (s ≡ status_in outcome) ⊎ (s ≡ NoMemory)
