-- The exit statuses, and the one of each cause.
--
-- code_of s                   the program's exit status
-- IsRefusal s                 a refusal, which leaves everything as it was
-- IsAfterWork s               the work on the container is whole
-- IsOfPlain s                 a status of a command that serves no client
-- words_status, .. e          the status of an error. That of a command's error is in the command's file
-- ended f r                   the status of a result, with f for its errors
use Rattle.std.specs.Prelude.{◌≡◌, ◌⊎◌, ℕ, ⊤, Result, Ok, Err}
use Rattle.header_try.specs.declared.open_error.OpenError.{OpenError}
use Rattle.header_try.specs.declared.open_error.OpenError.TheVariants as opening
use Rattle.cmd_words.specs.declared.error.WordsError.{WordsError}
use Rattle.cmd_words.specs.declared.error.WordsError.TheVariants as reading
use Rattle.vc_app.specs.declared.counts.WorkError.{WorkError}
use Rattle.vc_app.specs.declared.counts.WorkError.TheVariants as work
use Rattle.vc_app.specs.declared.status.Status.{Status}
use Rattle.vc_app.specs.declared.status.Status.TheVariants.{Done, Usage, NoHeader, NoHidden, Length, BadSize, DiskFault, OutFault, NoMemory, ClientCut, ClientMagic, ClientFault, ClientHand}

abbrev pub code_of : Status → ℕ
code_of Done = 0
code_of Usage = 2
code_of NoHeader = 3
code_of NoHidden = 4
code_of (Length len) = 5
code_of BadSize = 6
code_of DiskFault = 7
code_of OutFault = 8
code_of NoMemory = 9
code_of (ClientCut client) = 10
code_of (ClientMagic client bytes) = 11
code_of (ClientFault client) = 12
code_of (ClientHand client refusal) = 13

abbrev pub IsRefusal : Status → Type 0
IsRefusal Usage = ⊤
IsRefusal NoHeader = ⊤
IsRefusal NoHidden = ⊤
IsRefusal (Length len) = ⊤
IsRefusal BadSize = ⊤
IsRefusal _ = ⊥

abbrev pub IsAfterWork : Status → Type 0
IsAfterWork s = (s ≡ Done) ⊎ (s ≡ OutFault)

abbrev pub IsOfPlain : Status → Type 0
IsOfPlain (ClientCut client) = ⊥
IsOfPlain (ClientMagic client bytes) = ⊥
IsOfPlain (ClientFault client) = ⊥
IsOfPlain (ClientHand client refusal) = ⊥
IsOfPlain _ = ⊤

-- ---- causes

abbrev pub words_status : WordsError → Status
words_status reading.Usage = Usage
words_status reading.NoMemory = NoMemory

abbrev pub open_status : OpenError → Status
open_status (opening.Length len) = Length len
open_status opening.NoHeader = NoHeader
open_status opening.ReadFault = DiskFault
open_status opening.NoMemory = NoMemory

abbrev pub work_status : WorkError → Status
work_status work.DiskFault = DiskFault
work_status work.OutFault = OutFault
work_status work.NoMemory = NoMemory

abbrev pub ended : {E : Type 0} → (E → Status) → Result (Unit {0}) E → Status
ended status (Ok done) = Done
ended status (Err error) = status error
