-- The outcome of a request, by what the volume returned.
--
-- outcome_of beyond r            the outcome of a call that returned r; `beyond` is that of one past the volume's end
-- read_outcome, write_outcome    the outcome of a read or a flush, and of a write
-- data_of outcome bytes          the data of a reply: a read that was done has some
use Rattle.std.specs.Prelude.{ℕ, List, [], Result, Ok, Err}
use Rattle.io_queue.specs.declared.error.IoError.{IoError}
use Rattle.io_queue.specs.declared.error.IoError.TheVariants as error
use Rattle.nbd_wire.specs.declared.reply.Outcome.{Outcome}
use Rattle.nbd_wire.specs.declared.reply.Outcome.TheVariants.{Done, ReadBeyond, WriteBeyond, Denied, Frozen, Fault, NoMemory}

abbrev pub outcome_of : {A : Type 0} → Outcome → Result A IoError → Outcome
outcome_of beyond (Ok done) = Done
outcome_of beyond (Err error.Range) = beyond
outcome_of beyond (Err error.Denied) = Denied
outcome_of beyond (Err error.Frozen) = Frozen
outcome_of beyond (Err (error.Fault mark)) = Fault
outcome_of beyond (Err error.NoMemory) = NoMemory

abbrev pub read_outcome : {A : Type 0} → Result A IoError → Outcome
read_outcome r = outcome_of ReadBeyond r

abbrev pub write_outcome : {A : Type 0} → Result A IoError → Outcome
write_outcome r = outcome_of WriteBeyond r

abbrev pub data_of : Outcome → List ℕ → List ℕ
data_of Done bytes = bytes
data_of other bytes = []
