-- What an event adds to the history, by its answer.
--
-- admit_entries v w ..    what an admission of the write w adds, in the volume v
-- IsAnswered w ..         the write w is admitted, or is handed back
-- flush_event ..          what a flush adds
use Rattle.std.specs.Prelude.{◌≡◌, List, [], ◌∷◌, Result, Ok, Err, ⊤}
use Rattle.sector_model.specs.Array.{sectors_of, Volume}
use Rattle.sector_model.specs.Plain.{entry}
use Rattle.sector_model.specs.declared.entry.Entry.{Entry}
use Rattle.sector_model.specs.declared.entry.Event.{Event}
use Rattle.sector_model.specs.declared.entry.Event.TheVariants.{Deny, Fail, Flush, Put, Shut}
use Rattle.sector_model.specs.declared.entry.FaultMark.{FaultMark}
use Rattle.io_core.specs.declared.answers.Admit.{Admit}
use Rattle.io_core.specs.declared.answers.Admit.TheVariants.{In, Denied, Frozen, Later}
use Rattle.io_core.specs.declared.prepared.Prepared.{Prepared}

abbrev pub admit_entries : Volume → Prepared → Admit → List Entry
admit_entries v w In = entry w.caller w.number (Put w.first w.bytes.items) ∷ []
admit_entries v w (Denied p) = entry w.caller w.number (Deny w.first (sectors_of v w.bytes.items)) ∷ []
admit_entries v w (Frozen p) = entry w.caller w.number (Shut w.first (sectors_of v w.bytes.items)) ∷ []
admit_entries v w (Later p) = []

abbrev pub IsAnswered : Prepared → Admit → Type 0
IsAnswered w In = ⊤
IsAnswered w (Denied p) = p ≡ w
IsAnswered w (Frozen p) = p ≡ w
IsAnswered w (Later p) = p ≡ w

abbrev pub flush_event : {A : Type 0} → Result A FaultMark → Event
flush_event (Ok done) = Flush
flush_event (Err mark) = Fail 0 0 mark
