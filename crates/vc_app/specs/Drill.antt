-- What `drill` promises: the lines of its summary, and nothing else is touched.
--
-- drilled arguments    the number of the drill that a command line asks for, or none
-- summary_lines n s    the lines of a summary of the drill of n
-- drill_lines n        those of its one summary
-- IsOfDrill s          a status of a drill
-- Drilled n c          what holds of a call that ran the drill of n
-- Answered ..          what holds of a call, by whether its arguments ask for a drill
use Rattle.std.specs.Prelude.{◌≡◌, ◌⊎◌, ℕ, List, [], ◌++◌, Option, Some, None, codes, option_and_then}
use Rattle.std.specs.Fmt.{decimal}
use Rattle.cipher_base.specs.declared.unit.UnitCipher.{Ghosts as CipherGhosts}
use Rattle.hex.specs.Hex.{encode_lower}
use Rattle.vc_base.specs.Faults.{HasCause}
use Rattle.vc_outside.specs.Told.{Grows, GrowsByFront}
use Rattle.vc_outside.specs.declared.store.Store.{Ghosts as StoreGhosts}
use Rattle.vc_outside.specs.declared.source.Source.{Ghosts as SourceGhosts}
use Rattle.vc_outside.specs.declared.sink.Sink.{Ghosts as SinkGhosts}
use Rattle.hist_lock.specs.declared.view.View.{View}
use Rattle.sector_model.specs.declared.entry.Entry.{Entry}
use Rattle.io_core.specs.State.{State}
use Rattle.cmd_words.specs.Line.{Line, Text, drill, line}
use Rattle.drill_streams.specs.Drill.{reads, sectors, writes}
use Rattle.drill_work.specs.Summary.{digest}
use Rattle.drill_work.specs.declared.summary.Summary.{Summary}
use Rattle.vc_app.specs.declared.serve.asked.Asked.{Asked}
use Rattle.vc_app.specs.declared.status.Status.{Status}
use Rattle.vc_app.specs.declared.status.Status.TheVariants.{Done, OutFault, NoMemory}
use Rattle.vc_app.specs.Info.{text_line}
use Rattle.vc_app.specs.Promise.{Unchanged}
use Rattle.vc_app.specs.Serve.{Call, Kept}

abbrev pub number_of : Line → Option ℕ
number_of (drill n) = Some n
number_of _ = None

unfoldable pub drilled : List Text → Option ℕ
drilled arguments = option_and_then number_of (line arguments)

abbrev pub summary_lines : ℕ → Summary → List ℕ
summary_lines n s =
    (((((text_line (codes "drill") (decimal n)
    ++ text_line (codes "clients") (decimal 3))
    ++ text_line (codes "requests") (decimal 36))
    ++ text_line (codes "reads") (decimal s.reads))
    ++ text_line (codes "writes") (decimal s.writes))
    ++ text_line (codes "sectors") (decimal s.sectors))
    ++ text_line (codes "plain") (encode_lower s.digest)

abbrev pub drill_lines : ℕ → List ℕ
drill_lines n = summary_lines n (record { reads = reads n; writes = writes n; sectors = sectors n; digest = digest n })

abbrev pub IsOfDrill : Status → Type 0
IsOfDrill s = (s ≡ Done) ⊎ (s ≡ OutFault) ⊎ (s ≡ NoMemory)

pub record Drilled {I O : Type 0} (n : ℕ) (c : Call I O) : Type 0 where
  -- None of the call's clients is served, and the container is as it was: no call of it counts a failure or is an event.
  pub hands : c.hands ≡ []
  pub ends : c.ends ≡ []
  pub replies : c.replies ≡ []
  pub callers : c.callers ≡ []
  pub clients : c.after ≡ c.before
  pub unchanged : Unchanged c.old c.new
  pub disk_faults : c.new.disk_faults ≡ c.old.disk_faults
  pub moment : c.new.moment ≡ c.old.moment
  pub status : IsOfDrill c.status
  -- With Done all lines were written, otherwise a prefix of them.
  pub printed : GrowsByFront c.old.contents c.new.contents (drill_lines n)
  pub all_printed : c.status ≡ Done → Grows c.old.contents c.new.contents (drill_lines n)
  pub out_fault : HasCause c.old.out_faults c.new.out_faults (c.status ≡ OutFault)

module _ {S C I O : Type 0} (store : StoreGhosts S) (cipher : CipherGhosts C) (source : SourceGhosts I) (sink : SinkGhosts O) where
  abbrev pub Answered : Option ℕ → Option Asked → Option (View (State S C) Entry) → Call I O → Type 0
  Answered None asked pass c = Kept store cipher source sink asked pass c
  Answered (Some n) asked pass c = (pass ≡ None) × Drilled n c
