-- What a session in waves did so far, and what one wave adds.
--
-- RanOne ..               lane j carried out its request of the wave, or it had none and its pass has no new entry
-- HaveRun ..              all lanes did so: their passes vs are ws now, and the replies are rs
-- Onward ..               what is told of later requests, after what was taken, written and left so far, is told of all
use Rattle.std.specs.Prelude.{◌≡◌, ◌<◌, ◌≤◌, ℕ, ◌+◌, List, [], ◌++◌, length, get_or, Option}
use Rattle.hist_lock.specs.declared.view.View.{View}
use Rattle.io_core.specs.State.{State}
use Rattle.io_queue.specs.Pass.{Call}
use Rattle.nbd_session.specs.Session.{events_of}
use Rattle.nbd_wire.specs.Frames.{Frame}
use Rattle.nbd_wire.specs.Replies.{IsAnswered}
use Rattle.nbd_wire.specs.declared.end.End.{End}
use Rattle.sector_model.specs.declared.entry.Entry.{Entry}
use Rattle.vc_outside.specs.Told.{Grows}
use Rattle.pipe_lane.specs.Queue.{IsNext}
use Rattle.pipe_lane.specs.declared.queued.Next.{Next}
use Rattle.pipe_session.specs.ToldPipe.{WavesTold}
use Rattle.pipe_session.specs.Waves.{waves}
use Rattle.pipe_session.specs.Laws.Taking.{CanFollow}

module _ {S C : Type 0} where
  pub record RanOne (sector : ℕ) (wave : List Frame) (rs : List (List ℕ)) (j : ℕ) (v w : View (State S C) Entry) : Type 0 where
    pub es : List Entry
    pub call : Call v w es
    pub answered : (f : Frame) → j < length wave → IsAnswered sector (get_or wave j f) (events_of es) (get_or rs j [])
    pub idle : length wave ≤ j → es ≡ []

  pub record HaveRun (sector : ℕ) (wave : List Frame) (rs : List (List ℕ)) (vs ws : List (View (State S C) Entry)) : Type 0 where
    pub as_many : length ws ≡ length vs
    pub few : length wave ≤ length vs
    pub replies : length rs ≡ length wave
    pub each : (j : ℕ) (d : View (State S C) Entry) → j < length vs → RanOne sector wave rs j (get_or vs j d) (get_or ws j d)

pub record Onward (sector : ℕ) (ns : List ℕ) (left later held now : Option (List ℕ)) (next : Next) (h : List Entry) (n : ℕ) : Type 0 where
  pub done : List Frame
  pub heard : IsNext sector left later done next
  pub written : List ℕ
  pub output : Grows held now written
  pub goes : (r : List Frame) → CanFollow sector next r → (last : End) (more : List Entry) (k : ℕ) (replies : List ℕ) (how : End)
      → WavesTold sector ns (waves sector (length ns) r) last more k replies how
      → WavesTold sector ns (waves sector (length ns) (done ++ r)) last (h ++ more) (n + k) (written ++ replies) how
