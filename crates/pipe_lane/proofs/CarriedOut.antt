-- What carrying out a request left, from what its volume's call left.
use Rattle.std.proofs.Common.{◌≡◌, ℕ, List, [], ◌++◌, append-nil, refl, sym, ◌∙◌, subst}
use Rattle.hist_lock.specs.declared.view.View.{View}
use Rattle.io_core.specs.State.{State}
use Rattle.io_queue.specs.Pass.{Call}
use Rattle.nbd_session.specs.Session.{events_of}
use Rattle.nbd_wire.specs.Classes.{asked}
use Rattle.nbd_wire.specs.Frames.{Frame}
use Rattle.nbd_wire.specs.Replies.{error_of, Leaves}
use Rattle.nbd_wire.specs.Wire.{reply}
use Rattle.nbd_wire.specs.declared.ask.Ask.{Ask}
use Rattle.nbd_wire.specs.declared.reply.Outcome.{Outcome}
use Rattle.nbd_wire.specs.declared.request.Request.{Request}
use Rattle.sector_model.specs.declared.entry.Entry.{Entry}
use Rattle.pipe_lane.specs.Lanes.{IsCarriedOut, reply_of}
use Rattle.pipe_lane.specs.declared.lane.Reply.{Reply}
use Rattle.pipe_lane.specs.declared.lane.Reply.TheVariants.{Alone}

module _ {S C : Type 0} (sector : ℕ) (r : Request) (payload : List ℕ) (v w : View (State S C) Entry) where
  pub carried_with : (a : Ask) (o : Outcome) (es : List Entry) (content : List ℕ) (answer : Reply) → asked sector r ≡ a → Call v w es
      → Leaves sector a payload o (events_of es) content → reply_of answer ≡ reply (error_of o) r.cookie ++ content
      → IsCarriedOut sector (record { request = r; payload = payload }) v w answer
  carried_with a o es content answer asks call leaves is = record {
    es = es;
    call = call;
    answered = record {
      outcome = o;
      content = content;
      leaves = subst (λ (x : Ask). Leaves sector x payload o (events_of es) content) (sym asks) leaves;
      replied = is;
    };
  }

  pub carried_alone : (a : Ask) (o : Outcome) (es : List Entry) → asked sector r ≡ a → Call v w es → Leaves sector a payload o (events_of es) []
      → IsCarriedOut sector (record { request = r; payload = payload }) v w (Alone r o)
  carried_alone a o es asks call leaves = carried_with a o es [] (Alone r o) asks call leaves (sym (append-nil (reply (error_of o) r.cookie)))

pub of_frame : {S C : Type 0} (sector : ℕ) (r : Request) (f : Frame) (v w : View (State S C) Entry) (answer : Reply) → r ≡ f.request
    → IsCarriedOut sector (record { request = r; payload = f.payload }) v w answer → IsCarriedOut sector f v w answer
of_frame sector r f v w answer is carried =
    subst (λ (x : Request). IsCarriedOut sector (record { request = x; payload = f.payload }) v w answer) is carried
