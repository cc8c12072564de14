-- What a request did, from what its volume's call left and what was written of its reply.
use Rattle.std.proofs.Common.{◌≡◌, ℕ, ◌==◌, false, List, [], ◌++◌, length, Option, Some, None, IfSome, refl, sym, ap, ◌∙◌, subst}
use Rattle.std.specs.Prelude.{option_map, IsNone}
use Rattle.std.proofs.lemmas.Bool.{false≢true}
use Rattle.std.proofs.lemmas.List.{append-nil}
use Rattle.hist_lock.specs.declared.view.View.{View}
use Rattle.io_core.specs.State.{State}
use Rattle.io_queue.proofs.Passes.{no_call}
use Rattle.io_queue.specs.Pass.{Call}
use Rattle.nbd_wire.specs.Classes.{asked}
use Rattle.nbd_wire.specs.Frames.{payload_length}
use Rattle.nbd_wire.specs.Replies.{error_of, Leaves}
use Rattle.nbd_wire.specs.Wire.{reply}
use Rattle.nbd_wire.specs.declared.ask.Ask.{Ask}
use Rattle.nbd_wire.specs.declared.end.End.{End}
use Rattle.nbd_wire.specs.declared.reply.Outcome.{Outcome}
use Rattle.nbd_wire.specs.declared.request.Request.{Request}
use Rattle.sector_model.specs.declared.entry.Entry.{Entry}
use Rattle.nbd_session.specs.Session.{events_of, Serves}
use Rattle.nbd_session.specs.Laws.Acts.{Acts}
use Rattle.nbd_session.specs.Sent.{Replied}
use Rattle.nbd_session.specs.Laws.Onward.{Answers}
use Rattle.nbd_session.specs.Taken.{NoRequest, TakesHead, TakesPayload}
use Rattle.nbd_session.proofs.HeadAndPayload.{answered_request, failed_reply}
use Rattle.nbd_session.proofs.RequestByRequest.{serves_none}

module _ {S C : Type 0} (sector : ℕ) (r : Request) (payload : List ℕ) (v w : View (State S C) Entry) (held now : Option (List ℕ)) (how : Option End) where
  -- a request with this outcome, and data in its reply
  pub acts_with : (a : Ask) (o : Outcome) (es : List Entry) (content : List ℕ) → asked sector r ≡ a → Call v w es → Leaves sector a payload o (events_of es) content
      → Replied held now (reply (error_of o) r.cookie ++ content) how → Acts sector (record { request = r; payload = payload }) v w held now how
  acts_with a o es content asks call leaves replied = record {
    es = es;
    call = call;
    whole = reply (error_of o) r.cookie ++ content;
    answered = record {
      outcome = o;
      content = content;
      leaves = subst (λ (x : Ask). Leaves sector x payload o (events_of es) content) (sym asks) leaves;
      replied = refl;
    };
    replied = replied;
  }

  pub acts_alone : (a : Ask) (o : Outcome) (es : List Entry) → asked sector r ≡ a → Call v w es → Leaves sector a payload o (events_of es) []
      → Replied held now (reply (error_of o) r.cookie) how → Acts sector (record { request = r; payload = payload }) v w held now how
  acts_alone a o es asks call leaves replied =
      acts_with a o es [] asks call leaves (subst (λ (bytes : List ℕ). Replied held now bytes how) (sym (append-nil (reply (error_of o) r.cookie))) replied)

-- what holds of a value if there is one
pub of_some : {A : Type 0} (P : A → Type 0) (o : Option A) (x : A) → o ≡ Some x → IfSome o P → P x
of_some P o x is holds = subst (λ (p : Option _). IfSome p P) is holds

-- a payload that was kept
pub kept_size : {A : Type 0} (a b : Option (List ℕ)) (n : ℕ) (items : A → List ℕ) (kept : Option A) → TakesPayload a b n (option_map items kept)
    → IfSome kept (λ v. length (items v) ≡ n)
kept_size a b n items None p = tt
kept_size a b n items (Some v) p = ap length p.is ∙ p.size

-- a payload that was kept is the one that was taken
pub kept_is : {A : Type 0} (a b : Option (List ℕ)) (n : ℕ) (items : A → List ℕ) (kept : Option A) (p : TakesPayload a b n (option_map items kept))
    → IfSome kept (λ v. items v ≡ p.payload)
kept_is a b n items None p = tt
kept_is a b n items (Some v) p = p.is

-- nothing came of the bytes that were taken
pub nothing_done : {S C : Type 0} (sector : ℕ) (v : View (State S C) Entry) (left later held : Option (List ℕ)) (how : End) → NoRequest left later how
    → (es : List Entry) × Call v v es × Serves sector left later held held (events_of es) 0 how
nothing_done sector v left later held how none = ([], no_call v, serves_none sector left later held how none)

module _ {S C : Type 0} (sector : ℕ) (r : Request) (v w : View (State S C) Entry) (a b c held now : Option (List ℕ)) (h : TakesHead a b r)
    (isnt : (r.kind == 2) ≡ false) (kept : Option (List ℕ)) (p : TakesPayload b c (payload_length r) kept) where
  pub goes_on : (how : Option End) → Acts sector (record { request = r; payload = p.payload }) v w held now how → IsNone how
      → (es : List Entry) × Call v w es × Answers sector a c held now (events_of es)
  goes_on None one is = (one.es, one.call, answered_request a b r h c isnt kept p sector held now (events_of one.es) one.whole one.answered one.replied)
  goes_on (Some how) one is = absurd (false≢true (sym is))

  pub stops : (how : Option End) → Acts sector (record { request = r; payload = p.payload }) v w held now how
      → IfSome how (λ end. (es : List Entry) × Call v w es × Serves sector a c held now (events_of es) 0 end)
  stops None one = tt
  stops (Some how) one = (
    one.es,
    one.call,
    failed_reply a b r h c isnt kept p sector held now (events_of one.es) one.whole how one.answered one.replied.0 one.replied.1,
  )
