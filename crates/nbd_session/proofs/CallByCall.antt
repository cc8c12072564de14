-- A session over a pass, request by request: the entries of each call follow one another, as the requests do.
use Rattle.std.proofs.Common.{◌≡◌, ℕ, ◌+◌, Bool, true, false, List, [], ◌++◌, Option, Some, None, Result, Err, inl, inr, refl, sym, ap, ◌∙◌, subst, arith}
use Rattle.std.proofs.lemmas.Bool.{false≢true}
use Rattle.std.proofs.lemmas.List.{map-append}
use Rattle.hist_lock.specs.declared.view.View.{View}
use Rattle.io_core.specs.State.{State}
use Rattle.io_queue.proofs.Passes.{calls, no_call}
use Rattle.io_queue.specs.Pass.{Call}
use Rattle.nbd_wire.specs.Frames.{Frame, Start, over, short, wrong, leaves, asks, start}
use Rattle.nbd_wire.specs.declared.end.End.{End}
use Rattle.nbd_wire.specs.declared.end.End.TheVariants as end
use Rattle.sector_model.specs.declared.entry.Entry.{Entry}
use Rattle.sector_model.specs.declared.entry.Event.{Event}
use Rattle.vc_base.specs.Faults.{HasCause, Rose}
use Rattle.nbd_session.specs.Laws.Acts.{Acts}
use Rattle.nbd_session.specs.Session.{events_of, Serves}
use Rattle.nbd_session.specs.Laws.Onward.{Answers, Did, Onward}
use Rattle.nbd_session.specs.Taken.{CutsPayload, end_of, NoRequest, OnlyEnds}
use Rattle.nbd_session.specs.Sent.{Replied}
use Rattle.nbd_session.specs.declared.input.Stop.{Stop}
use Rattle.nbd_session.specs.declared.input.Stop.TheVariants.{Ended, Failed}
use Rattle.nbd_session.proofs.RequestByRequest.{onward_end, onward_more, onward_none}

-- at the start
pub did_none : {S C : Type 0} (sector : ℕ) (v : View (State S C) Entry) (left held : Option (List ℕ)) → Did sector v v left left held held 0
did_none sector v left held = ([], no_call v, onward_none sector left held)

module _ {S C : Type 0} (sector : ℕ) (u v w : View (State S C) Entry) (a b c h i j : Option (List ℕ)) (n : ℕ) (so_far : Did sector u v a b h i n) where
  joined : (own : List Entry) → events_of (so_far.0 ++ own) ≡ events_of so_far.0 ++ events_of own
  joined own = map-append (λ e. e.event) so_far.0 own

  -- a request more
  pub did_more : (es : List Entry) × Call v w es × Answers sector b c i j (events_of es) → Did sector u w a c h j (n + 1)
  did_more one = (
    so_far.0 ++ one.0,
    calls u v w so_far.0 one.0 so_far.1 one.1,
    subst (λ (es : List Event). Onward sector a c h j es (n + 1)) (sym (joined one.0))
        (onward_more sector a b c h i j (events_of so_far.0) (events_of one.0) n so_far.2 one.2),
  )

  -- the end
  pub did_all : (how : End) → (es : List Entry) × Call v w es × Serves sector b c i j (events_of es) 0 how
      → (es : List Entry) × Call u w es × Serves sector a c h j (events_of es) n how
  did_all how last = (
    so_far.0 ++ last.0,
    calls u v w so_far.0 last.0 so_far.1 last.1,
    subst (λ (es : List Event). Serves sector a c h j es n how) (sym (joined last.0))
        (onward_end sector a b c h i j (events_of so_far.0) (events_of last.0) n so_far.2 how last.2),
  )

-- whose failure an end names
is_write : End → Bool
is_write end.WriteFault = true
is_write other = false

is_read : End → Bool
is_read end.ReadFault = true
is_read other = false

only_reads : (s : Start) (how : End) → OnlyEnds s how → is_write how ≡ false
unfolding is_write
only_reads over how (inl is) = ap is_write is
only_reads over how (inr is) = ap is_write is
only_reads short how (inl is) = ap is_write is
only_reads short how (inr is) = ap is_write is
only_reads (wrong magic) how (inl is) = ap is_write is
only_reads (wrong magic) how (inr is) = ap is_write is
only_reads (leaves rest) how (inl is) = ap is_write is
only_reads (leaves rest) how (inr is) = ap is_write is
only_reads (asks r payload rest) how only = absurd only

pub no_write_fault : (left later : Option (List ℕ)) (how : End) → NoRequest left later how → how ≡ end.WriteFault → ⊥
unfolding is_write
no_write_fault left later how none is = false≢true (sym (only_reads (start none.taken) how none.alone) ∙ ap is_write is)

pub no_read_fault : (held now : Option (List ℕ)) (whole : List ℕ) (how : End) → Replied held now whole (Some how) → how ≡ end.ReadFault → ⊥
unfolding is_read
no_read_fault held now whole how (front, inl fault) is = false≢true (sym (ap is_read fault) ∙ ap is_read is)
no_read_fault held now whole how (front, inr fault) is = false≢true (sym (ap is_read fault) ∙ ap is_read is)

end_of_quiet : (stop : Stop) → is_write (end_of stop false) ≡ false
unfolding is_write
end_of_quiet Ended = refl
end_of_quiet Failed = refl

pub cut_no_write : (left later : Option (List ℕ)) (n : ℕ) (how : End) → CutsPayload left later n how → how ≡ end.WriteFault → ⊥
unfolding is_write
cut_no_write left later n how cut is = false≢true (sym (end_of_quiet cut.stop) ∙ ap is_write (sym cut.ends ∙ is))

-- what failed in a call, if anything
some_is : {x y : End} → Some x ≡ Some y → x ≡ y
some_is is = cc

pub quiet : (n : ℕ) (how failed : End) → (how ≡ failed → ⊥) → HasCause n n (Some how ≡ Some failed)
quiet n how failed isnt = record { later = omega arith; rose = λ is. absurd (isnt (some_is is)) }

pub same_cause : (n m : ℕ) (A : Type 0) (how : End) (r : Result A End) → r ≡ Err how → HasCause n m (r ≡ Err end.ReadFault)
    → HasCause n m (Some how ≡ Some end.ReadFault)
same_cause n m A how r is cause = record { later = cause.later; rose = λ same. cause.rose (is ∙ ap Err (some_is same)) }

pub later_cause : (a b c : ℕ) (P Q : Type 0) → HasCause a b P → HasCause b c Q → HasCause a c Q
later_cause a b c P Q first more = record {
  later = omega (arith, first.later, more.later);
  rose = λ is. let rose : Rose b c = more.rose is in omega (arith, first.later, rose);
}

pub other_cause : (n m : ℕ) (P : Type 0) (r : Option End) (failed : End) → (r ≡ Some failed → ⊥) → HasCause n m P → HasCause n m (r ≡ Some failed)
other_cause n m P r failed isnt cause = record { later = cause.later; rose = λ is. absurd (isnt is) }

pub acts_no_read : {S C : Type 0} (sector : ℕ) (f : Frame) (v w : View (State S C) Entry) (held now : Option (List ℕ)) (how : Option End)
    → Acts sector f v w held now how → how ≡ Some end.ReadFault → ⊥
acts_no_read sector f v w held now None acts is = absurd (no_some is)
  where
    no_some : {x : End} → None ≡ Some x → ⊥
    no_some is = cc
acts_no_read sector f v w held now (Some how) acts is = no_read_fault held now acts.whole how acts.replied (some_is is)
