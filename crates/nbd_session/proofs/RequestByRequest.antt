-- A session, request by request.
--
-- What was done so far is a promise: whatever is answered of the bytes still to come, is answered of all bytes, after what
-- was done. So a request more composes two promises, and the end of the session is what they are made for.
use Rattle.std.proofs.Common.{◌≡◌, ℕ, suc, ◌+◌, List, [], ◌++◌, Option, Some, None, IfSome, append_assoc, refl, sym, ap, ◌∙◌, subst, arith}
use Rattle.std.proofs.lemmas.List.{append-nil}
use Rattle.nbd_wire.specs.Frames.{Frame, frames, Start, over, short, wrong, leaves, asks, start}
use Rattle.nbd_wire.specs.Replies.{AreAnswered, Stops}
use Rattle.nbd_wire.specs.declared.end.End.{End}
use Rattle.nbd_wire.specs.declared.end.End.TheVariants as end
use Rattle.nbd_wire.proofs.AnsweredOnward.{answered_end, answered_more, answered_stops, unread-start}
use Rattle.sector_model.specs.declared.entry.Event.{Event}
use Rattle.vc_outside.specs.Told.{Grows, Shrinks}
use Rattle.nbd_session.specs.Session.{Serves}
use Rattle.nbd_session.specs.Laws.Onward.{Answers, Onward}
use Rattle.nbd_session.specs.Taken.{NoRequest, OnlyEnds}
use Rattle.nbd_session.proofs.Streams.{grows_none, grows_twice, shrinks_none, shrinks_twice}

-- at the start nothing was done
pub onward_none : (sector : ℕ) (left held : Option (List ℕ)) → Onward sector left left held held [] 0
onward_none sector left held = record {
  taken = [];
  written = [];
  input = shrinks_none left;
  output = grows_none held;
  goes = λ bytes more k replies how answered. subst (λ (m : ℕ). AreAnswered sector (frames bytes) more m replies how) (omega arith) answered;
  unread = λ bytes. refl;
}

module _ (sector : ℕ) (a b c h i j : Option (List ℕ)) (es own : List Event) (n : ℕ) (so_far : Onward sector a b h i es n) where
  -- a request more
  pub onward_more : Answers sector b c i j own → Onward sector a c h j (es ++ own) (n + 1)
  onward_more one = record {
    taken = so_far.taken ++ one.taken;
    written = so_far.written ++ one.written;
    input = shrinks_twice a b c so_far.taken one.taken so_far.input one.input;
    output = grows_twice h i j so_far.written one.written so_far.output one.output;
    goes = λ bytes more k replies how answered.
        subst (λ (p : List ℕ). AreAnswered sector (frames p) ((es ++ own) ++ more) ((n + 1) + k) ((so_far.written ++ one.written) ++ replies) how)
        (sym (append_assoc so_far.taken one.taken bytes))
        (subst (λ (p : List Event). AreAnswered sector (frames (so_far.taken ++ (one.taken ++ bytes))) p ((n + 1) + k) ((so_far.written ++ one.written) ++ replies) how)
        (sym (append_assoc es own more))
        (subst (λ (p : List ℕ). AreAnswered sector (frames (so_far.taken ++ (one.taken ++ bytes))) (es ++ (own ++ more)) ((n + 1) + k) p how)
        (sym (append_assoc so_far.written one.written replies))
        (subst (λ (m : ℕ). AreAnswered sector (frames (so_far.taken ++ (one.taken ++ bytes))) (es ++ (own ++ more)) m (so_far.written ++ (one.written ++ replies)) how)
        (omega arith)
        (so_far.goes (one.taken ++ bytes) (own ++ more) (suc k) (one.written ++ replies) how
        (answered_more sector (one.taken ++ bytes) one.frame.request one.frame.payload bytes own more k one.written replies how
        (one.starts bytes) one.answered answered)))));
    unread = λ bytes. ap (λ (p : List ℕ). (frames p).unread) (append_assoc so_far.taken one.taken bytes) ∙ so_far.unread (one.taken ++ bytes)
        ∙ unread-start (one.taken ++ bytes) (asks one.frame.request one.frame.payload bytes) (one.starts bytes);
  }

  -- the end
  module _ (how : End) where
    whole_end : (written : List ℕ) (a b : Option (List ℕ)) (taken : List ℕ) → Shrinks a b taken
        → ((bytes : List ℕ) → AreAnswered sector (frames bytes) own 0 written how → AreAnswered sector (frames (taken ++ bytes)) (es ++ own) n (so_far.written ++ written) how)
        → IfSome b (λ bytes. ¬ (how ≡ end.ReadFault) → AreAnswered sector (frames bytes) own 0 written how)
        → IfSome a (λ bytes. ¬ (how ≡ end.ReadFault) → AreAnswered sector (frames bytes) (es ++ own) n (so_far.written ++ written) how)
    whole_end written None b taken input goes last = tt
    whole_end written (Some a) None taken input goes last = absurd input
    whole_end written (Some a) (Some b) taken input goes last = λ known.
        subst (λ (p : List ℕ). AreAnswered sector (frames p) (es ++ own) n (so_far.written ++ written) how) (sym input) (goes b (last known))

    pub onward_end : Serves sector b c i j own 0 how → Serves sector a c h j (es ++ own) n how
    onward_end last =
        let goes : (bytes : List ℕ) → AreAnswered sector (frames bytes) own 0 last.written how
        → AreAnswered sector (frames (so_far.taken ++ bytes)) (es ++ own) n (so_far.written ++ last.written) how
        = λ bytes answered. subst (λ (m : ℕ). AreAnswered sector (frames (so_far.taken ++ bytes)) (es ++ own) m (so_far.written ++ last.written) how)
        (omega arith) (so_far.goes bytes own 0 last.written how answered) in
        record {
          taken = so_far.taken ++ last.taken;
          written = so_far.written ++ last.written;
          input = shrinks_twice a b c so_far.taken last.taken so_far.input last.input;
          output = grows_twice h i j so_far.written last.written so_far.output last.output;
          answered = goes last.taken last.answered;
          unread = so_far.unread last.taken ∙ last.unread;
          whole = whole_end last.written a b so_far.taken so_far.input goes last.whole;
        }

-- bytes without a request
pub only_ends : (sector : ℕ) (bytes : List ℕ) (s : Start) (how : End) → start bytes ≡ s → OnlyEnds s how → AreAnswered sector (frames bytes) [] 0 [] how
only_ends sector bytes over how is only = answered_end sector bytes over end.Done how is refl refl only
only_ends sector bytes short how is only = answered_end sector bytes short end.Cut how is refl refl only
only_ends sector bytes (wrong magic) how is only = answered_end sector bytes (wrong magic) (end.BadMagic magic) how is refl refl only
only_ends sector bytes (leaves rest) how is only = answered_end sector bytes (leaves rest) end.Done how is refl refl only
only_ends sector bytes (asks r payload rest) how is only = absurd only

whole_none : (sector : ℕ) (left : Option (List ℕ)) (how : End) → IfSome left (λ bytes. ¬ (how ≡ end.ReadFault) → OnlyEnds (start bytes) how)
    → IfSome left (λ bytes. ¬ (how ≡ end.ReadFault) → AreAnswered sector (frames bytes) [] 0 [] how)
whole_none sector None how only = tt
whole_none sector (Some bytes) how only = λ known. only_ends sector bytes (start bytes) how refl (only known)

pub serves_none : (sector : ℕ) (left later held : Option (List ℕ)) (how : End) → NoRequest left later how → Serves sector left later held held [] 0 how
serves_none sector left later held how none = record {
  taken = none.taken;
  written = [];
  input = none.input;
  output = grows_none held;
  answered = only_ends sector none.taken (start none.taken) how refl none.alone;
  unread = none.unread;
  whole = whole_none sector left how none.whole;
}

-- a request whose reply failed
module _ (sector : ℕ) (left later held now : Option (List ℕ)) (es : List Event) (how : End) (f : Frame) (taken written : List ℕ)
    (starts : (rest : List ℕ) → start (taken ++ rest) ≡ asks f.request f.payload rest) (stops : Stops sector f es 0 written how) where
  whole_stop : (left later : Option (List ℕ)) → Shrinks left later taken → IfSome left (λ bytes. ¬ (how ≡ end.ReadFault) → AreAnswered sector (frames bytes) es 0 written how)
  whole_stop None later input = tt
  whole_stop (Some bytes) None input = absurd input
  whole_stop (Some bytes) (Some rest) input = λ known.
      answered_stops sector bytes es 0 written how f.request f.payload rest (ap start input ∙ starts rest) stops

  pub serves_stop : Shrinks left later taken → Grows held now written → Serves sector left later held now es 0 how
  serves_stop input output = record {
    taken = taken;
    written = written;
    input = input;
    output = output;
    answered = answered_stops sector taken es 0 written how f.request f.payload []
        (ap start (sym (append-nil taken)) ∙ starts []) stops;
    unread = ap (λ (p : List ℕ). (frames p).unread) (sym (append-nil taken)) ∙ unread-start (taken ++ []) (asks f.request f.payload []) (starts []);
    whole = whole_stop left later input;
  }
