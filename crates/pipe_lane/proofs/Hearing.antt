-- What was taken of a client's bytes, request by request.
--
-- A request that was taken whole is the first of all bytes that begin so, whatever follows. So the requests that were taken
-- one after another are the first ones of all bytes, and once no other can come, they are all.
use Rattle.std.proofs.Common.{◌≡◌, ℕ, ◌==◌, false, List, [], ◌∷◌, ◌++◌, Option, Some, None, IfSome, append_assoc, append-nil, refl, sym, ap, ◌∙◌, subst, arith}
use Rattle.std.specs.Prelude.{Err, Result}
use Rattle.vc_base.specs.Faults.{HasCause, Rose}
use Rattle.nbd_wire.proofs.FirstAndRest.{frames-start}
use Rattle.nbd_wire.specs.Frames.{after_head, asks, followed, Frame, Frames, frames, leaves, over, payload_length, short, Start, start, wrong}
use Rattle.nbd_wire.specs.declared.end.End.{End}
use Rattle.nbd_wire.specs.declared.end.End.TheVariants as end
use Rattle.nbd_wire.specs.declared.request.Request.{Request}
use Rattle.vc_outside.specs.Told.{Shrinks}
use Rattle.nbd_session.specs.Taken.{NoRequest, OnlyEnds, TakesHead, TakesPayload}
use Rattle.nbd_session.proofs.Starts.{after_whole, start_head}
use Rattle.nbd_session.proofs.Streams.{shrinks_none, shrinks_twice}
use Rattle.pipe_lane.specs.Heard.{AreAll, before, Heard, HeardAll}
use Rattle.pipe_lane.specs.Queue.{IsQueued, TakesRequest}
use Rattle.pipe_lane.specs.declared.queued.Next.TheVariants as next
use Rattle.pipe_lane.specs.declared.queued.Queued.{Queued}

-- a head, its payload, and any bytes
module _ (a b c : Option (List ℕ)) (r : Request) (h : TakesHead a b r) (isnt : (r.kind == 2) ≡ false) (kept : Option (List ℕ))
    (p : TakesPayload b c (payload_length r) kept) where
  starts : (rest : List ℕ) → start ((h.head ++ p.payload) ++ rest) ≡ asks r p.payload rest
  starts rest =
      ap start (append_assoc h.head p.payload rest) ∙ start_head h.head (p.payload ++ rest) h.size h.magic
      ∙ ap (λ (q : Request). after_head q (p.payload ++ rest)) h.fields ∙ after_whole r p.payload rest isnt p.size

  pub request_taken : (sector : ℕ) (q : Queued) → IsQueued sector (record { request = r; payload = p.payload }) q → TakesRequest sector a c q
  request_taken sector q is = record {
    frame = record { request = r; payload = p.payload };
    taken = h.head ++ p.payload;
    input = shrinks_twice a b c h.head p.payload h.input p.input;
    starts = starts;
    is = is;
  }

-- nothing yet
pub heard_none : (left : Option (List ℕ)) → Heard left left []
heard_none left = record { taken = []; input = shrinks_none left; frames_are = λ rest. refl }

both_before : (fs gs : List Frame) (more : Frames) → before fs (before gs more) ≡ before (fs ++ gs) more
both_before fs gs more =
    ap (λ (l : List Frame). record { requests = l; last = more.last; unread = more.unread }) (sym (append_assoc fs gs more.requests))

first_is : (sector : ℕ) (b c : Option (List ℕ)) (q : Queued) (t : TakesRequest sector b c q) (rest : List ℕ)
    → frames (t.taken ++ rest) ≡ before (t.frame ∷ []) (frames rest)
first_is sector b c q t rest =
    frames-start (t.taken ++ rest) ∙ ap (λ (s : Start). followed s frames) (t.starts rest)

-- one more request
pub heard_more : (sector : ℕ) (a b c : Option (List ℕ)) (fs : List Frame) (q : Queued) → Heard a b fs → (t : TakesRequest sector b c q)
    → Heard a c (fs ++ t.frame ∷ [])
heard_more sector a b c fs q so_far t = record {
  taken = so_far.taken ++ t.taken;
  input = shrinks_twice a b c so_far.taken t.taken so_far.input t.input;
  frames_are = λ rest.
      ap frames (append_assoc so_far.taken t.taken rest) ∙ so_far.frames_are (t.taken ++ rest)
      ∙ ap (before fs) (first_is sector b c q t rest) ∙ both_before fs (t.frame ∷ []) (frames rest);
}

-- bytes without a request
none_by : (s : Start) (how : End) → OnlyEnds s how → AreAll [] how (followed s frames)
none_by over how only = (refl, only)
none_by short how only = (refl, only)
none_by (wrong magic) how only = (refl, only)
none_by (leaves rest) how only = (refl, only)
none_by (asks r payload rest) how only = absurd only

none_left : (bytes : List ℕ) (how : End) → OnlyEnds (start bytes) how → AreAll [] how (frames bytes)
none_left bytes how only = subst (AreAll [] how) (sym (frames-start bytes)) (none_by (start bytes) how only)

all_before : (fs : List Frame) (how : End) (more : Frames) → AreAll [] how more → AreAll fs how (before fs more)
all_before fs how more all = (ap (λ (l : List Frame). fs ++ l) all.0 ∙ append-nil fs, all.1)

-- the end
module _ (a b c : Option (List ℕ)) (fs : List Frame) (how : End) (so_far : Heard a b fs) (none : NoRequest b c how) where
  after : (bytes : List ℕ) → OnlyEnds (start bytes) how → AreAll fs how (frames (so_far.taken ++ bytes))
  after bytes only = subst (AreAll fs how) (sym (so_far.frames_are bytes)) (all_before fs how (frames bytes) (none_left bytes how only))

  whole_after : (a b : Option (List ℕ)) → Shrinks a b so_far.taken → IfSome b (λ bytes. ¬ (how ≡ end.ReadFault) → OnlyEnds (start bytes) how)
      → IfSome a (λ bytes. ¬ (how ≡ end.ReadFault) → AreAll fs how (frames bytes))
  whole_after None b input only = tt
  whole_after (Some a) None input only = absurd input
  whole_after (Some a) (Some b) input only = λ known. subst (λ (p : List ℕ). AreAll fs how (frames p)) (sym input) (after b (only known))

  pub heard_all : HeardAll a c fs how
  heard_all = record {
    taken = so_far.taken ++ none.taken;
    input = shrinks_twice a b c so_far.taken none.taken so_far.input none.input;
    are = after none.taken none.alone;
    unread = ap (λ (all : Frames). all.unread) (so_far.frames_are none.taken) ∙ none.unread;
    whole = whole_after a b so_far.input none.whole;
  }

-- what failed so far, if anything
asked_isnt : (q : Queued) (how : End) → next.Asked q ≡ next.Over how → ⊥
asked_isnt q how is = cc

over_is : (how other : End) → next.Over how ≡ next.Over other → how ≡ other
over_is how other is = cc

pub asked_cause : (a b c : ℕ) (P Q : Type 0) (q : Queued) → HasCause a b P → HasCause b c Q → HasCause a c (next.Asked q ≡ next.Over end.ReadFault)
asked_cause a b c P Q q first more = record {
  later = omega (arith, first.later, more.later);
  rose = λ is. absurd (asked_isnt q end.ReadFault is);
}

pub over_cause : (a b c : ℕ) (P : Type 0) (how : End) (r : Result Queued End) → r ≡ Err how → HasCause a b P → HasCause b c (r ≡ Err end.ReadFault)
    → HasCause a c (next.Over how ≡ next.Over end.ReadFault)
over_cause a b c P how r is first more = record {
  later = omega (arith, first.later, more.later);
  rose = λ same. let rose : Rose b c = more.rose (is ∙ ap Err (over_is how end.ReadFault same)) in omega (arith, first.later, rose);
}
