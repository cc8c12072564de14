-- The answers to the first request, and then to the others.
--
-- If bytes begin with a request that was answered, and the requests of the rest were, then those of all bytes were. If
-- the reply to the first one failed, or if no request is there, that is all.
use Rattle.std.proofs.Common.{◌≡◌, ◌⊎◌, ℕ, suc, List, [], ◌++◌, refl, sym, ap, ◌∙◌, subst, inl, inr}
use Rattle.nbd_wire.specs.declared.end.End.{End}
use Rattle.nbd_wire.specs.declared.end.End.TheVariants as end
use Rattle.nbd_wire.specs.declared.request.Request.{Request}
use Rattle.nbd_wire.specs.Frames.{followed, Frame, Frames, frames, Start, asks, start}
use Rattle.nbd_wire.specs.Replies.{AnsweredOf, IsAnswered, IsOver, AreAnswered, Stops}
use Rattle.nbd_wire.proofs.FirstAndRest.{frames-start}
use Rattle.sector_model.specs.declared.entry.Event.{Event}

module _ (sector : ℕ) (bytes : List ℕ) (es : List Event) (n : ℕ) (ws : List ℕ) (how : End) where
  -- what holds of the first request and those after it holds of all
  of_first : (s : Start) → start bytes ≡ s → AreAnswered sector (followed s frames) es n ws how → AreAnswered sector (frames bytes) es n ws how
  of_first s is answers = subst (λ (fs : Frames). AreAnswered sector fs es n ws how) (sym (frames-start bytes ∙ ap (λ (s : Start). followed s frames) is)) answers

  pub answered_stops : (r : Request) (payload rest : List ℕ) → start bytes ≡ asks r payload rest
      → Stops sector (record { request = r; payload = payload }) es n ws how → AreAnswered sector (frames bytes) es n ws how
  answered_stops r payload rest is stops = of_first (asks r payload rest) is (inr stops)

pub answered_more : (sector : ℕ) (bytes : List ℕ) (r : Request) (payload rest : List ℕ) (own es : List Event) (n : ℕ) (answer ws : List ℕ) (how : End)
    → start bytes ≡ asks r payload rest
    → IsAnswered sector (record { request = r; payload = payload }) own answer
    → AreAnswered sector (frames rest) es n ws how → AreAnswered sector (frames bytes) (own ++ es) (suc n) (answer ++ ws) how
answered_more sector bytes r payload rest own es n answer ws how is answered answers =
    of_first sector bytes (own ++ es) (suc n) (answer ++ ws) how (asks r payload rest) is (inl (record {
      own = own;
      own_reply = answer;
      answered = answered;
      later = es;
      count = n;
      replies = ws;
      others = answers;
      events = refl;
      counted = refl;
      written = refl;
    }))

-- no request is there
pub answered_end : (sector : ℕ) (bytes : List ℕ) (s : Start) (last how : End)
    → start bytes ≡ s → (followed s frames).requests ≡ [] → (followed s frames).last ≡ last
    → (how ≡ last) ⊎ (how ≡ end.ReadFault) → AreAnswered sector (frames bytes) [] 0 [] how
answered_end sector bytes s last how is none ends cause =
    let same : frames bytes ≡ followed s frames = frames-start bytes ∙ ap (λ (s : Start). followed s frames) is in
    subst (λ (fs : List Frame). AnsweredOf sector fs (frames bytes).last [] 0 [] how)
    (sym (ap (λ (fs : Frames). fs.requests) same ∙ none))
    (subst (λ (e : End). IsOver e [] 0 [] how) (sym (ap (λ (fs : Frames). fs.last) same ∙ ends))
    (record { events = refl; none = refl; nothing = refl; cause = cause }))

-- what nobody is to read of bytes that start so
pub unread-start : (bytes : List ℕ) (s : Start) → start bytes ≡ s → (frames bytes).unread ≡ (followed s frames).unread
unread-start bytes s is = ap (λ (fs : Frames). fs.unread) (frames-start bytes ∙ ap (λ (s : Start). followed s frames) is)
