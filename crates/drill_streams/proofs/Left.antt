-- What done requests leave: each write its Put and its Done, each read a Read.
--
-- The reply to a request has the error number of its outcome, so replies that all say 0 are those of outcomes Done. The
-- data of a read has the length that was asked, so the replies are cut where the definition of AreDone cuts them.
use Rattle.std.proofs.Common.{◌≡◌, ◌<◌, ℕ, zero, suc, ◌+◌, ◌/◌, ◌==◌, if◌then◌else◌, List, [], ◌∷◌, ◌++◌, length, take, drop, get_or, append_assoc, length-append, refl, sym, ap, ◌∙◌, subst, arith, inl, inr}
use Rattle.std.proofs.lemmas.List.{drop_at}
use Rattle.std.proofs.lemmas.List.Elements.{All-append, All-nil}
use Rattle.nbd_wire.specs.Classes.{asked}
use Rattle.nbd_wire.specs.declared.ask.Ask.{Ask}
use Rattle.nbd_wire.specs.declared.end.End.TheVariants as end
use Rattle.nbd_wire.specs.declared.reply.Outcome.{Outcome}
use Rattle.nbd_wire.specs.declared.reply.Outcome.TheVariants.{Done, Malformed, ReadBeyond, WriteBeyond, Denied, Frozen, Fault, NoMemory}
use Rattle.nbd_wire.specs.Frames.{Frame}
use Rattle.nbd_wire.specs.Replies.{AnsweredOf, error_of, GoesOn, Leaves}
use Rattle.nbd_wire.specs.Wire.{reply}
use Rattle.sector_model.specs.declared.entry.Event.{Event}
use Rattle.sector_model.specs.declared.entry.Event.TheVariants as event
use Rattle.drill_streams.specs.Done.{AreDone, BeginDone, data_length, IsCalm, Keeps, put_by, puts}
use Rattle.drill_streams.specs.Drill.{requests, requests_from, Write, writes_in, written_by}
use Rattle.drill_streams.proofs.OneByOne.{Each, each_request}
use Rattle.drill_streams.proofs.Plain.{IsPlain, IsRead, IsWrite, plain_request}

-- ---- events

pub puts-append : (es more : List Event) → puts (es ++ more) ≡ puts es ++ puts more
unfolding puts
puts-append [] more = refl
puts-append (e ∷ es) more =
    ap (λ (ws : List Write). put_by e ++ ws) (puts-append es more) ∙ sym (append_assoc (put_by e) (puts es) (puts more))

calm_cons : (e : Event) (es : List Event) → Keeps e → IsCalm es → IsCalm (e ∷ es)
calm_cons e es keeps calm zero d inside = keeps
calm_cons e es keeps calm (suc k) d inside = calm k d (omega (arith, inside))

-- ---- outcomes

-- no other outcome than Done has the error number 0
done_alone : (o : Outcome) → error_of o ≡ 0 → o ≡ Done
done_alone Done is = refl
done_alone Malformed is = absurd (omega (arith, is))
done_alone ReadBeyond is = absurd (omega (arith, is))
done_alone WriteBeyond is = absurd (omega (arith, is))
done_alone Denied is = absurd (omega (arith, is))
done_alone Frozen is = absurd (omega (arith, is))
done_alone Fault is = absurd (omega (arith, is))
done_alone NoMemory is = absurd (omega (arith, is))

-- the error number is below 256
small_error : (o : Outcome) → get_or (reply (error_of o) 0) 7 0 ≡ error_of o
small_error Done = refl
small_error Malformed = refl
small_error ReadBeyond = refl
small_error WriteBeyond = refl
small_error Denied = refl
small_error Frozen = refl
small_error Fault = refl
small_error NoMemory = refl

-- the first 16 bytes of a reply with data, and others after it
first_of_reply : (error cookie : ℕ) (content rest : List ℕ) → take 16 ((reply error cookie ++ content) ++ rest) ≡ reply error cookie
first_of_reply error cookie content rest = refl

-- the error number stands in the same place whatever the cookie is
same_error : (error cookie : ℕ) → get_or (reply error cookie) 7 0 ≡ get_or (reply error 0) 7 0
same_error error cookie = refl

outcome_done : (o : Outcome) (cookie : ℕ) (content rest : List ℕ) → take 16 ((reply (error_of o) cookie ++ content) ++ rest) ≡ reply 0 cookie → o ≡ Done
outcome_done o cookie content rest is =
    done_alone o (sym (small_error o) ∙ ap (λ (xs : List ℕ). get_or xs 7 0) (sym (first_of_reply (error_of o) cookie content rest) ∙ is))

-- ---- one request

-- what a request left, and the length of its data
record Left (f : Frame) (es : List Event) (content : List ℕ) : Type 0 where
  puts_one : puts es ≡ written_by f
  calm : IsCalm es
  data_size : length content ≡ data_length f.request

module _ (f : Frame) (plain : IsPlain f) (es : List Event) (content : List ℕ) (left : Leaves 512 (asked 512 f.request) f.payload Done es content) where
  left_read : IsRead f → Left f es content
  unfolding puts
  left_read reads =
      let l = subst (λ (a : Ask). Leaves 512 a f.payload Done es content) reads.asks left in
      record {
        puts_one = ap puts l.0 ∙ sym (ap (λ (k : ℕ). if k == 1 then (record { first = f.request.offset / 512; bytes = f.payload }) ∷ [] else []) reads.kind);
        calm = subst IsCalm (sym l.0) (calm_cons (event.Read (f.request.offset / 512) content) [] tt (All-nil Keeps));
        data_size = l.1 ∙ sym plain.whole ∙ sym (ap (λ (k : ℕ). if k == 0 then f.request.length else 0) reads.kind);
      }

  left_write : IsWrite f → Left f es content
  unfolding puts
  left_write writes =
      let l = subst (λ (a : Ask). Leaves 512 a f.payload Done es content) writes.asks left in
      let first : ℕ = f.request.offset / 512 in
      let count : ℕ = f.request.length / 512 in
      let two : es ≡ event.Put first f.payload ∷ event.Done first count ∷ []
      = l.0.1 ∙ ap (λ (later : List Event). event.Put first f.payload ∷ event.Done first count ∷ later) l.0.2 in
      record {
        puts_one = ap puts two ∙ sym (ap (λ (k : ℕ). if k == 1 then (record { first = first; bytes = f.payload }) ∷ [] else []) writes.kind);
        calm = subst IsCalm (sym two)
            (calm_cons (event.Put first f.payload) (event.Done first count ∷ []) tt (calm_cons (event.Done first count) [] tt (All-nil Keeps)));
        data_size = ap length l.1 ∙ sym (ap (λ (k : ℕ). if k == 0 then f.request.length else 0) writes.kind);
      }

  left_one : Left f es content
  left_one = elim plain.either [ inl reads ↦ left_read reads | inr writes ↦ left_write writes ]

-- ---- all requests

-- a history's events as the writes of these requests, with nothing lost
pub record AllWritten (fs : List Frame) (es : List Event) : Type 0 where
  pub written : puts es ≡ writes_in fs
  pub calm : IsCalm es

module _ (f : Frame) (fs : List Frame) (plain : IsPlain f) (es : List Event) (n : ℕ) (bytes : List ℕ)
    (said : BeginDone f.request bytes) (others : AreDone fs (drop (16 + data_length f.request) bytes))
    (goes : GoesOn 512 f (λ es n bytes. AnsweredOf 512 fs end.Done es n bytes end.Done) es n bytes) where
  reply_is : bytes ≡ (reply (error_of goes.answered.outcome) f.request.cookie ++ goes.answered.content) ++ goes.replies
  reply_is = goes.written ∙ ap (λ (xs : List ℕ). xs ++ goes.replies) goes.answered.replied

  was_done : goes.answered.outcome ≡ Done
  was_done =
      outcome_done goes.answered.outcome f.request.cookie goes.answered.content goes.replies
      (sym (ap (take 16) reply_is) ∙ said.done)

  left_it : Left f goes.own goes.answered.content
  left_it =
      left_one f plain goes.own goes.answered.content
      (subst (λ (o : Outcome). Leaves 512 (asked 512 f.request) f.payload o goes.own goes.answered.content) was_done goes.answered.leaves)

  rest_is : drop (16 + data_length f.request) bytes ≡ goes.replies
  rest_is =
      ap (drop (16 + data_length f.request)) reply_is
      ∙ drop_at (reply (error_of goes.answered.outcome) f.request.cookie ++ goes.answered.content) goes.replies (16 + data_length f.request)
      (length-append (reply (error_of goes.answered.outcome) f.request.cookie) goes.answered.content ∙ ap (λ (m : ℕ). 16 + m) left_it.data_size)

  others_done : AreDone fs goes.replies
  others_done = subst (AreDone fs) rest_is others

  with_first : AllWritten fs goes.later → AllWritten (f ∷ fs) es
  unfolding writes_in
  with_first all = record {
    written = ap puts goes.events ∙ puts-append goes.own goes.later ∙ ap (λ (ws : List Write). ws ++ puts goes.later) left_it.puts_one
        ∙ ap (λ (ws : List Write). written_by f ++ ws) all.written;
    calm = subst IsCalm (sym goes.events) (All-append Keeps goes.own goes.later left_it.calm all.calm);
  }

none_written : (es : List Event) → es ≡ [] → AllWritten [] es
unfolding writes_in puts
none_written es none = record { written = ap puts none; calm = subst IsCalm (sym none) (All-nil Keeps) }

pub all_written : (fs : List Frame) → Each IsPlain fs → (es : List Event) (n : ℕ) (bytes : List ℕ) → n ≡ length fs → AreDone fs bytes
    → AnsweredOf 512 fs end.Done es n bytes end.Done → AllWritten fs es
unfolding AreDone
all_written [] plain es n bytes count done over = none_written es over.events
all_written (f ∷ fs) plain es n bytes count done (inl goes) =
    with_first f fs plain.0 es n bytes done.0 done.1 goes
    (all_written fs plain.1 goes.later goes.count goes.replies (omega (arith, count, goes.counted))
    (others_done f fs plain.0 es n bytes done.0 done.1 goes) goes.others)
all_written (f ∷ fs) plain es n bytes count done (inr stops) = absurd (omega (arith, count, stops.none))

twelve : (n c : ℕ) → 12 ≡ length (requests n c)
unfolding requests_from
twelve n c = refl

-- the result
pub client_written : (n c : ℕ) → c < 3 → (bytes : List ℕ) → AreDone (requests n c) bytes
    → (es : List Event) → AnsweredOf 512 (requests n c) end.Done es 12 bytes end.Done → AllWritten (requests n c) es
client_written n c client bytes done es answered =
    all_written (requests n c) (each_request n c IsPlain 0 12 (omega arith) (λ r index. plain_request c r _ client index)) es 12 bytes
    (twelve n c) done answered
