-- What is told of a session, wave by wave.
--
-- Whatever is told of the requests that follow is told of all, once the waves so far are put before it. At the end no request
-- follows, or the replies stop inside the wave that follows.
use Rattle.std.proofs.Common.{◌≡◌, ◌⊎◌, ℕ, ◌+◌, List, [], ◌∷◌, ◌++◌, length, get_or, take, Option, Some, None, IfSome, append_assoc, append-nil, refl, sym, ap, ◌∙◌, subst, arith, inl, inr}
use Rattle.std.specs.List.{concat}
use Rattle.vc_outside.specs.Told.{Grows, Shrinks}
use Rattle.nbd_session.proofs.Streams.{grows_none, grows_twice}
use Rattle.nbd_wire.specs.Frames.{Frame, Frames, frames}
use Rattle.nbd_wire.specs.declared.end.End.{End}
use Rattle.nbd_wire.specs.declared.end.End.TheVariants as end
use Rattle.sector_model.specs.declared.entry.Entry.{Entry}
use Rattle.pipe_lane.specs.Heard.{Heard, HeardAll}
use Rattle.pipe_lane.specs.Queue.{IsNext}
use Rattle.pipe_lane.specs.declared.queued.Next.{Next}
use Rattle.pipe_lane.specs.declared.queued.Next.TheVariants as next
use Rattle.pipe_lane.proofs.Hearing.{heard_none}
use Rattle.pipe_session.specs.ToldPipe.{AreCarriedOut, GoesOn, HasFailed, IsOver, ServesPipe, Stops, ToldPipe, WavesTold}
use Rattle.pipe_session.specs.Waves.{waves}
use Rattle.pipe_session.specs.Laws.Sending.{SentInPart}
use Rattle.pipe_session.specs.Laws.Taking.{CanFollow}
use Rattle.pipe_session.specs.Laws.Waved.{Onward}

-- requests of bytes: fs, and others that may follow
pub record Follows (sector : ℕ) (n : Next) (fs : List Frame) (all : Frames) : Type 0 where
  pub rest : List Frame
  pub can : CanFollow sector n rest
  pub are : all.requests ≡ fs ++ rest

-- what was taken of a source, and what is next
pub record Reads (sector : ℕ) (left later : Option (List ℕ)) (fs : List Frame) (n : Next) : Type 0 where
  pub taken : List ℕ
  pub input : Shrinks left later taken
  pub unread : (frames taken).unread ≡ []
  pub follows : Follows sector n fs (frames taken)
  pub whole : IfSome left (λ bytes. ¬ (n ≡ next.Over end.ReadFault) → Follows sector n fs (frames bytes))

-- the requests fs of bytes, whatever follows
module _ (left later : Option (List ℕ)) (fs : List Frame) (h : Heard left later fs) where
  pub heard_requests : (rest : List ℕ) → (frames (h.taken ++ rest)).requests ≡ fs ++ (frames rest).requests
  heard_requests rest = ap (λ (all : Frames). all.requests) (h.frames_are rest)

  pub taken_requests : (frames h.taken).requests ≡ fs ++ []
  taken_requests = ap (λ (l : List ℕ). (frames l).requests) (sym (append-nil h.taken)) ∙ heard_requests []

  pub taken_unread : (frames h.taken).unread ≡ []
  taken_unread = ap (λ (l : List ℕ). (frames l).unread) (sym (append-nil h.taken)) ∙ ap (λ (all : Frames). all.unread) (h.frames_are [])

all_known : (left later : Option (List ℕ)) (taken : List ℕ) (P : List ℕ → Type 0) → Shrinks left later taken → ((rest : List ℕ) → P (taken ++ rest))
    → IfSome left P
all_known None later taken P input all = tt
all_known (Some a) None taken P input all = absurd input
all_known (Some a) (Some b) taken P input all = subst P (sym input) (all b)

over_is : (how other : End) → next.Over how ≡ next.Over other → how ≡ other
over_is how other is = cc

if_more : {A : Type 0} (x : Option A) (P Q : A → Type 0) → ((a : A) → P a → Q a) → IfSome x P → IfSome x Q
if_more None P Q f p = tt
if_more (Some a) P Q f p = f a p

pub reads_of : (sector : ℕ) (left later : Option (List ℕ)) (fs : List Frame) (n : Next) → IsNext sector left later fs n → Reads sector left later fs n
reads_of sector left later fs next.Unknown is = record {
  taken = is.taken;
  input = is.input;
  unread = taken_unread left later fs is;
  follows = record { rest = []; can = tt; are = taken_requests left later fs is };
  whole = all_known left later is.taken (λ bytes. ¬ (next.Unknown ≡ next.Over end.ReadFault) → Follows sector next.Unknown fs (frames bytes)) is.input
      (λ rest known. record { rest = (frames rest).requests; can = tt; are = heard_requests left later fs is rest });
}
reads_of sector left later fs (next.Asked q) (f, queued, h) = record {
  taken = h.taken;
  input = h.input;
  unread = taken_unread left later (fs ++ f ∷ []) h;
  follows = record {
    rest = f ∷ [];
    can = queued.asks_so;
    are = taken_requests left later (fs ++ f ∷ []) h ∙ append_assoc fs (f ∷ []) [];
  };
  whole = all_known left later h.taken (λ bytes. ¬ (next.Asked q ≡ next.Over end.ReadFault) → Follows sector (next.Asked q) fs (frames bytes)) h.input
      (λ rest known. record {
        rest = f ∷ (frames rest).requests;
        can = queued.asks_so;
        are = heard_requests left later (fs ++ f ∷ []) h rest ∙ append_assoc fs (f ∷ []) (frames rest).requests;
      });
}
reads_of sector left later fs (next.Over how) h = record {
  taken = h.taken;
  input = h.input;
  unread = h.unread;
  follows = record { rest = []; can = refl; are = h.are.0 ∙ sym (append-nil fs) };
  whole = if_more left (λ bytes. ¬ (how ≡ end.ReadFault) → ((frames bytes).requests ≡ fs) × ((how ≡ (frames bytes).last) ⊎ (how ≡ end.ReadFault)))
      (λ bytes. ¬ (next.Over how ≡ next.Over end.ReadFault) → Follows sector (next.Over how) fs (frames bytes))
      (λ bytes known isnt. record { rest = []; can = refl; are = (known (λ is. isnt (ap next.Over is))).0 ∙ sym (append-nil fs) }) h.whole;
}

failed_of : (how : End) (rose : Type 0) → rose → (how ≡ end.WriteFault) ⊎ (how ≡ end.NoMemory) → HasFailed how rose
failed_of how rose is (inl fault) = subst (λ (e : End). HasFailed e rose) (sym fault) is
failed_of how rose is (inr none) = subst (λ (e : End). HasFailed e rose) (sym none) is

module _ (sector : ℕ) (ns : List ℕ) where
  -- nothing yet
  pub none_done : (left held : Option (List ℕ)) → Onward sector ns left left held held next.Unknown [] 0
  none_done left held = record {
    done = [];
    heard = heard_none left;
    written = [];
    output = grows_none held;
    goes = λ r can last more k replies how told. subst (λ (n : ℕ). WavesTold sector ns (waves sector (length ns) r) last more n replies how)
        (let e : k ≡ 0 + k = omega arith in e) told;
  }

  told_at : (ws vs : List (List Frame)) (last : End) (h g : List Entry) (n m : ℕ) (xs ys : List ℕ) (how : End) → ws ≡ vs → h ≡ g → n ≡ m → xs ≡ ys
      → WavesTold sector ns ws last h n xs how → WavesTold sector ns vs last g m ys how
  told_at ws vs last h g n m xs ys how same_waves same_history same_count same_bytes told =
      subst (λ (w : List (List Frame)). WavesTold sector ns w last g m ys how) same_waves
      (subst (λ (l : List Entry). WavesTold sector ns ws last l m ys how) same_history
      (subst (λ (k : ℕ). WavesTold sector ns ws last h k ys how) same_count
      (subst (λ (l : List ℕ). WavesTold sector ns ws last h n l how) same_bytes told)))

  -- one wave more
  module _ (left middle later held out now : Option (List ℕ)) (was after : Next) (h part : List Entry) (n : ℕ) (wave : List Frame)
      (rs : List (List ℕ)) (so_far : Onward sector ns left middle held out was h n)
      (heard : IsNext sector left later (so_far.done ++ wave) after)
      (starts : (r : List Frame) → CanFollow sector was (wave ++ r))
      (ends : (r : List Frame) → CanFollow sector after r → waves sector (length ns) (wave ++ r) ≡ wave ∷ waves sector (length ns) r)
      (carried : AreCarriedOut sector ns wave rs part) where
    go_on : (r : List Frame) (last : End) (more : List Entry) (k : ℕ) (replies : List ℕ) (how : End)
        → WavesTold sector ns (waves sector (length ns) r) last more k replies how
        → GoesOn sector ns wave (λ later count rest. WavesTold sector ns (waves sector (length ns) r) last later count rest how) (part ++ more)
        (length wave + k) (concat rs ++ replies)
    go_on r last more k replies how told = record {
      part = part;
      replies = rs;
      carried_out = carried;
      later = more;
      count = k;
      rest = replies;
      others = told;
      history = refl;
      counted = refl;
      written = refl;
    }

    pub wave_done : Grows out now (concat rs) → Onward sector ns left later held now after (h ++ part) (n + length wave)
    wave_done grows = record {
      done = so_far.done ++ wave;
      heard = heard;
      written = so_far.written ++ concat rs;
      output = grows_twice held out now so_far.written (concat rs) so_far.output grows;
      goes = λ r can last more k replies how told.
          told_at (waves sector (length ns) (so_far.done ++ (wave ++ r))) (waves sector (length ns) ((so_far.done ++ wave) ++ r)) last
          (h ++ (part ++ more)) ((h ++ part) ++ more) (n + (length wave + k)) ((n + length wave) + k)
          (so_far.written ++ (concat rs ++ replies)) ((so_far.written ++ concat rs) ++ replies) how
          (ap (waves sector (length ns)) (sym (append_assoc so_far.done wave r))) (sym (append_assoc h part more)) (omega arith)
          (sym (append_assoc so_far.written (concat rs) replies))
          (so_far.goes (wave ++ r) (starts r) last (part ++ more) (length wave + k) (concat rs ++ replies) how
          (subst (λ (w : List (List Frame)). WavesTold sector ns w last (part ++ more) (length wave + k) (concat rs ++ replies) how) (sym (ends r can))
          (inl (go_on r last more k replies how told))));
    }

    -- the replies stop in it
    module _ (m : ℕ) (how : End) (sent : SentInPart out now rs m how) where
      abbrev last_bytes : List ℕ
      last_bytes = concat (take m rs) ++ take sent.size (get_or rs m [])

      stop_here : Stops sector ns wave part m last_bytes how
      stop_here = record {
        replies = rs;
        carried_out = carried;
        refused = sent.refused;
        size = sent.size;
        in_part = sent.in_part;
        written = refl;
        cause = sent.cause;
      }

      stopped : (all : Frames) → Follows sector after (so_far.done ++ wave) all
          → ToldPipe sector ns all (h ++ part) (n + m) (so_far.written ++ last_bytes) how
      stopped all f =
          told_at (waves sector (length ns) (so_far.done ++ (wave ++ f.rest))) (waves sector (length ns) all.requests) all.last (h ++ part) (h ++ part)
          (n + m) (n + m) (so_far.written ++ last_bytes) (so_far.written ++ last_bytes) how
          (ap (waves sector (length ns)) (sym (f.are ∙ append_assoc so_far.done wave f.rest))) refl refl refl
          (so_far.goes (wave ++ f.rest) (starts f.rest) all.last part m last_bytes how
          (subst (λ (w : List (List Frame)). WavesTold sector ns w all.last part m last_bytes how) (sym (ends f.rest f.can))
          (inr stop_here)))

      pub serves_in_part : (rose : Type 0) → (after ≡ next.Over end.ReadFault → rose)
          → ServesPipe sector ns left later held now rose (h ++ part) (n + m) how
      serves_in_part rose rises =
          let reads = reads_of sector left later (so_far.done ++ wave) after heard in record {
            taken = reads.taken;
            written = so_far.written ++ last_bytes;
            input = reads.input;
            output = grows_twice held out now so_far.written last_bytes so_far.output sent.output;
            told = stopped (frames reads.taken) reads.follows;
            unread = reads.unread;
            whole = if_more left (λ bytes. ¬ (after ≡ next.Over end.ReadFault) → Follows sector after (so_far.done ++ wave) (frames bytes))
                (λ bytes. ¬ HasFailed how rose → ToldPipe sector ns (frames bytes) (h ++ part) (n + m) (so_far.written ++ last_bytes) how)
                (λ bytes f unfailed. stopped (frames bytes) (f (λ is. unfailed (failed_of how rose (rises is) sent.cause)))) reads.whole;
          }

  -- no request follows
  module _ (left middle later held out : Option (List ℕ)) (was : Next) (how : End) (h : List Entry) (n : ℕ)
      (so_far : Onward sector ns left middle held out was h n)
      (heard : HeardAll left later so_far.done how) (last_is : CanFollow sector was []) where
    none_left : IsOver sector ns how [] 0 [] how
    none_left = record {
      none = record {
        few = omega arith;
        replies = refl;
        each = λ j d lt. absurd (omega (arith, lt));
        none = λ j high lt. refl;
      };
      no_reply = refl;
      nothing = refl;
      cause = inl refl;
    }

    ended : (all : Frames) → (all.requests ≡ so_far.done) × ((how ≡ all.last) ⊎ (how ≡ end.ReadFault))
        → ToldPipe sector ns all h n so_far.written how
    ended all are =
        told_at (waves sector (length ns) (so_far.done ++ [])) (waves sector (length ns) all.requests) all.last (h ++ []) h (n + 0) n
        (so_far.written ++ []) so_far.written how
        (ap (waves sector (length ns)) (append-nil so_far.done ∙ sym are.0)) (append-nil h) (omega arith) (append-nil so_far.written)
        (so_far.goes [] last_is all.last [] 0 [] how (record { none = none_left.none; no_reply = refl; nothing = refl; cause = are.1 }))

    pub serves_all : (rose : Type 0) → ServesPipe sector ns left later held out rose h n how
    serves_all rose = record {
      taken = heard.taken;
      written = so_far.written;
      input = heard.input;
      output = so_far.output;
      told = ended (frames heard.taken) heard.are;
      unread = heard.unread;
      whole = if_more left (λ bytes. ¬ (how ≡ end.ReadFault) → ((frames bytes).requests ≡ so_far.done) × ((how ≡ (frames bytes).last) ⊎ (how ≡ end.ReadFault)))
          (λ bytes. ¬ HasFailed how rose → ToldPipe sector ns (frames bytes) h n so_far.written how)
          (λ bytes are unfailed. ended (frames bytes) (are (λ is. unfailed (subst (λ (e : End). HasFailed e rose) (sym is) tt)))) heard.whole;
    }
