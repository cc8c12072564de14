-- Replies are written in order.
--
-- Once the sink has refused one, no other is written: so the first ones were written whole, and a part of the next one.
use Rattle.std.proofs.Common.{◌≡◌, ◌<◌, ◌≤◌, ℕ, ◌+◌, List, [], ◌∷◌, ◌++◌, length, get_or, set, take, All, Option, Some, None, append-nil, length-append, refl, sym, ap, ◌∙◌, subst, arith}
use Rattle.std.specs.List.{concat, flat_map}
use Rattle.std.proofs.Math.Seq.{get_or-append_seam, take-append_seam}
use Rattle.std.proofs.lemmas.List.{flat_map_more, get_or_append_left, take-append-le, take_all, take_more, take_more_set}
use Rattle.std.proofs.lemmas.List.Elements.{All-push}
use Rattle.std.proofs.lemmas.List.Folds.{concat-append}
use Rattle.vc_outside.specs.Told.{Grows}
use Rattle.nbd_session.proofs.Streams.{grows_none, grows_twice}
use Rattle.nbd_session.specs.Sent.{Replied}
use Rattle.nbd_wire.specs.declared.end.End.{End}
use Rattle.pipe_lane.specs.Lanes.{IsFree}
use Rattle.pipe_lane.specs.declared.lane.Stage.{Stage}
use Rattle.pipe_lane.specs.declared.lane.Stage.TheVariants.{Free}
use Rattle.pipe_session.specs.Laws.Sending.{IsSent, replies_in}

pub none_sent : (held : Option (List ℕ)) → IsSent held held [] 0 None
none_sent held = (refl, grows_none held)

pub nothing_more : (held now : Option (List ℕ)) (rs : List (List ℕ)) (n : ℕ) (how : Option End) → IsSent held now rs n how → IsSent held now (rs ++ []) n how
nothing_more held now rs n how is = subst (λ (l : List (List ℕ)). IsSent held now l n how) (sym (append-nil rs)) is

one_whole : (rs : List (List ℕ)) (r : List ℕ) → concat (rs ++ r ∷ []) ≡ concat rs ++ r
one_whole rs r = concat-append rs (r ∷ []) ∙ ap (λ (l : List ℕ). concat rs ++ l) (append-nil r)

pub one_sent : (held old now : Option (List ℕ)) (rs : List (List ℕ)) (r : List ℕ) (n : ℕ) → IsSent held old rs n None → Replied old now r None
    → IsSent held now (rs ++ r ∷ []) (n + 1) None
one_sent held old now rs r n is more =
    (ap (λ k. k + 1) is.0 ∙ sym (length-append rs (r ∷ [])), subst (Grows held now) (sym (one_whole rs r)) (grows_twice held old now (concat rs) r is.1 more))

pub one_refused : (held old now : Option (List ℕ)) (rs : List (List ℕ)) (r : List ℕ) (n : ℕ) (how : End) → IsSent held old rs n None
    → Replied old now r (Some how) → IsSent held now (rs ++ r ∷ []) n (Some how)
one_refused held old now rs r n how is more =
    let whole : take n (rs ++ r ∷ []) ≡ rs = ap (λ k. take k (rs ++ r ∷ [])) is.0 ∙ take-append_seam rs (r ∷ []) in
    let next : get_or (rs ++ r ∷ []) n [] ≡ r = ap (λ k. get_or (rs ++ r ∷ []) k []) is.0 ∙ get_or-append_seam rs r [] [] in
    let part = more.0 in record {
      refused = omega (arith, is.0, length-append rs (r ∷ []));
      size = part.0;
      in_part = subst (λ (l : List ℕ). part.0 < length l) (sym next) part.1;
      output = subst (λ (l : List (List ℕ)). Grows held now (concat l ++ take part.0 (get_or (rs ++ r ∷ []) n []))) (sym whole)
          (subst (λ (l : List ℕ). Grows held now (concat rs ++ take part.0 l)) (sym next)
          (grows_twice held old now (concat rs) (take part.0 r) is.1 part.2));
      cause = more.1;
    }

pub none_after : (held now : Option (List ℕ)) (rs more : List (List ℕ)) (n : ℕ) (how : End) → IsSent held now rs n (Some how)
    → IsSent held now (rs ++ more) n (Some how)
none_after held now rs more n how is =
    let lt : n < length rs = is.refused in
    let le : n ≤ length rs = omega (arith, lt) in
    let whole : take n (rs ++ more) ≡ take n rs = take-append-le n rs more le in
    let next : get_or (rs ++ more) n [] ≡ get_or rs n [] = get_or_append_left rs more [] n lt in record {
      refused = omega (arith, lt, length-append rs more);
      size = is.size;
      in_part = subst (λ (l : List ℕ). is.size < length l) (sym next) is.in_part;
      output = subst (λ (l : List (List ℕ)). Grows held now (concat l ++ take is.size (get_or (rs ++ more) n []))) (sym whole)
          (subst (λ (l : List ℕ). Grows held now (concat (take n rs) ++ take is.size l)) (sym next) is.output);
      cause = is.cause;
    }

-- the replies of the lanes, one lane after another
pub lane_sent : (held old now : Option (List ℕ)) (stages : List Stage) (i : ℕ) (d : Stage) (n m : ℕ) (how now_how : Option End) → i < length stages
    → IsSent held old (flat_map replies_in (take i stages)) n how
    → (IsSent held old (flat_map replies_in (take i stages)) n how
    → IsSent held now (flat_map replies_in (take i stages) ++ replies_in (get_or stages i d)) m now_how)
    → IsSent held now (flat_map replies_in (take (i + 1) stages)) m now_how
lane_sent held old now stages i d n m how now_how lt so_far more =
    subst (λ (rs : List (List ℕ)). IsSent held now rs m now_how)
    (flat_map_more replies_in [] (take i stages) (get_or stages i d) ∙ ap (flat_map replies_in) (sym (take_more stages i d lt))) (more so_far)

-- a lane that was freed, after others
pub one_freed : (stages : List Stage) (i : ℕ) → i < length stages → All IsFree (take i stages) → All IsFree (take (i + 1) (set stages i Free))
one_freed stages i lt all = subst (All IsFree) (sym (take_more_set stages i Free lt)) (All-push IsFree (take i stages) Free all refl)

pub freed_all : (stages : List Stage) (i : ℕ) → length stages ≤ i → All IsFree (take i stages) → All IsFree stages
freed_all stages i le all = subst (All IsFree) (take_all i stages le) all

pub sent_all : (held now : Option (List ℕ)) (stages : List Stage) (i n : ℕ) (how : Option End) → length stages ≤ i
    → IsSent held now (flat_map replies_in (take i stages)) n how → IsSent held now (flat_map replies_in stages) n how
sent_all held now stages i n how le is = subst (λ (l : List Stage). IsSent held now (flat_map replies_in l) n how) (take_all i stages le) is
