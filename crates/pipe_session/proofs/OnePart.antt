-- The part of the history that one wave adds.
--
-- All passes had seen the same before the wave, and have again. The entries under a lane's number that lie between are those
-- that its pass got: so they are the answer to its request.
use Rattle.std.proofs.Common.{◌≡◌, ◌<◌, ℕ, zero, suc, ◌+◌, ◌*◌, ◌^◌, List, [], ◌∷◌, ◌++◌, length, get_or, map, All, append_assoc, append-nil, sym, ap, ◌∙◌, subst, arith}
use Rattle.std.proofs.lemmas.List.{get_or-map, length-map}
use Rattle.hist_lock.specs.declared.view.View.{View}
use Rattle.hist_lock.specs.History.{entries}
use Rattle.hist_lock.proofs.Entries.{entries-append}
use Rattle.sector_model.specs.declared.entry.Entry.{Entry}
use Rattle.sector_model.specs.declared.entry.Event.{Event}
use Rattle.io_core.specs.State.{State}
use Rattle.io_queue.specs.Pass.{Call, caller_of}
use Rattle.nbd_session.specs.Session.{events_of}
use Rattle.nbd_wire.specs.Frames.{Frame}
use Rattle.nbd_wire.specs.Replies.{IsAnswered}
use Rattle.pipe_session.specs.Meeting.{GoesTo, HaveSeen, HaveServed}
use Rattle.pipe_session.specs.Shares.{SameSum, Weigh}
use Rattle.pipe_session.specs.ToldPipe.{AreCarriedOut, own_events}
use Rattle.pipe_session.specs.Laws.Lanes.{HaveMet}
use Rattle.pipe_session.specs.Laws.Waved.{HaveRun, RanOne}
use Rattle.pipe_session.proofs.OneUnit.{same_weight, sum_then}
use Rattle.pipe_session.proofs.PassesMeet.{goes_called, goes_then}

same_tail : {X : Type 0} (xs ys zs : List X) → xs ++ ys ≡ xs ++ zs → ys ≡ zs
same_tail [] ys zs is = is
same_tail (x ∷ xs) ys zs is = same_tail xs ys zs (cc)

own_part : (n : ℕ) (s part mine es : List Entry) → entries caller_of n s ≡ mine → entries caller_of n (s ++ part) ≡ mine ++ es
    → entries caller_of n part ≡ es
own_part n s part mine es before now =
    same_tail (entries caller_of n s) (entries caller_of n part) es
    (sym (entries-append caller_of n s part) ∙ now ∙ ap (λ (l : List Entry). l ++ es) (sym before))

module _ {S C : Type 0} where
  abbrev pub IsOwn : View (State S C) Entry → Type 0
  IsOwn v = entries caller_of v.number v.seen ≡ v.mine

  goes_as : (v w : View (State S C) Entry) (es fs : List Entry) → es ≡ fs → GoesTo v w es → GoesTo v w fs
  goes_as v w es fs is goes = subst (GoesTo v w) is goes

  -- shares that aren't touched
  same_weights : (top x : ℕ) (vs ws : List (View (State S C) Entry)) → length ws ≡ length vs
      → ((j : ℕ) (d : View (State S C) Entry) → j < length vs → (es : List Entry) × Call (get_or vs j d) (get_or ws j d) es)
      → Weigh top vs x → Weigh top ws x
  same_weights top x [] [] size each w = w
  same_weights top x [] (u ∷ us) size each w = absurd (omega (arith, size))
  same_weights top x (v ∷ vs) [] size each w = absurd (omega (arith, size))
  same_weights top x (v ∷ vs) (u ∷ us) size each w = (
    w.0,
    w.1,
    same_weight top w.0 v u (each zero v (omega arith)).1.share w.2,
    same_weights top w.1 vs us (omega (arith, size)) (λ j d lt. each (suc j) d (omega (arith, lt))) w.3,
    w.4,
  )

  module _ (sector : ℕ) (v w y : View (State S C) Entry) (us ws xs ys : List (View (State S C) Entry)) (h : List Entry) (wave : List Frame)
      (rs : List (List ℕ)) (so_far : HaveServed v w us ws h) (seen : HaveSeen w ws) (ran : HaveRun sector wave rs ws xs)
      (met : HaveMet w y xs ys) (seen_now : HaveSeen y ys) (own : All IsOwn ws) (own_now : All IsOwn ys) where
    abbrev pub part : List Entry
    part = met.pass.later.0

    pub long : (j : ℕ) → j < length us → j < length ws
    long j lt = omega (arith, lt, so_far.as_many)

    number_of : (j : ℕ) (d : View (State S C) Entry) → j < length us → (get_or ws j d).number ≡ (get_or us j d).number
    number_of j d lt = (so_far.lanes j d lt).number

    abbrev pub one : (j : ℕ) (d : View (State S C) Entry) → j < length us → RanOne sector wave rs j (get_or ws j d) (get_or xs j d)
    one j d lt = ran.each j d (long j lt)

    then_met : (j : ℕ) (d : View (State S C) Entry) → j < length us → GoesTo (get_or xs j d) (get_or ys j d) []
    then_met j d lt = met.each j d (omega (arith, long j lt, ran.as_many))

    moved : (j : ℕ) (d : View (State S C) Entry) (lt : j < length us) → GoesTo (get_or ws j d) (get_or ys j d) ((one j d lt).es ++ [])
    moved j d lt = goes_then (get_or ws j d) (get_or xs j d) (get_or ys j d) (one j d lt).es []
        (goes_called (get_or ws j d) (get_or xs j d) (one j d lt).es (one j d lt).call) (then_met j d lt)

    pub in_part : (j : ℕ) (d : View (State S C) Entry) (lt : j < length us) → entries caller_of (get_or us j d).number part ≡ (one j d lt).es
    in_part j d lt =
        let n : ℕ = (get_or us j d).number in
        let m = moved j d lt in
        let size : length ys ≡ length ws = met.as_many ∙ ran.as_many in
        own_part n w.seen part (get_or ws j d).mine (one j d lt).es
        (ap (λ (k : ℕ). entries caller_of k w.seen) (sym (number_of j d lt))
        ∙ ap (entries caller_of (get_or ws j d).number) (sym (seen j d (long j lt))) ∙ own j d (long j lt))
        (ap (λ (k : ℕ). entries caller_of k (w.seen ++ part)) (sym (m.number ∙ number_of j d lt))
        ∙ ap (entries caller_of (get_or ys j d).number) (sym (seen_now j d (omega (arith, long j lt, size)) ∙ met.pass.later.1))
        ∙ own_now j d (omega (arith, long j lt, size)) ∙ m.mine ∙ ap (λ (l : List Entry). (get_or ws j d).mine ++ l) (append-nil (one j d lt).es))

    run_sum : SameSum (w ∷ ws) (w ∷ xs)
    run_sum top x (a, b, of_w, of_ws, sum) = (
      0,
      (
        a * 2 ^ 0,
        b * 2 ^ 0,
        subst (λ (t : ℕ). w.part * 2 ^ t ≡ (a * 2 ^ 0) * 2 ^ w.halvings) (let e : top ≡ top + 0 = omega arith in e)
            (subst (λ (k : ℕ). w.part * 2 ^ top ≡ k * 2 ^ w.halvings) (let e : a ≡ a * 2 ^ 0 = omega arith in e) of_w),
        subst (λ (t : ℕ). Weigh t xs (b * 2 ^ 0)) (let e : top ≡ top + 0 = omega arith in e)
            (subst (Weigh top xs) (let e : b ≡ b * 2 ^ 0 = omega arith in e)
            (same_weights top b ws xs ran.as_many (λ j d lt. ((ran.each j d lt).es, (ran.each j d lt).call)) of_ws)),
        (omega (arith, sum)),
      ),
    )

    pub served_more : HaveServed v y us ys (h ++ part)
    served_more = record {
      past = so_far.past;
      earlier = so_far.earlier;
      seen = met.pass.later.1 ∙ ap (λ (l : List Entry). l ++ part) so_far.seen ∙ append_assoc so_far.past h part;
      pass = goes_then v w y [] [] so_far.pass met.pass;
      as_many = met.as_many ∙ ran.as_many ∙ so_far.as_many;
      lanes = λ j d lt. goes_as (get_or us j d) (get_or ys j d) (entries caller_of (get_or us j d).number h ++ ((one j d lt).es ++ []))
          (entries caller_of (get_or us j d).number (h ++ part))
          (ap (λ (l : List Entry). entries caller_of (get_or us j d).number h ++ l) (append-nil (one j d lt).es ∙ sym (in_part j d lt))
          ∙ sym (entries-append caller_of (get_or us j d).number h part))
          (goes_then (get_or us j d) (get_or ws j d) (get_or ys j d) (entries caller_of (get_or us j d).number h) ((one j d lt).es ++ [])
          (so_far.lanes j d lt) (moved j d lt));
      share = sum_then (v ∷ us) (w ∷ ws) (y ∷ ys) so_far.share (sum_then (w ∷ ws) (w ∷ xs) (y ∷ ys) run_sum met.share);
    }

    events_are : (j : ℕ) (lt : j < length us) → own_events (get_or (map (λ u. u.number) us) j 0) part ≡ events_of (one j v lt).es
    events_are j lt = ap (λ (n : ℕ). own_events n part) (get_or-map (λ (u : View (State S C) Entry). u.number) us j v 0 lt) ∙ ap events_of (in_part j v lt)

    few_lanes : (j : ℕ) → j < length wave → j < length us
    few_lanes j lt = omega (arith, lt, ran.few, so_far.as_many)

    pub carried_out : AreCarriedOut sector (map (λ u. u.number) us) wave rs part
    carried_out = record {
      few = omega (arith, length-map us (λ (u : View (State S C) Entry). u.number), ran.few, so_far.as_many);
      replies = ran.replies;
      each = λ j d lt. subst (λ (es : List Event). IsAnswered sector (get_or wave j d) es (get_or rs j [])) (sym (events_are j (few_lanes j lt)))
          ((one j v (few_lanes j lt)).answered d lt);
      none = λ j high within.
          let lt : j < length us = omega (arith, within, length-map us (λ (u : View (State S C) Entry). u.number)) in
          events_are j lt ∙ ap events_of ((one j v lt).idle high);
    }
