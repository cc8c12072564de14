-- A wave is taken, request by request.
--
-- So far the wave is open: requests may be added to it. The next request is added, and the wave may be closed by it; or it
-- isn't, and the wave is what it is.
use Rattle.std.proofs.Common.{◌≡◌, ◌≢◌, ◌<◌, ℕ, zero, suc, ◌+◌, true, false, List, [], ◌∷◌, ◌++◌, length, get_or, map, set, All, Option, append_assoc, append-nil, length-append, refl, sym, ap, ◌∙◌, subst, arith}
use mathlib.Core.Logic.{dite}
use native.Mathlib.Decide.{ℕ_discrete}
use Rattle.std.proofs.lemmas.List.{get_or-set_other, get_or-set_same, length-map, length-set, map-append}
use Rattle.nbd_wire.specs.Frames.{Frame}
use Rattle.nbd_wire.specs.declared.ask.Ask.{Ask}
use Rattle.nbd_wire.specs.declared.end.End.{End}
use Rattle.pipe_lane.specs.Lanes.{IsFree}
use Rattle.pipe_lane.specs.Heard.{Heard}
use Rattle.pipe_lane.specs.Queue.{IsNext, IsQueued}
use Rattle.pipe_lane.specs.declared.lane.Stage.{Stage}
use Rattle.pipe_lane.specs.declared.lane.Stage.TheVariants as stage
use Rattle.pipe_lane.specs.declared.queued.Next.{Next}
use Rattle.pipe_lane.specs.declared.queued.Next.TheVariants as next
use Rattle.pipe_lane.specs.declared.queued.Queued.{Queued}
use Rattle.pipe_session.specs.Waves.{ask, is_transfer, joins, joins_wave, waves, waves_after}
use Rattle.pipe_session.specs.Laws.Taking.{CanFollow, HasWave, IsGiven, TakesSome, TakesWave}
use Rattle.pipe_session.proofs.WaveByWave.{alone, ends_all, ends_before, ends_closed, full, goes_on, opened}

-- the last of a list and those before it
last_at : (xs : List Frame) (x d : Frame) → get_or (xs ++ x ∷ []) (length xs) d ≡ x
last_at [] x d = refl
last_at (y ∷ ys) x d = last_at ys x d

before_last : (xs : List Frame) (x d : Frame) (j : ℕ) → j < length xs → get_or (xs ++ x ∷ []) j d ≡ get_or xs j d
before_last [] x d j lt = absurd (omega (arith, lt))
before_last (y ∷ ys) x d zero lt = refl
before_last (y ∷ ys) x d (suc j) lt = before_last ys x d j (omega (arith, lt))

no_wave : (wave : List Frame) → length wave ≡ 0 → wave ≡ []
no_wave [] is = refl
no_wave (f ∷ fs) is = absurd (omega (arith, is))

asked_is : (q p : Queued) → next.Asked q ≡ next.Asked p → q ≡ p
asked_is q p is = cc

asked_isnt : (q : Queued) (how : End) → next.Asked q ≡ next.Over how → ⊥
asked_isnt q how is = cc

over_of : (found : Next) → found ≢ next.Unknown → ((q : Queued) → found ≡ next.Asked q → ⊥) → (how : End) × (found ≡ next.Over how)
over_of next.Unknown known not = absurd (known refl)
over_of (next.Asked q) known not = absurd (not q refl)
over_of (next.Over how) known not = (how, refl)

last_of : (sector : ℕ) (before found : Next) → (before ≢ next.Unknown → found ≡ before) → ((q : Queued) → found ≡ next.Asked q → ⊥)
    → CanFollow sector before []
last_of sector next.Unknown found same not = tt
last_of sector (next.Asked q) found same not = absurd (not q (same (λ (h : next.Asked q ≡ next.Unknown). cc)))
last_of sector (next.Over how) found same not = refl

end_of : (sector depth : ℕ) (found : Next) (wave r : List Frame) (asks : List Ask) → asks ≡ map (ask sector) wave
    → ((r : List Frame) → waves sector depth (wave ++ r) ≡ waves_after sector depth wave r) → found ≢ next.Unknown
    → ((q : Queued) → found ≡ next.Asked q → joins depth asks q.ask ≡ false) → CanFollow sector found r
    → waves sector depth (wave ++ r) ≡ wave ∷ waves sector depth r
end_of sector depth next.Unknown wave r asks are opens known not follow = absurd (known refl)
end_of sector depth (next.Asked q) wave [] asks are opens known not follow = absurd follow
end_of sector depth (next.Asked q) wave (f ∷ r) asks are opens known not follow =
    ends_before sector depth wave f r opens
    (subst (λ (l : List Ask). joins depth l (ask sector f) ≡ false) are (subst (λ (a : Ask). joins depth asks a ≡ false) (sym follow) (not q refl)))
end_of sector depth (next.Over how) wave r asks are opens known not follow =
    subst (λ (l : List Frame). waves sector depth (wave ++ l) ≡ wave ∷ waves sector depth l) (sym follow) (ends_all sector depth wave opens)

module _ (sector depth : ℕ) where
  pub given_one : (wave : List Frame) (f : Frame) (q : Queued) (stages : List Stage) → HasWave sector wave stages → IsQueued sector f q
      → length wave < length stages → HasWave sector (wave ++ f ∷ []) (set stages (length wave) (stage.Waits q))
  given_one wave f q stages has is lt = record {
    holds = λ j e d within. dite (ℕ_discrete j (length wave))
        (λ same. subst (λ (k : ℕ). IsGiven sector (get_or (wave ++ f ∷ []) k e) (get_or (set stages (length wave) (stage.Waits q)) k d)) (sym same)
        (subst (λ (s : Stage). IsGiven sector (get_or (wave ++ f ∷ []) (length wave) e) s) (sym (get_or-set_same stages (length wave) (stage.Waits q) d lt))
        (subst (λ (g : Frame). IsQueued sector g q) (sym (last_at wave f e)) is)))
        (λ other.
        let low : j < length wave = omega (arith, within, length-append wave (f ∷ []), other) in
        subst (λ (s : Stage). IsGiven sector (get_or (wave ++ f ∷ []) j e) s) (sym (get_or-set_other stages (length wave) j (stage.Waits q) d other))
        (subst (λ (g : Frame). IsGiven sector g (get_or stages j d)) (sym (before_last wave f e j low)) (has.holds j e d low)));
    free = λ j d high within.
        let more : length (wave ++ f ∷ []) ≡ length wave + 1 = length-append wave (f ∷ []) in
        let isnt : j ≢ length wave = λ same. absurd (omega (arith, same, high, more)) in
        get_or-set_other stages (length wave) j (stage.Waits q) d isnt
        ∙ has.free j d (omega (arith, high, more)) (omega (arith, within, length-set stages (length wave) (stage.Waits q)));
  }

  -- nothing yet
  pub none_taken : (left now : Option (List ℕ)) (fs : List Frame) (before : Next) (stages : List Stage) → IsNext sector left now fs before
      → All IsFree stages → TakesSome sector depth left now fs before before stages 0 []
  none_taken left now fs before stages is free = record {
    wave = [];
    heard = subst (λ (l : List Frame). IsNext sector left now l before) (sym (append-nil fs)) is;
    size = refl;
    has = record { holds = λ j f d lt. absurd (omega (arith, lt)); free = λ j d high lt. free j d lt };
    asks_are = refl;
    first = λ is. refl;
    unknown = λ lt. absurd (omega (arith, lt));
    starts = λ lt. absurd (omega (arith, lt));
    opens = λ lt. absurd (omega (arith, lt));
  }

  follows_first : (before found : Next) (f : Frame) (q : Queued) (r : List Frame) → (before ≢ next.Unknown → found ≡ before) → found ≡ next.Asked q
      → IsQueued sector f q → CanFollow sector before (f ∷ r)
  follows_first next.Unknown found f q r same is queued = tt
  follows_first (next.Asked p) found f q r same is queued =
      let e : found ≡ next.Asked p = same (λ (h : next.Asked p ≡ next.Unknown). cc) in
      let p_is : q ≡ p = asked_is q p (sym is ∙ e) in queued.asks_so ∙ ap (λ (x : Queued). x.ask) p_is
  follows_first (next.Over how) found f q r same is queued =
      let e : found ≡ next.Over how = same (λ (h : next.Over how ≡ next.Unknown). cc) in absurd (asked_isnt q how (sym is ∙ e))

  -- what was known so far, and the request that was found
  module _ (left now then_ : Option (List ℕ)) (fs : List Frame) (before after found : Next) (stages : List Stage) (k : ℕ) (asks : List Ask)
      (so_far : TakesSome sector depth left now fs before after stages k asks)
      (is_next : IsNext sector left then_ (fs ++ so_far.wave) found) (same : after ≢ next.Unknown → found ≡ after) where
    module _ (q : Queued) (is : found ≡ next.Asked q) where
      abbrev here : IsNext sector left then_ (fs ++ so_far.wave) (next.Asked q)
      here = subst (IsNext sector left then_ (fs ++ so_far.wave)) is is_next

      abbrev f : Frame
      f = here.0

      abbrev longer_wave : List Frame
      longer_wave = so_far.wave ++ f ∷ []

      asks_long : length asks ≡ k
      asks_long = ap length so_far.asks_are ∙ length-map so_far.wave (ask sector) ∙ so_far.size

      pub heard_more : IsNext sector left then_ (fs ++ longer_wave) next.Unknown
      heard_more = subst (Heard left then_) (append_assoc fs so_far.wave (f ∷ [])) here.2

      pub start_more : (r : List Frame) → CanFollow sector before (longer_wave ++ r)
      start_more r = dite (ℕ_discrete k 0)
          (λ none. subst (λ (w : List Frame). CanFollow sector before ((w ++ f ∷ []) ++ r)) (sym (no_wave so_far.wave (so_far.size ∙ none)))
          (follows_first before found f q r (λ isnt. same (λ h. isnt (sym (so_far.first none) ∙ h)) ∙ so_far.first none) is here.1))
          (λ some. subst (CanFollow sector before) (sym (append_assoc so_far.wave (f ∷ []) r)) (so_far.starts (omega (arith, some)) (f ∷ r)))

      joined_is : (0 < length asks → joins depth asks q.ask ≡ true) → 0 < k → joins_wave sector depth so_far.wave f ≡ true
      joined_is fits some = subst (λ (l : List Ask). joins depth l (ask sector f) ≡ true) so_far.asks_are
          (subst (λ (a : Ask). joins depth asks a ≡ true) (sym here.1.asks_so) (fits (omega (arith, some, asks_long))))

      pub open_more : (0 < length asks → joins depth asks q.ask ≡ true) → (r : List Frame) → waves sector depth (longer_wave ++ r) ≡ waves_after sector depth longer_wave r
      open_more fits r = dite (ℕ_discrete k 0)
          (λ none. subst (λ (w : List Frame). waves sector depth ((w ++ f ∷ []) ++ r) ≡ waves_after sector depth (w ++ f ∷ []) r)
          (sym (no_wave so_far.wave (so_far.size ∙ none))) (opened sector depth f r))
          (λ some. let lt : 0 < k = omega (arith, some) in goes_on sector depth so_far.wave f (so_far.opens lt) (joined_is fits lt) r)

      -- one more
      abbrev pub one_taken : (0 < length asks → joins depth asks q.ask ≡ true) → k < length stages
          → TakesSome sector depth left then_ fs before next.Unknown (set stages k (stage.Waits q)) (k + 1) (asks ++ q.ask ∷ [])
      one_taken fits lt = record {
        wave = longer_wave;
        heard = heard_more;
        size = length-append so_far.wave (f ∷ []) ∙ ap (λ n. n + 1) so_far.size;
        has = subst (λ (n : ℕ). HasWave sector longer_wave (set stages n (stage.Waits q))) so_far.size
            (given_one so_far.wave f q stages so_far.has here.1 (omega (arith, lt, so_far.size)));
        asks_are = ap (λ (l : List Ask). l ++ q.ask ∷ []) so_far.asks_are ∙ ap (λ (a : Ask). map (ask sector) so_far.wave ++ a ∷ []) (sym here.1.asks_so)
            ∙ sym (map-append (ask sector) so_far.wave (f ∷ []));
        first = λ none. absurd (omega (arith, none));
        unknown = λ some. refl;
        starts = λ some. start_more;
        opens = λ some. open_more fits;
      }

      -- no request joins it, as it is neither a read nor a write
      pub taken_alone : (0 < length asks → joins depth asks q.ask ≡ true) → k < length stages → is_transfer q.ask ≡ false
          → TakesWave sector depth left then_ fs before next.Unknown (set stages k (stage.Waits q)) (k + 1)
      taken_alone fits lt other =
          let more = one_taken fits lt in
          let isnt : is_transfer (ask sector f) ≡ false = ap is_transfer here.1.asks_so ∙ other in record {
            wave = longer_wave;
            heard = heard_more;
            size = more.size;
            has = more.has;
            starts = λ some. start_more;
            ends = λ some r follow. ends_closed sector depth longer_wave (open_more fits) (alone sector depth so_far.wave f isnt) r;
            over = λ none. absurd (omega (arith, none));
            last = λ none. absurd (omega (arith, none));
          }

    -- the wave ends before what was found
    pub ends_here : found ≢ next.Unknown → ((q : Queued) → found ≡ next.Asked q → (0 < length asks) × (joins depth asks q.ask ≡ false))
        → TakesWave sector depth left then_ fs before found stages k
    ends_here known not = record {
      wave = so_far.wave;
      heard = is_next;
      size = so_far.size;
      has = so_far.has;
      starts = so_far.starts;
      ends = λ some r follow. end_of sector depth found so_far.wave r asks so_far.asks_are (so_far.opens some) known (λ q is. (not q is).1) follow;
      over = λ none. over_of found known (λ q is. absurd (let lt : 0 < length asks = (not q is).0 in
          omega (arith, lt, ap length so_far.asks_are, length-map so_far.wave (ask sector), so_far.size, none)));
      last = λ none. last_of sector before found (λ isnt. same (λ h. isnt (sym (so_far.first none) ∙ h)) ∙ so_far.first none)
          (λ q is. absurd (let lt : 0 < length asks = (not q is).0 in
          omega (arith, lt, ap length so_far.asks_are, length-map so_far.wave (ask sector), so_far.size, none)));
    }

  -- it is full
  pub taken_full : (left now : Option (List ℕ)) (fs : List Frame) (before after : Next) (stages : List Stage) (k : ℕ) (asks : List Ask)
      → TakesSome sector depth left now fs before after stages k asks → k ≡ depth → 0 < depth → TakesWave sector depth left now fs before after stages k
  taken_full left now fs before after stages k asks so_far is some = record {
    wave = so_far.wave;
    heard = so_far.heard;
    size = so_far.size;
    has = so_far.has;
    starts = so_far.starts;
    ends = λ lt r follow. ends_closed sector depth so_far.wave (so_far.opens lt) (full sector depth so_far.wave (so_far.size ∙ is)) r;
    over = λ none. absurd (omega (arith, none, is, some));
    last = λ none. absurd (omega (arith, none, is, some));
  }

  -- the same of the values that the code has
  module _ (left now then_ : Option (List ℕ)) (fs : List Frame) (before after found left_over : Next) (stages new_stages : List Stage) (k : ℕ)
      (asks new_asks : List Ask) (so_far : TakesSome sector depth left now fs before after stages k asks)
      (is_next : IsNext sector left then_ (fs ++ so_far.wave) found) (same : after ≢ next.Unknown → found ≡ after) (q : Queued)
      (is : (found ≡ next.Asked q) × (left_over ≡ next.Unknown) × (0 < length asks → joins depth asks q.ask ≡ true)) (lt : k < length stages)
      (stages_are : new_stages ≡ set stages k (stage.Waits q)) where
    pub one_in : new_asks ≡ asks ++ q.ask ∷ [] → TakesSome sector depth left then_ fs before left_over new_stages (k + 1) new_asks
    one_in asks_are =
        subst (λ (n : Next). TakesSome sector depth left then_ fs before n new_stages (k + 1) new_asks) (sym is.1)
        (subst (λ (l : List Stage). TakesSome sector depth left then_ fs before next.Unknown l (k + 1) new_asks) (sym stages_are)
        (subst (TakesSome sector depth left then_ fs before next.Unknown (set stages k (stage.Waits q)) (k + 1)) (sym asks_are)
        (one_taken left now then_ fs before after found stages k asks so_far is_next same q is.0 is.2 lt)))

    pub alone_in : is_transfer q.ask ≡ false → TakesWave sector depth left then_ fs before left_over new_stages (k + 1)
    alone_in other =
        subst (λ (n : Next). TakesWave sector depth left then_ fs before n new_stages (k + 1)) (sym is.1)
        (subst (λ (l : List Stage). TakesWave sector depth left then_ fs before next.Unknown l (k + 1)) (sym stages_are)
        (taken_alone left now then_ fs before after found stages k asks so_far is_next same q is.0 is.2 lt other))

pub find_is : (s t : ℕ) → s ≡ t → (left now then_ : Option (List ℕ)) (fs : List Frame) (a b : Next)
    → (IsNext s left now fs a → IsNext s left then_ fs b) → IsNext t left now fs a → IsNext t left then_ fs b
find_is s t same left now then_ fs a b f h =
    subst (λ (x : ℕ). IsNext x left then_ fs b) same (f (subst (λ (x : ℕ). IsNext x left now fs a) (sym same) h))
