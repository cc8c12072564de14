-- The lanes of a wave that has run, in the terms of the wave.
--
-- The first lanes have the requests of the wave, and then their replies; the others were free and still are.
use Rattle.std.proofs.Common.{◌≡◌, ◌<◌, ◌≤◌, ℕ, zero, suc, List, [], ◌∷◌, ◌++◌, length, get_or, map, All, refl, sym, ap, ◌∙◌, subst, arith}
use Rattle.std.specs.List.{flat_map}
use mathlib.Core.Logic.{dite}
use native.Mathlib.Decide.{dec_lt}
use Rattle.std.proofs.lemmas.List.{get_or_default, get_or-map, length-map}
use Rattle.atomic_table.specs.Seated.{TableId}
use Rattle.hist_standing.specs.declared.Standing.{Ghosts as StandingGhosts}
use Rattle.hist_lock.specs.declared.view.View.{View}
use Rattle.io_core.specs.State.{State}
use Rattle.io_queue.specs.Pass.{Call}
use Rattle.io_queue.proofs.Passes.{no_call}
use Rattle.nbd_session.specs.Session.{events_of}
use Rattle.nbd_wire.specs.Frames.{Frame}
use Rattle.nbd_wire.specs.Replies.{IsAnswered}
use Rattle.sector_model.specs.declared.entry.Entry.{Entry}
use Rattle.vc_layout.specs.declared.geometry.Geometry.{Geometry}
use Rattle.pipe_lane.specs.Lanes.{CanCarry, CarriesOut, IsCarriedOut, reply_of, stage_in, view_in}
use Rattle.pipe_lane.specs.Queue.{IsQueued}
use Rattle.pipe_lane.specs.declared.lane.Lane.{Lane}
use Rattle.pipe_lane.specs.declared.lane.Reply.{Reply}
use Rattle.pipe_lane.specs.declared.lane.Stage.{Stage}
use Rattle.pipe_lane.specs.declared.lane.Stage.TheVariants as stage
use Rattle.pipe_lane.specs.declared.queued.Queued.{Queued}
use Rattle.pipe_session.specs.Laws.Running.{HasQueued, HasRun}
use Rattle.pipe_session.specs.Laws.Sending.{replies_in}
use Rattle.pipe_session.specs.Laws.Taking.{HasWave, IsGiven}
use Rattle.pipe_session.specs.Laws.Waved.{HaveRun, RanOne}

no_frame : Frame
no_frame = record { request = record { flags = 0; kind = 0; cookie = 0; offset = 0; length = 0 }; payload = [] }

-- the replies of lanes of which the first k are done and the others free
count_done : (ss : List Stage) (k : ℕ) → k ≤ length ss → ((j : ℕ) (d : Stage) → j < k → (r : Reply) × (get_or ss j d ≡ stage.Done r))
    → ((j : ℕ) (d : Stage) → k ≤ j → j < length ss → get_or ss j d ≡ stage.Free) → length (flat_map replies_in ss) ≡ k
count_done [] k le done free = omega (arith, le)
count_done (s ∷ ss) zero le done free =
    ap (λ (x : Stage). length (replies_in x ++ flat_map replies_in ss)) (free zero s (omega arith) (omega arith))
    ∙ count_done ss zero (omega arith) (λ j d lt. absurd (omega (arith, lt))) (λ j d high lt. free (suc j) d (omega arith) (omega (arith, lt)))
count_done (s ∷ ss) (suc k) le done free =
    let first = done zero s (omega arith) in
    ap (λ (x : Stage). length (replies_in x ++ flat_map replies_in ss)) first.1
    ∙ ap suc (count_done ss k (omega (arith, le)) (λ j d lt. done (suc j) d (omega (arith, lt)))
    (λ j d high lt. free (suc j) d (omega (arith, high)) (omega (arith, lt))))

one_done : (ss : List Stage) (k : ℕ) → k ≤ length ss → ((j : ℕ) (d : Stage) → j < k → (r : Reply) × (get_or ss j d ≡ stage.Done r))
    → (j : ℕ) (d : Stage) (r : Reply) → j < k → get_or ss j d ≡ stage.Done r → get_or (flat_map replies_in ss) j [] ≡ reply_of r
one_done [] k le done j d r lt is = absurd (omega (arith, le, lt))
one_done (s ∷ ss) zero le done j d r lt is = absurd (omega (arith, lt))
one_done (s ∷ ss) (suc k) le done zero d r lt is = ap (λ (x : Stage). get_or (replies_in x ++ flat_map replies_in ss) zero []) is
one_done (s ∷ ss) (suc k) le done (suc j) d r lt is =
    let first = done zero s (omega arith) in
    ap (λ (x : Stage). get_or (replies_in x ++ flat_map replies_in ss) (suc j) []) first.1
    ∙ one_done ss k (omega (arith, le)) (λ i e below. done (suc i) e (omega (arith, below))) j d r (omega (arith, lt)) is

-- what became of a request that waited, or of a lane without one
carried_is : {S C : Type 0} (sector : ℕ) (v w : View (State S C) Entry) (q : Queued) (s t : Stage) → s ≡ stage.Waits q → CarriesOut sector v w s t
    → (r : Reply) × (t ≡ stage.Done r) × ((f : Frame) → IsQueued sector f q → IsCarriedOut sector f v w r)
carried_is sector v w q s stage.Free is c = absurd (subst (λ (x : Stage). CarriesOut sector v w x stage.Free) is c)
carried_is sector v w q s (stage.Waits p) is c = absurd (subst (λ (x : Stage). CarriesOut sector v w x (stage.Waits p)) is c)
carried_is sector v w q s (stage.Done r) is c = (r, refl, subst (λ (x : Stage). CarriesOut sector v w x (stage.Done r)) is c)

nothing_is : {S C : Type 0} (sector : ℕ) (v w : View (State S C) Entry) (s t : Stage) → s ≡ stage.Free → CarriesOut sector v w s t
    → (t ≡ stage.Free) × (w ≡ v)
nothing_is sector v w s t is c = subst (λ (x : Stage). CarriesOut sector v w x t) is c

-- what waits is the request of some frame
can_carry : (sector : ℕ) (f : Frame) (s : Stage) → IsGiven sector f s → CanCarry sector s
can_carry sector f stage.Free given = absurd given
can_carry sector f (stage.Waits q) given = (f, given)
can_carry sector f (stage.Done r) given = absurd given

given_is : (sector : ℕ) (f : Frame) (s : Stage) → IsGiven sector f s → (q : Queued) × (s ≡ stage.Waits q) × IsQueued sector f q
given_is sector f stage.Free given = absurd given
given_is sector f (stage.Waits q) given = (q, refl, given)
given_is sector f (stage.Done r) given = absurd given

pub head_of : {X : Type 0} (xs : List X) → 0 < length xs → X
head_of [] lt = absurd (omega (arith, lt))
head_of (x ∷ xs) lt = x

pub all_queued : {S C : Type 0} {st : StandingGhosts (State S C) Entry} (sector : ℕ) (ls : List (Lane (State S C) Entry st)) (wave : List Frame)
    → HasWave sector wave (map stage_in ls) → All (HasQueued sector) ls
all_queued sector ls wave has k d lt =
    let at : get_or (map stage_in ls) k (stage_in d) ≡ stage_in (get_or ls k d) = get_or-map stage_in ls k d (stage_in d) lt in
    dite (dec_lt k (length wave))
    (λ low. can_carry sector (get_or wave k no_frame) (stage_in (get_or ls k d))
    (subst (IsGiven sector (get_or wave k no_frame)) at (has.holds k no_frame (stage_in d) low)))
    (λ high. subst (CanCarry sector) (sym (sym at ∙ has.free k (stage_in d) (omega (arith, high)) (omega (arith, lt, length-map ls stage_in)))) tt)

module _ {S C : Type 0} {st : StandingGhosts (State S C) Entry} (id : TableId) (g : Geometry) (c : C) where
  pub ran_as : (t u v w : Lane (State S C) Entry st) → t ≡ v → u ≡ w → HasRun id g c t u → HasRun id g c v w
  ran_as t u v w is now ran = subst (λ (x : Lane (State S C) Entry st). HasRun id g c x w) is (subst (HasRun id g c t) now ran)

  module _ (ls ms : List (Lane (State S C) Entry st)) (wave : List Frame) (as_many : length ms ≡ length ls)
      (run : (j : ℕ) (d : Lane (State S C) Entry st) → j < length ls → HasRun id g c (get_or ls j d) (get_or ms j d))
      (has : HasWave g.sector wave (map stage_in ls)) (few : length wave ≤ length ls) where
    in_lanes : (j : ℕ) → j < length wave → j < length ls
    in_lanes j lt = omega (arith, lt, few)

    -- with a request
    stage_at : (j : ℕ) (d : Lane (State S C) Entry st) → j < length ls → get_or (map stage_in ls) j (stage_in d) ≡ stage_in (get_or ls j d)
    stage_at j d lt = get_or-map stage_in ls j d (stage_in d) lt

    pub asked_at : (j : ℕ) (d : Lane (State S C) Entry st) (f : Frame) → j < length wave
        → (r : Reply) × ((get_or ms j d).stage ≡ stage.Done r) × IsCarriedOut g.sector (get_or wave j f) (view_in (get_or ls j d)) (view_in (get_or ms j d)) r
    asked_at j d f lt =
        let given = subst (IsGiven g.sector (get_or wave j f)) (stage_at j d (in_lanes j lt)) (has.holds j f (stage_in d) lt) in
        let q = given_is g.sector (get_or wave j f) (stage_in (get_or ls j d)) given in
        let r = carried_is g.sector (view_in (get_or ls j d)) (view_in (get_or ms j d)) q.0 (stage_in (get_or ls j d)) (stage_in (get_or ms j d)) q.1
        (run j d (in_lanes j lt)).carried in
        (r.0, r.1, r.2 (get_or wave j f) q.2)

    pub free_at : (j : ℕ) (d : Lane (State S C) Entry st) → length wave ≤ j → j < length ls
        → ((get_or ms j d).stage ≡ stage.Free) × (view_in (get_or ms j d) ≡ view_in (get_or ls j d))
    free_at j d high lt =
        nothing_is g.sector (view_in (get_or ls j d)) (view_in (get_or ms j d)) (stage_in (get_or ls j d)) (stage_in (get_or ms j d))
        (sym (stage_at j d lt) ∙ has.free j (stage_in d) high (omega (arith, lt, length-map ls stage_in))) (run j d lt).carried

    -- all lanes, in the terms of their passes and stages
    stage_now : (j : ℕ) (d : Lane (State S C) Entry st) (e : Stage) → j < length ls → get_or (map stage_in ms) j e ≡ (get_or ms j d).stage
    stage_now j d e lt = get_or-map stage_in ms j d e (omega (arith, lt, as_many))

    done_now : (d : Lane (State S C) Entry st) (j : ℕ) (e : Stage) → j < length wave → (r : Reply) × (get_or (map stage_in ms) j e ≡ stage.Done r)
    done_now d j e lt = let a = asked_at j d (get_or wave j no_frame) lt in (a.0, stage_now j d e (in_lanes j lt) ∙ a.1)

    free_now : (d : Lane (State S C) Entry st) (j : ℕ) (e : Stage) → length wave ≤ j → j < length (map stage_in ms) → get_or (map stage_in ms) j e ≡ stage.Free
    free_now d j e high lt = let within : j < length ls = omega (arith, lt, length-map ms stage_in, as_many) in
        stage_now j d e within ∙ (free_at j d high within).0

    abbrev pub rs : List (List ℕ)
    rs = flat_map replies_in (map stage_in ms)

    fits : length wave ≤ length (map stage_in ms)
    fits = omega (arith, few, as_many, length-map ms stage_in)

    ran_at : {j : ℕ} {v w x y : View (State S C) Entry} → v ≡ x → w ≡ y → RanOne g.sector wave rs j x y → RanOne g.sector wave rs j v w
    ran_at {j} {v} {w} {x} {y} first second ran = subst (λ (z : View (State S C) Entry). RanOne g.sector wave rs j z w) (sym first)
        (subst (RanOne g.sector wave rs j x) (sym second) ran)

    asked_ran : (l : Lane (State S C) Entry st) (j : ℕ) → j < length wave
        → RanOne g.sector wave rs j (view_in (get_or ls j l)) (view_in (get_or ms j l))
    asked_ran l j low =
        let a = asked_at j l (get_or wave j no_frame) low in record {
          es = a.2.es;
          call = a.2.call;
          answered = λ f lt. subst (λ (h : Frame). IsAnswered g.sector h (events_of a.2.es) (get_or rs j [])) (get_or_default wave j (get_or wave j no_frame) f low)
              (subst (IsAnswered g.sector (get_or wave j (get_or wave j no_frame)) (events_of a.2.es))
              (sym (one_done (map stage_in ms) (length wave) fits (done_now l) j (stage_in l) a.0 low (stage_now j l (stage_in l) (in_lanes j low) ∙ a.1)))
              a.2.answered);
          idle = λ high. absurd (omega (arith, high, low));
        }

    free_ran : (l : Lane (State S C) Entry st) (j : ℕ) → length wave ≤ j → j < length ls
        → RanOne g.sector wave rs j (view_in (get_or ls j l)) (view_in (get_or ms j l))
    free_ran l j high lt = record {
      es = [];
      call = subst (λ (x : View (State S C) Entry). Call (view_in (get_or ls j l)) x []) (sym (free_at j l high lt).1) (no_call (view_in (get_or ls j l)));
      answered = λ f low. absurd (omega (arith, high, low));
      idle = λ le. refl;
    }

    one_ran : (l : Lane (State S C) Entry st) (j : ℕ) (d : View (State S C) Entry) → j < length (map view_in ls)
        → RanOne g.sector wave rs j (get_or (map view_in ls) j d) (get_or (map view_in ms) j d)
    one_ran l j d lt =
        let within : j < length ls = omega (arith, lt, length-map ls view_in) in
        dite (dec_lt j (length wave))
        (λ low. ran_at (get_or-map view_in ls j l d within) (get_or-map view_in ms j l d (omega (arith, within, as_many)))
        (asked_ran l j low))
        (λ high. ran_at (get_or-map view_in ls j l d within) (get_or-map view_in ms j l d (omega (arith, within, as_many)))
        (free_ran l j (omega (arith, high)) within))

    pub have_run : Lane (State S C) Entry st → HaveRun g.sector wave rs (map view_in ls) (map view_in ms)
    have_run l = record {
      as_many = length-map ms view_in ∙ as_many ∙ sym (length-map ls view_in);
      few = omega (arith, few, length-map ls view_in);
      replies = count_done (map stage_in ms) (length wave) fits (done_now l) (free_now l);
      each = one_ran l;
    }
