-- One wave more of a session: it goes on, or the replies of the wave stop.
use Rattle.std.proofs.Common.{◌≡◌, ◌<◌, ℕ, ◌+◌, List, [], ◌∷◌, ◌++◌, length, map, All, Option, None, Some, append-nil, refl, sym, ap, ◌∙◌, subst, arith}
use Rattle.std.proofs.lemmas.List.{get_or-map, length-map}
use Rattle.hist_lock.specs.declared.view.View.{View}
use Rattle.hist_standing.specs.declared.Standing.{Ghosts as StandingGhosts}
use Rattle.sector_model.specs.declared.entry.Entry.{Entry}
use Rattle.io_core.specs.State.{State}
use Rattle.nbd_wire.specs.Frames.{Frame}
use Rattle.nbd_wire.specs.declared.end.End.{End}
use Rattle.nbd_wire.specs.declared.end.End.TheVariants as end
use Rattle.pipe_lane.specs.Lanes.{view_in}
use Rattle.pipe_lane.specs.declared.lane.Lane.{Lane}
use Rattle.pipe_lane.specs.declared.lane.Stage.{Stage}
use Rattle.pipe_lane.specs.declared.queued.Next.{Next}
use Rattle.pipe_lane.specs.declared.queued.Next.TheVariants as next
use Rattle.pipe_lane.specs.Heard.{HeardAll}
use Rattle.pipe_lane.specs.Queue.{IsNext}
use Rattle.pipe_session.proofs.LastEnd.{no_write_fault}
use Rattle.pipe_session.specs.Meeting.{HaveSeen, HaveServed}
use Rattle.pipe_session.specs.ToldPipe.{ServesPipe}
use Rattle.pipe_session.specs.Waves.{waves}
use Rattle.pipe_session.specs.Laws.Lanes.{HaveMet}
use Rattle.pipe_session.specs.Laws.Running.{Waved}
use Rattle.pipe_session.specs.Laws.Taking.{CanFollow, TakesWave}
use Rattle.pipe_session.specs.Laws.Waved.{Onward}
use Rattle.pipe_session.proofs.OnePart.{carried_out, IsOwn, served_more}
use Rattle.pipe_session.proofs.ToldInWaves.{serves_all, serves_in_part, wave_done}

pub none_is : (e : Option End) → ((x : End) → e ≡ Some x → ⊥) → e ≡ None
none_is None not = refl
none_is (Some x) not = absurd (not x refl)

none_in : (wave : List Frame) → length wave ≡ 0 → wave ≡ []
none_in [] is = refl
none_in (f ∷ fs) is = absurd (omega (arith, is))

head_at : {X : Type 0} (xs : List X) (k : ℕ) → k < length xs → X
head_at [] k lt = absurd (omega (arith, lt))
head_at (x ∷ xs) k lt = x

-- what a lane's pass knows of its own entries
pub all_own : {S C : Type 0} {st : StandingGhosts (State S C) Entry} (ls : List (Lane (State S C) Entry st)) → All (λ l. IsOwn (view_in l)) ls
    → All IsOwn (map view_in ls)
all_own ls all k d lt =
    let within : k < length ls = omega (arith, lt, length-map ls view_in) in
    let l = head_at ls k within in
    subst IsOwn (sym (get_or-map view_in ls k l d within)) (all k l within)

module _ {S C : Type 0} where
  pub first_met : (v w : View (State S C) Entry) (us ws : List (View (State S C) Entry)) → HaveMet v w us ws → HaveServed v w us ws []
  first_met v w us ws met = record {
    past = w.seen;
    earlier = met.pass.later;
    seen = sym (append-nil w.seen);
    pass = met.pass;
    as_many = met.as_many;
    lanes = λ j d lt. met.each j d lt;
    share = met.share;
  }

  module _ (sector depth : ℕ) (v w y : View (State S C) Entry) (us ws ys : List (View (State S C) Entry)) (left middle later held out now : Option (List ℕ))
      (was after : Next) (h : List Entry) (n sent count : ℕ) (stages : List Stage) (served : HaveServed v w us ws h)
      (on : Onward sector (map (λ u. u.number) us) left middle held out was h n) (seen : HaveSeen w ws) (seen_now : HaveSeen y ys)
      (own : All IsOwn ws) (own_now : All IsOwn ys)
      (takes : TakesWave sector depth left later on.done was after stages count) (some : 0 < count)
      (depth_is : depth ≡ length (map (λ u. u.number) us)) where
    ends : (r : List Frame) → CanFollow sector after r
        → waves sector (length (map (λ (u : View (State S C) Entry). u.number) us)) (takes.wave ++ r)
        ≡ takes.wave ∷ waves sector (length (map (λ (u : View (State S C) Entry). u.number) us)) r
    ends r can = subst (λ (k : ℕ). waves sector k (takes.wave ++ r) ≡ takes.wave ∷ waves sector k r) depth_is (takes.ends some r can)

    pub wave_on : Waved sector takes.wave w y ws ys out now sent None
        → (g : List Entry) × HaveServed v y us ys g × Onward sector (map (λ u. u.number) us) left later held now after g (n + sent)
    wave_on waved =
        let counted : length takes.wave ≡ sent = sym (waved.sent.0 ∙ waved.ran.replies) in (
          h ++ waved.met.pass.later.0,
          served_more sector v w y us ws waved.between ys h takes.wave waved.replies served seen waved.ran waved.met seen_now own own_now,
          subst (λ (k : ℕ). Onward sector (map (λ u. u.number) us) left later held now after (h ++ waved.met.pass.later.0) (n + k)) counted
              (wave_done sector (map (λ u. u.number) us) left middle later held out now was after h waved.met.pass.later.0 n takes.wave waved.replies on
              takes.heard (takes.starts some) ends
              (carried_out sector v w y us ws waved.between ys h takes.wave waved.replies served seen waved.ran waved.met seen_now own own_now)
              waved.sent.1),
        )

    pub wave_stops : (how : End) → Waved sector takes.wave w y ws ys out now sent (Some how) → (rose : Type 0) → (after ≡ next.Over end.ReadFault → rose)
        → (g : List Entry) × HaveServed v y us ys g × ServesPipe sector (map (λ u. u.number) us) left later held now rose g (n + sent) how
    wave_stops how waved rose rises = (
      h ++ waved.met.pass.later.0,
      served_more sector v w y us ws waved.between ys h takes.wave waved.replies served seen waved.ran waved.met seen_now own own_now,
      serves_in_part sector (map (λ u. u.number) us) left middle later held out now was after h waved.met.pass.later.0 n takes.wave waved.replies on
          takes.heard (takes.starts some) ends
          (carried_out sector v w y us ws waved.between ys h takes.wave waved.replies served seen waved.ran waved.met seen_now own own_now)
          sent how waved.sent rose rises,
    )

-- there was no other request
pub session_ends : (sector depth : ℕ) (ns : List ℕ) (left middle later held out : Option (List ℕ)) (was after : Next) (how : End) (h : List Entry) (n count : ℕ)
    (stages : List Stage) (on : Onward sector ns left middle held out was h n)
    (takes : TakesWave sector depth left later on.done was after stages count) → count ≡ 0
    → ((e : End) → after ≡ next.Over e → how ≡ e) → (rose : Type 0) → ServesPipe sector ns left later held out rose h n how
session_ends sector depth ns left middle later held out was after how h n count stages on takes none is rose =
    let over = takes.over none in
    let same : how ≡ over.0 = is over.0 over.1 in
    subst (ServesPipe sector ns left later held out rose h n) (sym same)
    (serves_all sector ns left middle later held out was over.0 h n on
    (subst (λ (l : List Frame). IsNext sector left later l (next.Over over.0)) (ap (λ (w : List Frame). on.done ++ w) (none_in takes.wave (takes.size ∙ none))
    ∙ append-nil on.done) (subst (IsNext sector left later (on.done ++ takes.wave)) over.1 takes.heard))
    (takes.last none) rose)

-- which isn't for a fault of the sink
pub ends_unrefused : (sector depth : ℕ) (ns : List ℕ) (left middle later held out : Option (List ℕ)) (was after : Next) (how : End) (h : List Entry)
    (n count : ℕ) (stages : List Stage) (on : Onward sector ns left middle held out was h n)
    (takes : TakesWave sector depth left later on.done was after stages count) → count ≡ 0
    → ((e : End) → after ≡ next.Over e → how ≡ e) → how ≡ end.WriteFault → ⊥
ends_unrefused sector depth ns left middle later held out was after how h n count stages on takes none is fault =
    let over = takes.over none in
    let heard : HeardAll left later (on.done ++ takes.wave) over.0 = subst (IsNext sector left later (on.done ++ takes.wave)) over.1 takes.heard in
    no_write_fault heard.taken over.0 heard.are.1 (sym (is over.0 over.1) ∙ fault)

pub ends_for : (sector depth : ℕ) (left later : Option (List ℕ)) (fs : List Frame) (was after : Next) (how : End) (count : ℕ) (stages : List Stage)
    (takes : TakesWave sector depth left later fs was after stages count) → count ≡ 0
    → ((e : End) → after ≡ next.Over e → how ≡ e) → how ≡ end.ReadFault → after ≡ next.Over end.ReadFault
ends_for sector depth left later fs was after how count stages takes none is fault =
    let over = takes.over none in over.1 ∙ ap next.Over (sym (is over.0 over.1) ∙ fault)
