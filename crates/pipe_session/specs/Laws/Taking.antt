-- A wave, as it is taken into the lanes.
--
-- CanFollow next r        the requests r may be those that follow if `next` is what is known of them
-- IsGiven f s             the request of the frame f waits in a lane
-- HasWave wave stages     the requests of a wave wait in the lanes, each in its own; the other lanes are free
-- TakesSome ..            a wave to which requests may still be added was taken
-- TakesWave ..            a whole wave was taken, or there is none
use Rattle.std.specs.Prelude.{◌≡◌, ◌<◌, ◌≤◌, ℕ, ⊤, List, [], ◌∷◌, ◌++◌, length, get_or, map, Option}
use Rattle.nbd_wire.specs.Frames.{Frame}
use Rattle.nbd_wire.specs.declared.ask.Ask.{Ask}
use Rattle.nbd_wire.specs.declared.end.End.{End}
use Rattle.pipe_lane.specs.Queue.{IsNext, IsQueued}
use Rattle.pipe_lane.specs.declared.lane.Stage.{Stage}
use Rattle.pipe_lane.specs.declared.lane.Stage.TheVariants as stage
use Rattle.pipe_lane.specs.declared.queued.Next.{Next}
use Rattle.pipe_lane.specs.declared.queued.Next.TheVariants as next
use Rattle.pipe_session.specs.Waves.{ask, waves, waves_after}

module _ (sector : ℕ) where
  abbrev pub CanFollow : Next → List Frame → Type 0
  CanFollow next.Unknown r = ⊤
  CanFollow (next.Asked q) [] = ⊥
  CanFollow (next.Asked q) (f ∷ r) = ask sector f ≡ q.ask
  CanFollow (next.Over how) r = r ≡ []

  abbrev pub IsGiven : Frame → Stage → Type 0
  IsGiven f (stage.Waits q) = IsQueued sector f q
  IsGiven f other = ⊥

  pub record HasWave (wave : List Frame) (stages : List Stage) : Type 0 where
    pub holds : (j : ℕ) (f : Frame) (d : Stage) → j < length wave → IsGiven (get_or wave j f) (get_or stages j d)
    pub free : (j : ℕ) (d : Stage) → length wave ≤ j → j < length stages → get_or stages j d ≡ stage.Free

  pub record TakesSome (depth : ℕ) (left later : Option (List ℕ)) (fs : List Frame) (before after : Next) (stages : List Stage) (k : ℕ)
      (asks : List Ask) : Type 0 where
    pub wave : List Frame
    pub heard : IsNext sector left later (fs ++ wave) after
    pub size : length wave ≡ k
    pub has : HasWave wave stages
    pub asks_are : asks ≡ map (ask sector) wave
    pub first : k ≡ 0 → after ≡ before
    pub unknown : 0 < k → after ≡ next.Unknown
    pub starts : 0 < k → (r : List Frame) → CanFollow before (wave ++ r)
    pub opens : 0 < k → (r : List Frame) → waves sector depth (wave ++ r) ≡ waves_after sector depth wave r

  pub record TakesWave (depth : ℕ) (left later : Option (List ℕ)) (fs : List Frame) (before after : Next) (stages : List Stage) (k : ℕ) : Type 0 where
    pub wave : List Frame
    pub heard : IsNext sector left later (fs ++ wave) after
    pub size : length wave ≡ k
    pub has : HasWave wave stages
    pub starts : 0 < k → (r : List Frame) → CanFollow before (wave ++ r)
    pub ends : 0 < k → (r : List Frame) → CanFollow after r → waves sector depth (wave ++ r) ≡ wave ∷ waves sector depth r
    pub over : k ≡ 0 → (how : End) × (after ≡ next.Over how)
    pub last : k ≡ 0 → CanFollow before []
