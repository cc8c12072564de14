-- The lanes of a session when their passes meet.
--
-- HaveMet v w us ws       the pass v and the passes us are w and ws now, in order: none of them got an entry, and the shares
--                         of all together are what they were
use Rattle.std.specs.Prelude.{◌≡◌, ◌<◌, ℕ, List, [], ◌∷◌, length, get_or}
use Rattle.hist_lock.specs.declared.view.View.{View}
use Rattle.io_core.specs.State.{State}
use Rattle.sector_model.specs.declared.entry.Entry.{Entry}
use Rattle.pipe_session.specs.Meeting.{GoesTo}
use Rattle.pipe_session.specs.Shares.{SameSum}

module _ {S C : Type 0} where
  pub record HaveMet (v w : View (State S C) Entry) (us ws : List (View (State S C) Entry)) : Type 0 where
    pub pass : GoesTo v w []
    pub as_many : length ws ≡ length us
    pub each : (j : ℕ) (d : View (State S C) Entry) → j < length us → GoesTo (get_or us j d) (get_or ws j d) []
    pub share : SameSum (v ∷ us) (w ∷ ws)
