-- What passes tell one another.
--
-- HasTold v w u z         a pass was split from v, which is w now, and joined into u, which is z now
-- GoesTo v w es           the pass v is w now: it got the entries es, and passes without entries were joined into it
-- HaveServed v w us ws h  the pass v and the passes us of lanes are w and ws now: since all had seen the same, the history h was
--                         added, in which the entries of each lane are those that it got; the pass got none, and the shares of
--                         all together are what they were
-- HaveSeen w vs           each of them has seen the same as w
use Rattle.std.specs.Prelude.{◌≡◌, ◌<◌, ◌≤◌, ℕ, List, [], ◌∷◌, ◌++◌, All, length, get_or}
use Rattle.hist_lock.specs.History.{entries, SameUnder, StartsWith}
use Rattle.hist_lock.specs.Known.{Adds, Halves, IsSame, longer}
use Rattle.hist_lock.specs.declared.view.View.{View}
use Rattle.io_core.specs.State.{State}
use Rattle.io_queue.specs.Pass.{caller_of}
use Rattle.sector_model.specs.declared.entry.Entry.{Entry}
use Rattle.pipe_session.specs.Shares.{SameSum}

pub record HasTold {S C : Type 0} (v w u z : View (State S C) Entry) : Type 0 where
  -- the pass that tells is the same but for its share
  pub same : IsSame v w
  pub seen : w.seen ≡ v.seen
  pub mine : w.mine ≡ v.mine
  -- the other one has seen what either had
  pub base : z.base ≡ u.base
  pub number : z.number ≡ u.number
  pub own : z.mine ≡ u.mine
  pub knows : u.given ≤ z.given
  pub longer_is : z.seen ≡ longer u.seen v.seen
  pub later : StartsWith z.seen u.seen
  pub sees : StartsWith z.seen v.seen
  pub settled : SameUnder caller_of u.under z.seen u.seen
  -- it has half of the share of the pass that tells, besides its own
  pub half : View (State S C) Entry
  pub kept : Halves v w
  pub given : Halves v half
  pub adds : Adds u half z
  -- under the number of the pass that was split, which is new, there is no entry
  pub new : v.given ≤ half.number
  pub under : z.under ≡ u.under ++ half.number ∷ []
  pub idle : entries caller_of half.number z.seen ≡ []

module _ {S C : Type 0} where
  pub record GoesTo (v w : View (State S C) Entry) (es : List Entry) : Type 0 where
    pub base : w.base ≡ v.base
    pub number : w.number ≡ v.number
    pub mine : w.mine ≡ v.mine ++ es
    pub given : v.given ≤ w.given
    pub later : StartsWith w.seen v.seen
    -- the passes that were joined into it have the entries that they had, or none if they are new
    pub settled : SameUnder caller_of v.under w.seen v.seen
    pub gained : List ℕ
    pub under : w.under ≡ v.under ++ gained
    pub idle : All (λ n. entries caller_of n w.seen ≡ []) gained

  pub record HaveServed (v w : View (State S C) Entry) (us ws : List (View (State S C) Entry)) (h : List Entry) : Type 0 where
    pub past : List Entry
    pub earlier : StartsWith past v.seen
    pub seen : w.seen ≡ past ++ h
    pub pass : GoesTo v w []
    pub as_many : length ws ≡ length us
    pub lanes : (j : ℕ) (d : View (State S C) Entry) → j < length us
        → GoesTo (get_or us j d) (get_or ws j d) (entries caller_of (get_or us j d).number h)
    pub share : SameSum (v ∷ us) (w ∷ ws)

  abbrev pub HaveSeen : View (State S C) Entry → List (View (State S C) Entry) → Type 0
  HaveSeen w vs = All (λ v. v.seen ≡ w.seen) vs
