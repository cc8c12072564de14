-- The marks of failed calls. A mark has the store's count of faults before and after one failed call, so it is
-- a stretch of that count. Each failure licenses one answer: the stretches of a history have no count in common.
--
-- IsMark least most m         m is the mark of a failed call while the count went from least to most
-- covering t ms               how many of the marks have the count t in their stretch
-- marks_of e                  the marks of an entry
-- marks_in h                  those of a history
-- AreMarks least most ms      they are marks of different failures
use Rattle.std.specs.Prelude.{◌≡◌, ◌≤◌, ◌<◌, ◌⊎◌, ◌&&◌, nat_le, nat_lt, ℕ, ◌-◌, ◌^◌, List, [], ◌∷◌, ◌++◌, All, count_by, map}
use Rattle.sector_model.specs.declared.entry.Entry.{Entry}
use Rattle.sector_model.specs.declared.entry.Event.{Event}
use Rattle.sector_model.specs.declared.entry.Event.TheVariants.{Lost, Fail}
use Rattle.sector_model.specs.declared.entry.FaultMark.{FaultMark}

-- The count rises, or it is at its greatest value, which it keeps.
pub record IsMark (least most : ℕ) (m : FaultMark) : Type 0 where
  pub from : least ≤ m.before
  pub to : m.after ≤ most
  pub rises : (m.before < m.after) ⊎ ((m.before ≡ 2 ^ 64 - 1) × (m.after ≡ 2 ^ 64 - 1))

abbrev pub covering : ℕ → List FaultMark → ℕ
covering t ms = count_by (λ m. nat_le m.before t && nat_lt t m.after) ms

abbrev pub marks_of : Event → List FaultMark
marks_of (Lost first now spoilt) = map (λ f. f.1) spoilt
marks_of (Fail first count mark) = mark ∷ []
marks_of other = []

abbrev pub marks_in : List Entry → List FaultMark
marks_in [] = []
marks_in (e ∷ h) = marks_of e.event ++ marks_in h

-- Two stretches at the greatest value are empty, and may repeat.
pub record AreMarks (least most : ℕ) (ms : List FaultMark) : Type 0 where
  pub each : All (IsMark least most) ms
  pub apart : (t : ℕ) → covering t ms ≤ 1
