-- What the fragments of a write come to, one after another.
--
-- before_others x others   what one fragment and those after it come to
-- state_of parts           waiting if one waits; else the first failure; else stored
-- answer_to x w            the answer for the write w, if its fragments come to x
use Rattle.std.specs.Prelude.{List, [], ◌∷◌}
use Rattle.io_core.specs.declared.answers.Close.{Close}
use Rattle.io_core.specs.declared.answers.Close.TheVariants as close
use Rattle.io_core.specs.declared.part.PartState.{PartState}
use Rattle.io_core.specs.declared.part.PartState.TheVariants.{Waiting, Stored, Spoilt}
use Rattle.io_core.specs.declared.prepared.Prepared.{Prepared}

abbrev pub before_others : PartState → PartState → PartState
before_others Waiting others = Waiting
before_others Stored others = others
before_others (Spoilt m) Waiting = Waiting
before_others (Spoilt m) Stored = Spoilt m
before_others (Spoilt m) (Spoilt n) = Spoilt m

abbrev pub state_of : List PartState → PartState
state_of [] = Stored
state_of (x ∷ xs) = before_others x (state_of xs)

abbrev pub answer_to : PartState → Prepared → Close
answer_to Waiting w = close.Waiting
answer_to Stored w = close.Done w.bytes
answer_to (Spoilt m) w = close.Lost m
