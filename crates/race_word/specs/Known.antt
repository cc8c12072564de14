-- What contracts see on a runner.
--
-- view seat                 what the runner of that seat knows: steps, last and bound
-- IsRunnerOf id key seat    it is a runner of the word whose table is id, with that key
-- newcomer key              the first runner of a word
use Rattle.std.specs.Prelude.{◌≡◌, true, Some}
use Rattle.atomic_table.specs.Seated.{TableId}
use Rattle.atomic_table.specs.declared.shared.Seat.{Seat}
use Rattle.race_word.specs.declared.view.Key.{Key}
use Rattle.race_word.specs.declared.view.View.{View}

module _ {R : Type 0} where
  abbrev pub newcomer : Key R → View R
  newcomer key = record {
    live = true;
    names = Some key.names;
    limit = key.limit;
    steps = 0;
    last = key.limit;
    bound = key.limit;
  }

module _ {S R : Type 0} where
  abbrev pub view : Seat S (View R) → View R
  view seat = seat.me.0

  pub record IsRunnerOf (id : TableId) (key : Key R) (seat : Seat S (View R)) : Type 0 where
    pub table : seat.table_id ≡ id
    pub names : (view seat).names ≡ Some key.names
    pub limit : (view seat).limit ≡ key.limit
