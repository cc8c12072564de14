-- The data of options 6 and 7, part by part.
--
-- info_asked content          what the data asks for
-- after_length n content      the same, by the length of the name and what follows it
-- after_name n content        the same, by the length of the name and what follows the name
use Rattle.std.specs.Prelude.{ℕ, ◌==◌, ◌+◌, ◌*◌, List, length, if◌then◌else◌}
use Rattle.nbd_hand.specs.Options.{is_well_formed, named}
use Rattle.nbd_hand.specs.Wire.{field}
use Rattle.nbd_hand.specs.declared.asked.Asked.{Asked}
use Rattle.nbd_hand.specs.declared.asked.Asked.TheVariants.{Default, Named, Malformed}

abbrev pub info_asked : List ℕ → Asked
info_asked content = if is_well_formed content then named content else Malformed

abbrev pub by_length : ℕ → Asked
by_length n = if n == 0 then Default else Named

abbrev pub after_length : ℕ → List ℕ → Asked
after_length n content = if length content == 2 + n + 2 * field n 2 content then by_length n else Malformed

abbrev pub after_name : ℕ → List ℕ → Asked
after_name n content = if length content == 2 + 2 * field 0 2 content then by_length n else Malformed
