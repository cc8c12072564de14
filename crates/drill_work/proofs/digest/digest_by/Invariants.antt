-- The hasher has absorbed the plain units of the pieces so far.
use Rattle.std.proofs.Common.{◌*◌}
use Rattle.sha2.specs.Hashers.{Holds256}
use Rattle.cascade_set.specs.Volume.{plain_units}
use Rattle.drill_work.proofs.digest.digest_by.Given as goal

abbrev pub invariant-pieces : goal.invariant-pieces
invariant-pieces g l = Holds256 l.hasher (plain_units (g.C.UnitCipher.deciphered l.cipher) l.bytes 256 (512 * l.i))
