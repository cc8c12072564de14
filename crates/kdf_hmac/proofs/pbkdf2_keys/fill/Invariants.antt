use Rattle.std.proofs.Common.{length}
use Rattle.kdf_hmac.specs.Hmac.{output_length}
use Rattle.kdf_hmac.specs.Laws.Progress.{Filled, block}
use Rattle.kdf_hmac.proofs.pbkdf2_keys.fill.Given as goal

abbrev pub invariant-pieces : goal.invariant-pieces
invariant-pieces g l =
    Filled (block g.H.Hasher.prf l.password l.salt l.iterations) (output_length g.H.Hasher.prf) (length l.initial.out) l.out l.i
