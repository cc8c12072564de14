use Rattle.std.proofs.Common.{◌≡◌, ◌*◌, arith, subst, ◌∙◌, refl, ap, List, ℕ}
use Rattle.sha2.specs.Hashers.{Holds256}
use Rattle.sha2.specs.Sha256.{sha256}
use Rattle.vc_base.specs.Bytes.{joined}
use Rattle.cascade_set.specs.Volume.{plain_units}
use Rattle.drill_work.proofs.Units.{next_units}
use Rattle.drill_work.proofs.digest.digest_by.Goals as goal

pub decipher_piece-requires-clause-whole : goal.decipher_piece-requires-clause-whole
decipher_piece-requires-clause-whole g c = omega (arith, c.pieces.auto.piece, c.requires.room)

pub decipher_piece-requires-clause-within : goal.decipher_piece-requires-clause-within
decipher_piece-requires-clause-within g c = omega (arith, c.pieces.auto.piece, c.requires.room, c.pieces-test.true, c.requires.size)

pub pieces-init : goal.pieces-init
unfolding joined
pieces-init g c = c.new-hasher.ensures

pub pieces-preserved : goal.pieces-preserved
pieces-preserved g c =
    subst (λ (m : List ℕ). Holds256 c.update.new.self m)
    (next_units (g.C.UnitCipher.deciphered c.args.cipher.now) c.args.bytes.now c.decipher_piece.new.piece c.pieces.i _ _ refl
    (omega (arith, c.pieces.auto.piece, c.requires.room)) c.decipher_piece.ensures.units)
    (c.update.ensures _ c.pieces.invariant)

pub returns : goal.returns
returns g c =
    let all : c.pieces.i ≡ 19 = omega (arith, c.pieces-test.false, c.pieces.auto.i-end) in
    c.finalize.ensures _ c.pieces.invariant
    ∙ ap (λ (k : ℕ). sha256 (plain_units (g.C.UnitCipher.deciphered c.args.cipher.now) c.args.bytes.now 256 (512 * k))) all
