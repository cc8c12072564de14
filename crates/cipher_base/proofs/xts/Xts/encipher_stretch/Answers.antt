use Rattle.std.proofs.Common.{ℕ, List, length, ap, sym, subst, ◌∙◌}
use Rattle.vc_base.specs.Bytes.{IsBytes, to_bytes, in_pieces}
use Rattle.vc_base.proofs.Bytes.{IsBytes-to_bytes}
use Rattle.cipher_base.specs.Field.{times_power}
use Rattle.cipher_base.specs.Xts.{whitened, xts}
use Rattle.cipher_base.specs.Laws.{xts_undone_whole}
use Rattle.cipher_base.proofs.xts.Xts.encipher_stretch.Goals as goal

pub encipher_from-requires-clause-block : goal.encipher_from-requires-clause-block
encipher_from-requires-clause-block g c =
    subst (IsBytes 16) (sym c.first_tweak.ensures)
    (g.met.P.BlockCipher.enciphered_is_block c.args.self.now.tweak (to_bytes 16 c.args.unit) (IsBytes-to_bytes 16 c.args.unit))

pub returns-clause-enciphered : goal.returns-clause-enciphered
returns-clause-enciphered g c =
    c.encipher_from.ensures
    ∙ ap (λ (t : List ℕ). in_pieces 16 (λ j p. whitened (g.P.BlockCipher.enciphered c.args.self.now.main) (times_power j t) p) c.args.stretch.now)
    c.first_tweak.ensures

pub returns-clause-undoes : goal.returns-clause-undoes
returns-clause-undoes g c u bytes made =
    returns-clause-enciphered g c
    ∙ ap (xts (g.P.BlockCipher.enciphered c.args.self.now.main) (g.P.BlockCipher.enciphered c.args.self.now.tweak) c.args.unit) made
    ∙ xts_undone_whole (length c.args.stretch.now) (g.P.BlockCipher.deciphered c.args.self.now.main) (g.P.BlockCipher.enciphered c.args.self.now.main)
    (g.P.BlockCipher.enciphered c.args.self.now.tweak) c.args.unit u
    (g.met.P.BlockCipher.deciphered_is_block c.args.self.now.main) (g.met.P.BlockCipher.enciphers c.args.self.now.main)
    c.requires.whole bytes
