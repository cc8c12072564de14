use Rattle.std.proofs.Common.{◌≡◌, ◌+◌, ◌-◌, ◌*◌, ◌/◌, ℕ, List, take, drop, length, refl, sym, ap, subst, ◌∙◌, rules, arith}
use Rattle.vc_base.specs.Bytes.{IsBytes, to_bytes, in_pieces}
use Rattle.vc_base.proofs.Bytes.{IsBytes-to_bytes}
use Rattle.cipher_base.specs.Field.{times_power}
use Rattle.cipher_base.specs.Xts.{whitened, xts}
use Rattle.cipher_base.proofs.Loops.{starts, goes_on, ends}
use Rattle.cipher_base.proofs.Groups.{Ready, ready_anew, ready_next, ready_here}
use Rattle.cipher_base.proofs.xts.XtsUnitCipher.decipher_units.Goals as goal
use Rattle.cipher_base.proofs.xts.XtsUnitCipher.decipher_units.Goals.{then-i-eq0, else-i-eq0}

pub loop-i-init : goal.loop-i-init
loop-i-init g c = record { ready = λ h. absurd (omega arith); done = starts _ _ _ _ refl }

pub decipher_from-requires-clause-block : goal.decipher_from-requires-clause-block
decipher_from-requires-clause-block g c =
    let tweak_of = g.P.BlockCipher.enciphered c.args.self.now.tweak in
    let count = length c.args.units.now / 512 in
    let i = c.loop-i.i in
    let ready : Ready tweak_of c.args.first count i c.if-i-eq0.tweaks
    = elim c.if-i-eq0.branch [
      | then-i-eq0 w ↦
          subst (Ready tweak_of c.args.first count i) (sym w.tweaks-is)
          (ready_anew tweak_of c.args.first count i w.min.result w.first_tweaks-tweaks.result w.if-i-eq0.true (search rules) w.first_tweaks-tweaks.ensures)
      | else-i-eq0 w ↦
          subst (Ready tweak_of c.args.first count i) (sym w.tweaks-is) (c.loop-i.invariant.ready (omega arith))
    ] in
    let number = to_bytes 16 (c.args.first + i) in
    let is_tweak : c.copy_from_slice.new.self ≡ tweak_of number
    = c.copy_from_slice.ensures.after ∙ ready_here tweak_of c.args.first count i _ c.if-i-eq0.tweaks ready c.loop-i-test.true (omega arith) in
    subst (IsBytes 16) (sym is_tweak)
    (g.met.P.BlockCipher.enciphered_is_block c.args.self.now.tweak number (IsBytes-to_bytes 16 (c.args.first + i)))

pub loop-i-preserved : goal.loop-i-preserved
loop-i-preserved g c =
    let tweak_of = g.P.BlockCipher.enciphered c.args.self.now.tweak in
    let main = g.P.BlockCipher.deciphered c.args.self.now.main in
    let count = length c.args.units.now / 512 in
    let i = c.loop-i.i in
    let ready : Ready tweak_of c.args.first count i c.if-i-eq0.tweaks
    = elim c.if-i-eq0.branch [
      | then-i-eq0 w ↦
          subst (Ready tweak_of c.args.first count i) (sym w.tweaks-is)
          (ready_anew tweak_of c.args.first count i w.min.result w.first_tweaks-tweaks.result w.if-i-eq0.true (search rules) w.first_tweaks-tweaks.ensures)
      | else-i-eq0 w ↦
          subst (Ready tweak_of c.args.first count i) (sym w.tweaks-is) (c.loop-i.invariant.ready (omega arith))
    ] in
    let is_tweak : c.copy_from_slice.new.self ≡ tweak_of (to_bytes 16 (c.args.first + i))
    = c.copy_from_slice.ensures.after ∙ ready_here tweak_of c.args.first count i _ c.if-i-eq0.tweaks ready c.loop-i-test.true (omega arith) in
    let whole : length c.decipher_from.new.stretch ≡ 512 = search rules in
    record {
      ready = λ h. ready_next tweak_of c.args.first count i c.if-i-eq0.tweaks ready h;
      done = goes_on 512 i (512 * i) (512 * i + 512 - 512 * i)
          (λ i u. xts main tweak_of (c.args.first + i) u)
          c.args.units.now c.loop-i.units c.decipher_from.new.stretch c.loop-i.invariant.done refl (omega arith) (omega arith)
          (c.decipher_from.ensures ∙ ap (λ (t : List ℕ). in_pieces 16 (λ j p. whitened main (times_power j t) p)
          (take (512 * i + 512 - 512 * i) (drop (512 * i) c.loop-i.units))) is_tweak) whole;
    }

pub returns : goal.returns
returns g c = ends 512 c.loop-i.i _ _ _ c.loop-i.invariant.done (omega arith) c.loop-i-test.false (omega arith) c.requires.whole
